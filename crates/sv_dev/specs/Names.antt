-- What stands under names, as a host tells it or not, and what its calls leave there.
use Rattle.std.specs.Prelude.{◌≡◌, ◌≢◌, ◌⊎◌, ⊤, ℕ, List, Option, Some, None, Result, MatchResult, IfSome, IsSomeAnd}

-- the bytes under each name, where they are told
abbrev pub Under : Type 0
Under = Option (List ℕ → Option (List ℕ))

-- where it is told what stands under names, the name is there, and what is left of its source is told: all that stands there
abbrev pub GivesUnder : Under → List ℕ → Option (List ℕ) → Type 0
GivesUnder told name left = IfSome told (λ under. IsSomeAnd left (λ bytes. under name ≡ Some bytes))

-- where it is told, this holds of what stood under each name and of what stands there now; what is told stays told
abbrev pub Both : Under → Under → ((List ℕ → Option (List ℕ)) → (List ℕ → Option (List ℕ)) → Type 0) → Type 0
Both None None holds = ⊤
Both (Some old) (Some new) holds = holds old new
Both None (Some new) holds = ⊥
Both (Some old) None holds = ⊥

-- under each other name stands what stood there
abbrev pub SameElsewhere : List ℕ → (List ℕ → Option (List ℕ)) → (List ℕ → Option (List ℕ)) → Type 0
SameElsewhere name old new = (other : List ℕ) → other ≢ name → new other ≡ old other

-- a call that puts bytes under a name: they stand there after Ok, and they or what stood there after a refusal. Under
-- each other name stands what stood there
abbrev pub PutsUnder : {T E : Type 0} → Under → Under → List ℕ → List ℕ → Result T E → Type 0
PutsUnder old new name bytes result = Both old new (λ before after. SameElsewhere name before after
    × MatchResult result (λ _. after name ≡ Some bytes) (λ _. (after name ≡ Some bytes) ⊎ (after name ≡ before name)))

-- a call that puts bytes that are told, or not, under a name
abbrev pub PutsToldUnder : {T E : Type 0} → Under → Under → List ℕ → Option (List ℕ) → Result T E → Type 0
PutsToldUnder old new name None result = Both old new (SameElsewhere name)
PutsToldUnder old new name (Some bytes) result = PutsUnder old new name bytes result
