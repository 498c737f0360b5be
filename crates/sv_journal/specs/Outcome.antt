-- What a step of the reading answers: a value, or that no line begins so.
use Rattle.std.specs.Prelude.{◌≡◌, List, ℕ, Option, Some, None, Result, Ok, Err}
use Rattle.sv_journal.specs.declared.refusal.Refusal.{Refusal}
use Rattle.sv_journal.specs.declared.refusal.Refusal.TheVariants.{Grammar, NoMemory}

-- the second step, where the first has a value
infixl 10 ◌>>=◌
abbrev pub ◌>>=◌ : {A B : Type 0} → Option A → (A → Option B) → Option B
(Some x) >>= f = f x
None >>= f = None

-- want of memory is tied to nothing
abbrev pub Refuses : {Y : Type 0} → Refusal → Option Y → Type 0
Refuses Grammar said = said ≡ None
Refuses NoMemory said = Unit {0}

-- what was answered, seen by view, is what the bytes say, unless memory ran out
abbrev pub Gives : {X Y : Type 0} → (X → Y) → Result X Refusal → Option Y → Type 0
Gives view (Ok x) said = said ≡ Some (view x)
Gives view (Err e) said = Refuses e said

-- the same of what is taken from the front of a text, where these bytes are left
abbrev pub Takes : {X Y : Type 0} → (X → Y) → Result X Refusal → List ℕ → Option (Y × List ℕ) → Type 0
Takes view (Ok x) left said = said ≡ Some (view x, left)
Takes view (Err e) left said = Refuses e said
