-- What an object that may not tell its content does to it: what it told stays told.
use Rattle.std.specs.Prelude.{◌≡◌, ◌≤◌, ◌++◌, ℕ, List, [], length, take, Option, Result, MatchResult, IfSome}
use Rattle.std.specs.Option.{option_map}
use Rattle.sv_dev.specs.declared.fault.Failed.{Failed}

-- what was told, with these bytes more
abbrev pub grown : Option (List ℕ) → List ℕ → Option (List ℕ)
grown told bytes = option_map (λ old. old ++ bytes) told

-- some front of the bytes was appended
abbrev pub AppendsFront : Option (List ℕ) → Option (List ℕ) → List ℕ → Type 0
AppendsFront old new bytes = (n : ℕ) × (n ≤ length bytes) × (new ≡ grown old (take n bytes))

-- a call that appends all of the bytes, or fails and has appended some front of them
abbrev pub Writes : Option (List ℕ) → Option (List ℕ) → List ℕ → Result (Unit {0}) Failed → Type 0
Writes old new bytes result = MatchResult result (λ _. new ≡ grown old bytes) (λ _. AppendsFront old new bytes)

-- what was told begins with these bytes, and loses them
abbrev pub Loses : Option (List ℕ) → Option (List ℕ) → List ℕ → Type 0
Loses old new bytes = old ≡ option_map (λ left. bytes ++ left) new

-- a call that gives the first bytes of what is left, or fails and takes none of them
abbrev pub Takes : Option (List ℕ) → Option (List ℕ) → List ℕ → Result ℕ Failed → Type 0
Takes old new into result = MatchResult result (λ n. Loses old new (take n into)) (λ _. new ≡ old)

-- nothing is left, where it is told
abbrev pub IsAtEnd : Option (List ℕ) → Type 0
IsAtEnd told = IfSome told (λ left. left ≡ [])
