-- Several stakes that are merged into one.
use Rattle.std.specs.Prelude.{◌≡◌, ◌≢◌, ◌<◌, ◌≤◌, ℕ, List, length, None, IsSome}
use Rattle.std.specs.List.{slice_index_or}
use Rattle.sv_store.specs.Held.{Held, Apart}

-- what part i holds, nothing past the last part
abbrev pub part : List Held → ℕ → Held
part parts i = slice_index_or parts i (λ _ _. None)

-- no line is held by two of them
pub record AllApart (h : Held) (parts : List Held) : Type 0 where
  pub own : (i : ℕ) → i < length parts → Apart h (part parts i)
  pub each : (i j : ℕ) → i < length parts → j < length parts → i ≢ j → Apart (part parts i) (part parts j)

-- the lines of the first and of the parts from one number on, each with its bytes, and no other line
pub record JoinsFrom (from : ℕ) (h : Held) (parts : List Held) (new : Held) : Type 0 where
  pub own : (b l : ℕ) → IsSome (h b l) → new b l ≡ h b l
  pub theirs : (i : ℕ) → from ≤ i → i < length parts → (b l : ℕ) → IsSome (part parts i b l) → new b l ≡ part parts i b l
  pub only : (b l : ℕ) → h b l ≡ None → ((i : ℕ) → from ≤ i → i < length parts → part parts i b l ≡ None) → new b l ≡ None

abbrev pub Joins : Held → List Held → Held → Type 0
Joins h parts new = JoinsFrom 0 h parts new
