-- A bounded queue of buffer numbers.
use Rattle.std.specs.Prelude.{◌≡◌, ◌≤◌, ℕ, List, [], ◌∷◌, length}

-- how many numbers the queue may hold, and those that wait, the one that waits longest first
pub record Queue : Type 0 where
  pub capacity : ℕ
  pub waiting : List ℕ

-- no more wait than may
abbrev pub IsWithin : Queue → Type 0
IsWithin q = length q.waiting ≤ q.capacity

-- nobody waits
pub record IsEmpty (old new : Queue) : Type 0 where
  pub none : old.waiting ≡ []
  pub same : new ≡ old

-- x, which waited longest, is taken, and all others wait as before
pub record IsTaken (old new : Queue) (x : ℕ) : Type 0 where
  pub first : old.waiting ≡ x ∷ new.waiting
  pub capacity : new.capacity ≡ old.capacity
