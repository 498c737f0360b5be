-- Blocks that are cut off one after another, for tests: part i is block 100 + i, whole.
use Rattle.std.specs.Prelude.{◌≡◌, ◌<◌, ◌≤◌, ◌+◌, ◌⊎◌, ℕ, List, length, None, IsSome}
use Rattle.sv_store.specs.Held.{Held}
use Rattle.sv_bmap.specs.Parts.{part}

pub record IsCut (k : ℕ) (h : Held) (parts : List Held) : Type 0 where
  pub count : length parts ≡ k
  pub whole : (i l : ℕ) → i < k → l < 16 → IsSome (part parts i (100 + i) l)
  pub only : (i b l : ℕ) → i < k → IsSome (part parts i b l) → (b ≡ 100 + i) × (l < 16)
  pub gone : (i l : ℕ) → i < k → l < 16 → h (100 + i) l ≡ None
  pub left : (b l : ℕ) → b < 200 → l < 16 → (b < 100) ⊎ (100 + k ≤ b) → IsSome (h b l)
