-- What one transfer of a disk asks, and what it leaves.
use Rattle.std.specs.Prelude.{◌≡◌, ◌≤◌, ◌+◌, ◌%◌, ◌++◌, ℕ, List, length, take, drop}

-- one transfer: 512 or 1,024 bytes within the content, at a multiple of 512
pub record CanTransfer (content : List ℕ) (at count : ℕ) : Type 0 where
  pub aligned : at % 512 ≡ 0
  pub whole : count % 512 ≡ 0
  pub least : 1 ≤ count
  pub most : count ≤ 1024
  pub within : at + count ≤ length content

-- the content with these bytes from that place on
abbrev pub overwritten : List ℕ → ℕ → List ℕ → List ℕ
overwritten content at bytes = take at content ++ bytes ++ drop (at + length bytes) content

-- after a write that failed: count bytes from that place on are any, all others stay, and the length too
pub record IsTorn (old : List ℕ) (at count : ℕ) (new : List ℕ) : Type 0 where
  pub same_length : length new ≡ length old
  pub before : take at new ≡ take at old
  pub after : drop (at + count) new ≡ drop (at + count) old
