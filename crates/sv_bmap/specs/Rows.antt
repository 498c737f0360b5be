-- A row of new blocks, as it stands in the parts before they are merged.
use Rattle.std.specs.Prelude.{◌≡◌, ◌≢◌, ◌<◌, ◌≤◌, ◌+◌, ◌*◌, ℕ, suc, List, length, take, Some, slice_index}
use Rattle.sv_store.specs.Held.{Held, Origin, HoldsBlock, line_of}
use Rattle.sv_bmap.specs.Parts.{part}
use Rattle.sv_bmap.specs.Tree.{block_at, number_in}
use Rattle.sv_bmap.specs.Writes.{SetsNumber}

-- part i holds block i of the row whole, and each block but the last has one number, which is the next block
pub record IsRow (o : Origin) (n : ℕ) (places : List ℕ) (above : ℕ) (xs : List ℕ) (parts : List Held) : Type 0 where
  pub count : length parts ≡ length xs
  pub named : (i : ℕ) → i < length xs → slice_index xs i ≢ 0
  pub holds : (i : ℕ) → i < length xs → HoldsBlock o (part parts i) (slice_index xs i)
  pub next : (i : ℕ) → suc i < length xs → number_in (part parts i) (slice_index xs i) (slice_index places (above + i))
      ≡ slice_index xs (suc i)
  pub empty : (i k : ℕ) → suc i < length xs → k < n → k ≢ slice_index places (above + i) → number_in (part parts i) (slice_index xs i) k ≡ 0

-- from one block on, each block of the row but the last has one number, which is the next block
pub record LeadsFrom (from n : ℕ) (places : List ℕ) (above : ℕ) (xs : List ℕ) (parts : List Held) : Type 0 where
  pub next : (i : ℕ) → from ≤ i → suc i < length xs → number_in (part parts i) (slice_index xs i) (slice_index places (above + i))
      ≡ slice_index xs (suc i)
  pub empty : (i k : ℕ) → from ≤ i → suc i < length xs → k < n → k ≢ slice_index places (above + i)
      → number_in (part parts i) (slice_index xs i) k ≡ 0

-- part i has these bytes for its block
pub record HasBytes (o : Origin) (parts : List Held) (i b : ℕ) (bytes : List ℕ) : Type 0 where
  pub at : (l : ℕ) → l * 64 < o.sizes.block_size → part parts i b l ≡ Some (line_of bytes l)

-- The block is linked: by the address itself where no place leads to it, else by the number at the last of the places.
pub record Links (n : ℕ) (h new : Held) (a b : List ℕ) (slot : ℕ) (way : List ℕ) (first : ℕ) : Type 0 where
  pub at_top : length way ≡ 0 → (new ≡ h) × ((slice_index b slot ≡ first) × ((t : ℕ) → t ≢ slot → slice_index b t ≡ slice_index a t))
  pub at_number : (m : ℕ) → length way ≡ suc m → (b ≡ a) × SetsNumber n h new (block_at h a slot (take m way)) (slice_index way m) first
