-- New blocks in the address tree: a row of them hangs below one number of an indirect block, or below an address of the
-- inode, and ends at a page.
use Rattle.std.specs.Prelude.{◌≡◌, ◌≢◌, ◌<◌, ◌+◌, ◌-◌, ℕ, suc, List, length, take, slice_index}
use Rattle.sv_form.specs.PagePath.{height_of}
use Rattle.sv_store.specs.Held.{Held}
use Rattle.sv_bmap.specs.Tree.{IsSpot, block_at, child}

-- The row of blocks xs leads to the page at slot and places: its first stands below so many blocks that were there. The
-- number that links it is number `place` of block `parent`, or, where none was there, the address itself.
pub record Hangs (n : ℕ) (h new : Held) (a b : List ℕ) (slot : ℕ) (places : List ℕ) (above parent place : ℕ) (xs : List ℕ) : Type 0 where
  pub spot : IsSpot n slot places
  pub deep : length places ≡ height_of slot
  pub shape : above + length xs ≡ length places + 1
  pub some : 0 < length xs
  pub named : (i : ℕ) → i < length xs → slice_index xs i ≢ 0
  pub holes : (i : ℕ) → i < length xs → block_at h a slot (take (above + i) places) ≡ 0
  -- the link
  pub at_top : above ≡ 0 → (parent ≡ 0) × (slice_index b slot ≡ slice_index xs 0)
  pub at_number : (m : ℕ) → above ≡ suc m → (parent ≡ block_at h a slot (take m places))
      × ((place ≡ slice_index places m) × ((parent ≢ 0) × (child new parent place ≡ slice_index xs 0)))
  -- each block of the row leads to the next one, and nowhere else
  pub row : (i : ℕ) → suc i < length xs → child new (slice_index xs i) (slice_index places (above + i)) ≡ slice_index xs (suc i)
  pub empty : (i k : ℕ) → suc i < length xs → k < n → k ≢ slice_index places (above + i) → child new (slice_index xs i) k ≡ 0
  -- all else stays
  pub tops : (t : ℕ) → (t ≡ slot → above ≢ 0) → slice_index b t ≡ slice_index a t
  pub old : (t : ℕ) (ks : List ℕ) (k : ℕ) → IsSpot n t ks → block_at h a t ks ≢ 0 → k < n → (block_at h a t ks ≡ parent → k ≢ place)
      → child new (block_at h a t ks) k ≡ child h (block_at h a t ks) k
