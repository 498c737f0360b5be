-- The address tree of an inode, read out of the held lines (Bach, chapter 4.2): thirteen addresses, and the numbers in the
-- indirect blocks below the last three of them. A number that is 0 is a hole.
use Rattle.std.specs.Prelude.{◌≡◌, ◌≢◌, ◌-◌, ◌*◌, ◌/◌, ◌%◌, ◌==◌, ℕ, List, [], Option, Some, None, slice_index, unwrap_or, if◌then◌else◌}
use Rattle.sv_form.specs.Number.{number32}
use Rattle.sv_form.specs.AddressTree as tree
use Rattle.sv_form.specs.PagePath.{block_numbers}
pub use Rattle.sv_form.specs.PagePath.{IsSpot, slot_of, places_of}
unfoldable pub use Rattle.sv_form.specs.PagePath.{path}
use Rattle.sv_form.specs.declared.geometry.Geometry.{Geometry}
use Rattle.sv_store.specs.Held.{Held, Origin, HoldsBlock}

-- number k of an indirect block: it has four bytes, so that sixteen of them stand in a line
unfoldable pub number_in : Held → ℕ → ℕ → ℕ
number_in h b k = number32 (unwrap_or (h b (k / 16)) []) (k % 16 * 4)

-- where number k of block b leads; below a hole all is a hole
abbrev pub child : Held → ℕ → ℕ → ℕ
child h b k = tree.child (number_in h) b k

-- where a list of places leads, from block b on
abbrev pub down : Held → ℕ → List ℕ → ℕ
down h b ks = tree.down (number_in h) b ks

-- the block at a spot, 0 for a hole
abbrev pub block_at : Held → List ℕ → ℕ → List ℕ → ℕ
block_at h a slot ks = tree.block_at (number_in h) (slice_index a) slot ks

-- all blocks of the tree are held, and each stands in it once
pub record IsTree (o : Origin) (h : Held) (a : List ℕ) : Type 0 where
  pub whole : (slot : ℕ) (ks : List ℕ) → IsSpot (block_numbers o.sizes) slot ks → block_at h a slot ks ≢ 0
      → HoldsBlock o h (block_at h a slot ks)
  pub once : (slot : ℕ) (ks : List ℕ) (other : ℕ) (js : List ℕ) → IsSpot (block_numbers o.sizes) slot ks
      → IsSpot (block_numbers o.sizes) other js → block_at h a slot ks ≢ 0 → block_at h a slot ks ≡ block_at h a other js → (slot ≡ other)
      × (ks ≡ js)

-- the block of a page, 0 for a hole
abbrev pub page_block : Geometry → Held → List ℕ → ℕ → ℕ
page_block g h a page = tree.page_block (block_numbers g) (number_in h) (slice_index a) page

-- a block number that is not 0
abbrev pub no_hole : ℕ → Option ℕ
no_hole b = if b == 0 then None else Some b
