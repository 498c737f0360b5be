-- The blocks of the address tree, in the order in which they can be given back.
use Rattle.std.specs.Prelude.{◌≢◌, ◌<◌, ◌≤◌, ℕ, List, length, slice_index}
use Rattle.sv_form.specs.AddressTree as tree
use Rattle.sv_form.specs.PagePath.{block_numbers}
use Rattle.sv_form.specs.declared.geometry.Geometry.{Geometry}
use Rattle.sv_store.specs.Held.{Held, Origin, HoldsBlock}
use Rattle.sv_bmap.specs.Tree.{down, number_in}

-- the blocks under a block and the block itself, which comes last; it has so many indirect blocks on the way to a page
abbrev pub blocks_below : ℕ → Held → ℕ → ℕ → List ℕ
blocks_below n h d b = tree.blocks_below n (number_in h) d b

-- all blocks of the tree: pages ascending, each indirect block after all that is under it
abbrev pub blocks_of : Geometry → Held → List ℕ → List ℕ
blocks_of g h a = tree.blocks_of (block_numbers g) (number_in h) (slice_index a)

-- the block and all blocks under it are held
pub record HeldBelow (o : Origin) (h : Held) (d b : ℕ) : Type 0 where
  pub at : (ks : List ℕ) → length ks ≤ d → ((i : ℕ) → i < length ks → slice_index ks i < block_numbers o.sizes) → down h b ks ≢ 0
      → HoldsBlock o h (down h b ks)
