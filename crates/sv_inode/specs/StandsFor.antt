-- When an inode, with the lines that a stake holds, stands for a node: a file apart from where its bytes lie.
use Rattle.std.specs.Prelude.{◌≡◌, ◌≢◌, ◌<◌, ◌≤◌, ◌*◌, ℕ, List, Option, Some, None, length}
use Rattle.std.specs.Ordering.{nat_cmp}
use Rattle.std.specs.FinMap as fmap
use Rattle.sv_form.specs.Geometry.{IsDataBlock}
use Rattle.sv_form.specs.Node.{Node}
use Rattle.sv_form.specs.PagePath.{block_numbers, height_of, page_limit}
use Rattle.sv_form.specs.declared.geometry.Geometry.{Geometry}
use Rattle.sv_form.specs.declared.inode.InodeBody.{InodeBody}
use Rattle.sv_store.specs.Held.{Held, Origin, line_of}
use Rattle.sv_bmap.specs.Tree.{IsSpot, IsTree, block_at, child, page_block}

-- kind, mode, links and size are those of the node
pub record IsDescribed (body : InodeBody) (node : Node) : Type 0 where
  pub kind : body.kind ≡ node.kind
  pub mode : body.mode ≡ node.mode
  pub links : body.links ≡ node.links
  pub size : body.size ≡ node.size

-- a page is the held bytes of this block
pub record IsHeldPage (g : Geometry) (h : Held) (b : ℕ) (bytes : List ℕ) : Type 0 where
  pub some : b ≢ 0
  pub size : length bytes ≡ g.block_size
  pub lines : (l : ℕ) → l * 64 < g.block_size → h b l ≡ Some (line_of bytes l)

-- a page of the node is the held bytes of its block, and is absent exactly for a hole
abbrev pub IsPageOf : Geometry → Held → ℕ → Option (List ℕ) → Type 0
IsPageOf g h b None = b ≡ 0
IsPageOf g h b (Some bytes) = IsHeldPage g h b bytes

-- the address tree has exactly these pages; past its reach there is none
pub record HasPages (g : Geometry) (h : Held) (a : List ℕ) (pages : fmap.FinMap nat_cmp (List ℕ)) : Type 0 where
  pub within : (page : ℕ) → page < page_limit (block_numbers g) → IsPageOf g h (page_block g h a page) (fmap.get pages page)
  pub past : (page : ℕ) → page_limit (block_numbers g) ≤ page → fmap.get pages page ≡ None

-- all blocks of the tree, pages and indirect blocks, are data blocks
pub record HasDataBlocks (g : Geometry) (h : Held) (a : List ℕ) : Type 0 where
  pub at : (slot : ℕ) (ks : List ℕ) → IsSpot (block_numbers g) slot ks → block_at h a slot ks ≢ 0 → IsDataBlock g (block_at h a slot ks)

-- each indirect block has a number that is not 0: it stands at a spot below which there are spots
pub record HasNoEmptyBlock (g : Geometry) (h : Held) (a : List ℕ) : Type 0 where
  pub some : (slot : ℕ) (ks : List ℕ) → IsSpot (block_numbers g) slot ks → length ks < height_of slot → block_at h a slot ks ≢ 0
      → (k : ℕ) × ((k < block_numbers g) × (child h (block_at h a slot ks) k ≢ 0))

-- The inode's tree: its blocks are held, each stands in it once, and all are data blocks.
pub record HasTree (o : Origin) (h : Held) (a : List ℕ) : Type 0 where
  pub tree : IsTree o h a
  pub in_data : HasDataBlocks o.sizes h a

-- the inode stands for the node
pub record StandsFor (o : Origin) (h : Held) (body : InodeBody) (node : Node) : Type 0 where
  pub described : IsDescribed body node
  pub tree : IsTree o h body.addresses
  pub pages : HasPages o.sizes h body.addresses node.pages
  pub data_blocks : HasDataBlocks o.sizes h body.addresses
  pub no_empty : HasNoEmptyBlock o.sizes h body.addresses
