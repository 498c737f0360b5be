-- From an image to held lines: where the lines are those of an image whose conditions hold, the inodes stand for the nodes of
-- its tree, and what is left has the chain of free blocks and the lines of the free inodes.
use Rattle.std.specs.Prelude.{◌≡◌, ◌≤◌, ℕ, Bool, false, IsSome, List, None, Some, replicate}
use Rattle.sv_form.specs.declared.geometry.Geometry.{Geometry}
use Rattle.sv_form.specs.declared.inode.DiskInode.TheVariants.{Used}
use Rattle.sv_form.specs.declared.inode.InodeBody.{InodeBody}
use Rattle.sv_form.specs.declared.superblock.Super.{Super}
use Rattle.sv_form.specs.Geometry.{IsPlace, inode_count, inode_place}
use Rattle.sv_form.specs.Image.{block_of, geometry_of, inode_of, superblock_of}
use Rattle.sv_form.specs.Inode.{IsInode}
use Rattle.sv_form.specs.Superblock.{IsSuper}
use Rattle.sv_form.specs.OwnerTable.{IsOwnerTable, OwnerTable}
use Rattle.sv_form.specs.Owners.{owner_of}
use Rattle.sv_form.specs.declared.place.Place.{Place}
use Rattle.sv_store.specs.Held.{Held, Lent, Origin, line_of, nothing_lent}
use Rattle.sv_check.specs.InodeCache.{cache_flaw}
use Rattle.sv_check.specs.InodeList.{is_free, used_flags}
use Rattle.sv_check.specs.Sound.{IsChained, IsWalked, line_owner, node_of}
use Rattle.sv_super.specs.Calls.{CanMount, CanMountInodes, is_free as is_free_block}
use Rattle.sv_super.specs.Core.{HoldsOnly}
use Rattle.sv_super.specs.Count.{one_if}
use Rattle.sv_inode.specs.StandsFor.{StandsFor}
use Rattle.sv_inode.specs.Truncate as inode

-- inode n of the image is in use
pub record IsUsedInode (g : Geometry) (image : List ℕ) (n : ℕ) : Type 0 where
  pub least : 1 ≤ n
  pub most : n ≤ inode_count g
  pub used : is_free (inode_of g image n) ≡ false

-- the lines whose owner is inode n are held, with the bytes of the image; n is 0 for the lines that no inode owns
pub record HoldsLinesOf (g : Geometry) (image : List ℕ) (n : ℕ) (h : Held) : Type 0 where
  pub own : (b l : ℕ) → IsPlace g (record { block = b; line = l }) → line_owner g image (record { block = b; line = l }) ≡ n
      → h b l ≡ Some (line_of (block_of g image b) l)

-- Where the first nine conditions hold, and the lines of a used inode are held, it stands for its node of the tree.
abbrev pub InodesStandForNodes : Type 0
InodesStandForNodes = (image : List ℕ) → IsWalked image → (n : ℕ) → IsUsedInode (geometry_of image) image n
    → (o : Origin) → o.sizes ≡ geometry_of image → (h : Held) → HoldsLinesOf (geometry_of image) image n h
    → (body : InodeBody) → IsInode (inode_of (geometry_of image) image n) (Used body)
    → StandsFor o h body (node_of (geometry_of image) image (inode_of (geometry_of image) image n))

-- all that a core asks of the inodes; and the line of inode 1, which is never used, is zero bytes too
pub record MountsInodes (o : Origin) (h : Held) (used : List Bool) (cached : List ℕ) : Type 0 where
  pub can : CanMountInodes o h used cached
  pub first : h (inode_place o.sizes 1).block (inode_place o.sizes 1).line ≡ Some (replicate 64 0)

-- Where the first nine conditions hold and that of the cache, and the lines that no inode owns are held, the free inodes can be
-- mounted, with the cache that the superblock has.
abbrev pub FreeInodesMount : Type 0
FreeInodesMount = (image : List ℕ) → IsWalked image → cache_flaw (geometry_of image) image ≡ None
    → (used : List Bool) → used ≡ used_flags (geometry_of image) image
    → (o : Origin) → o.sizes ≡ geometry_of image → (h : Held) → HoldsLinesOf (geometry_of image) image 0 h
    → (s : Super) → IsSuper (superblock_of image) s → MountsInodes o h used s.inodes.items

-- the table has the owner of each line of the image
pub record TellsOwners (g : Geometry) (image : List ℕ) (t : OwnerTable) : Type 0 where
  pub table : IsOwnerTable t
  pub geometry : t.geometry ≡ g
  pub owners : (p : Place) → IsPlace g p → owner_of t p ≡ line_owner g image p

-- Where the first eleven conditions hold, and the lines that no inode owns are held, the free blocks can be mounted, with the
-- list that the superblock has.
abbrev pub FreeBlocksMount : Type 0
FreeBlocksMount = (image : List ℕ) → IsChained image → (t : OwnerTable) → TellsOwners (geometry_of image) image t
    → (o : Origin) → o.sizes ≡ geometry_of image → (h : Held) → HoldsLinesOf (geometry_of image) image 0 h
    → (s : Super) → IsSuper (superblock_of image) s → (m : Lent) → m ≡ nothing_lent → CanMount o h m t s.free.items

-- no other lines of the image are held than those whose owner is inode n
pub record HoldsNoOther (g : Geometry) (image : List ℕ) (n : ℕ) (h : Held) : Type 0 where
  pub only : (b l : ℕ) → IsSome (h b l) → line_owner g image (record { block = b; line = l }) ≡ n

-- Where the first eleven conditions hold, and exactly the lines that no inode owns are held, a core that is mounted holds of the
-- data blocks only those that are free.
abbrev pub FreeBlocksAlone : Type 0
FreeBlocksAlone = (image : List ℕ) → IsChained image → (t : OwnerTable) → TellsOwners (geometry_of image) image t
    → (o : Origin) → o.sizes ≡ geometry_of image → (h : Held) → HoldsLinesOf (geometry_of image) image 0 h
    → HoldsNoOther (geometry_of image) image 0 h → HoldsOnly o h (λ b. one_if (is_free_block t b))

-- Where the first nine conditions hold, and exactly the lines of a used inode are held, no line is held but the inode's own and those of
-- the blocks of its address tree.
abbrev pub InodeLinesAlone : Type 0
InodeLinesAlone = (image : List ℕ) → IsWalked image → (n : ℕ) → IsUsedInode (geometry_of image) image n
    → (o : Origin) → o.sizes ≡ geometry_of image → (h : Held) → HoldsLinesOf (geometry_of image) image n h
    → HoldsNoOther (geometry_of image) image n h
    → (body : InodeBody) → IsInode (inode_of (geometry_of image) image n) (Used body) → inode.HoldsOnly o h n body.addresses
