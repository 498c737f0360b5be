-- From held lines back to an image: what the lines of the inodes, and of the blocks below them, say of the conditions 4 to 7.
use Rattle.std.specs.Prelude.{◌≡◌, ◌≢◌, ◌≤◌, ℕ, Bool, true, List, Some, None, replicate}
use Rattle.std.specs.FinMap as map
use Rattle.sv_form.specs.declared.inode.DiskInode.TheVariants.{Used}
use Rattle.sv_form.specs.declared.inode.InodeBody.{InodeBody}
use Rattle.sv_form.specs.Geometry.{IsGeometry, inode_count, inode_place}
use Rattle.sv_form.specs.Image.{geometry_of}
use Rattle.sv_form.specs.Inode.{IsInode}
use Rattle.sv_form.specs.Node.{Node}
use Rattle.sv_store.specs.Held.{Apart, Held, Origin}
use Rattle.sv_super.specs.Core.{HoldsInodes}
use Rattle.sv_super.specs.Inodes.{is_free_inode}
use Rattle.sv_inode.specs.StandsFor.{StandsFor}
use Rattle.sv_plain.specs.Fs.{Fs, greatest_size}
use Rattle.sv_check.specs.InodeList.{kind_flaw, size_flaw}
use Rattle.sv_check.specs.Walk.{range_flaw, twice_flaw}
use Rattle.sv_files.specs.ConverseLines.{HasLines, IsSizedAs}
use Rattle.sv_files.specs.ConverseNames.{IsAtRest}

-- the line of inode n is held, and spells a body that stands for the node
pub record HoldsInode (o : Origin) (h : Held) (n : ℕ) (node : Node) : Type 0 where
  pub line : List ℕ
  pub there : h (inode_place o.sizes n).block (inode_place o.sizes n).line ≡ Some line
  pub body : InodeBody
  pub spelled : IsInode line (Used body)
  pub stands : StandsFor o h body node

-- The image has the lines of each node's part and of the rest, and no line is in two parts. The part of a node stands for it. The rest
-- holds the lines of the free inodes, which are the numbers without a node, and that of inode 1, which is free too.
pub record HoldsAllInodes (o : Origin) (image : List ℕ) (fs : Fs) (parts : ℕ → Held) (others : Held) (used : List Bool) : Type 0 where
  pub lines : (n : ℕ) → HasLines o.sizes image (parts n)
  pub other_lines : HasLines o.sizes image others
  pub nodes : (n : ℕ) (node : Node) → map.get fs.nodes n ≡ Some node → HoldsInode o (parts n) n node
  pub apart : (n m : ℕ) → n ≢ m → Apart (parts n) (parts m)
  pub free : (n : ℕ) → 2 ≤ n → n ≤ inode_count o.sizes → map.get fs.nodes n ≡ None → is_free_inode used n ≡ true
  pub zeros : HoldsInodes o others used
  pub first : others (inode_place o.sizes 1).block (inode_place o.sizes 1).line ≡ Some (replicate 64 0)

-- the file system has the numbers of the sizes
pub record HasNumbersOf (o : Origin) (fs : Fs) : Type 0 where
  pub block : fs.block ≡ o.sizes.block_size
  pub greatest : fs.greatest ≡ greatest_size o.sizes.block_size
  pub inodes : fs.inodes ≡ inode_count o.sizes

-- the conditions 4 and 5 hold
pub record HasInodesInOrder (image : List ℕ) : Type 0 where
  pub kind : kind_flaw (geometry_of image) image ≡ None
  pub size : size_flaw (geometry_of image) image ≡ None

-- A sized image that has the lines of the inodes of a whole file system at rest has its inodes in order.
abbrev pub NodesHaveInodes : Type 0
NodesHaveInodes =
    (image : List ℕ) (o : Origin) (fs : Fs) (parts : ℕ → Held) (others : Held) (used : List Bool) → IsSizedAs o.sizes image
    → HasNumbersOf o fs → IsAtRest fs
    → HoldsAllInodes o image fs parts others used → HasInodesInOrder image

-- the conditions 6 and 7 hold
pub record IsWalkedOnce (image : List ℕ) : Type 0 where
  pub range : range_flaw (geometry_of image) image ≡ None
  pub twice : twice_flaw (geometry_of image) image ≡ None

-- and the walk over its blocks meets data blocks alone, and each once.
abbrev pub NodesAreWalkedOnce : Type 0
NodesAreWalkedOnce =
    (image : List ℕ) (o : Origin) (fs : Fs) (parts : ℕ → Held) (others : Held) (used : List Bool) → IsGeometry o.sizes
    → IsSizedAs o.sizes image → HoldsAllInodes o image fs parts others used
    → IsWalkedOnce image
