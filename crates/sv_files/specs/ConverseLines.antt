-- From held lines back to an image: what the lines of a flushed core say of the sizes, and of the cache of free inodes.
use Rattle.std.specs.Prelude.{◌≡◌, ◌≤◌, ◌<◌, ◌*◌, ℕ, Bool, true, List, Some, None, length}
use Rattle.sv_form.specs.declared.geometry.Geometry.{Geometry}
use Rattle.sv_form.specs.Geometry.{IsGeometry}
use Rattle.sv_form.specs.Image.{block_of, geometry_of}
use Rattle.sv_store.specs.Held.{Held, Origin, line_of}
use Rattle.sv_super.specs.Core.{Head, HoldsInodes, HoldsSuper}
use Rattle.sv_super.specs.Count.{times}
use Rattle.sv_super.specs.Inodes.{is_free_inode}
use Rattle.sv_super.specs.Written.{IsWritten}
use Rattle.sv_check.specs.InodeCache.{cache_flaw}
use Rattle.sv_check.specs.Sizes.{IsSized}

-- the lines that are held are those of the image
pub record HasLines (g : Geometry) (image : List ℕ) (h : Held) : Type 0 where
  pub at : (b l : ℕ) (line : List ℕ) → h b l ≡ Some line → line ≡ line_of (block_of g image b) l

-- these are the sizes of an image, the image is as long as they say, and the head of a superblock has them
pub record HasHead (g : Geometry) (image : List ℕ) (head : Head) : Type 0 where
  pub sizes : IsGeometry g
  pub length : length image ≡ g.blocks * g.block_size
  pub block_type : head.block_type ≡ 2
  pub first_data : head.first_data ≡ g.first_data
  pub blocks : head.blocks ≡ g.blocks

-- the image has the lines of a core that was flushed: those of the superblock, which names the chain and the cached inodes
pub record IsFlushed (o : Origin) (image : List ℕ) (h : Held) (head : Head) (order cached : List ℕ) : Type 0 where
  pub has : HasHead o.sizes image head
  pub lines : HasLines o.sizes image h
  pub super : HoldsSuper o h
  pub written : IsWritten o.sizes h head order cached

-- the cached inodes are free, each stands there once, and the line of each free inode is held and zero bytes
pub record AreFreeInodes (o : Origin) (h : Held) (used : List Bool) (cached : List ℕ) : Type 0 where
  pub inodes : HoldsInodes o h used
  pub free : (n : ℕ) → 0 < times n cached → is_free_inode used n ≡ true
  pub once : (n : ℕ) → times n cached ≤ 1

-- the conditions 1 to 3 hold, and the superblock names the sizes
pub record IsSizedAs (g : Geometry) (image : List ℕ) : Type 0 where
  pub sized : IsSized image
  pub sizes : geometry_of image ≡ g

-- An image that has the lines of a flushed core is sized.
abbrev pub FlushedIsSized : Type 0
FlushedIsSized =
    (image : List ℕ) (o : Origin) (h : Held) (head : Head) (order cached : List ℕ) → IsFlushed o image h head order cached
    → IsSizedAs o.sizes image

-- Where its cached inodes are free, condition 12 holds.
abbrev pub FlushedIsCached : Type 0
FlushedIsCached =
    (image : List ℕ) (o : Origin) (h : Held) (head : Head) (order cached : List ℕ) → IsFlushed o image h head order cached
    → (used : List Bool) → AreFreeInodes o h used cached → cache_flaw (geometry_of image) image ≡ None
