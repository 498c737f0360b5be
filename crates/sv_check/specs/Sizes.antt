-- Conditions 1 to 3 of a sound image: the magic number, the block type and the sizes.
use Rattle.std.specs.Prelude.{◌≡◌, ◌⊎◌, ◌≤◌, ◌*◌, ℕ, List, length}
use Rattle.sv_form.specs.declared.superblock.Super.{Super}
use Rattle.sv_form.specs.Geometry.{IsGeometry}
use Rattle.sv_form.specs.Image.{superblock_of, geometry_of}
use Rattle.sv_form.specs.Number.{number16, number32}
use Rattle.sv_form.specs.Superblock.{IsSuper, magic}

-- condition 1, Magic: there are 1,024 bytes, and the superblock begins with the magic number
pub record HasMagic (image : List ℕ) : Type 0 where
  pub long : 1024 ≤ length image
  pub magic : number32 (superblock_of image) 0 ≡ magic

-- the block type that the superblock names
abbrev pub type_of : List ℕ → ℕ
type_of image = number16 (superblock_of image) 4

-- condition 2, BlockSize: the type is that of blocks of 1,024 bytes
pub record HasBlockType (image : List ℕ) : Type 0 where
  pub type : type_of image ≡ 2

-- condition 3, Sizes: the superblock reads, its sizes are in the bounds, and the image is as long as they say
pub record HasSizes (image : List ℕ) : Type 0 where
  pub reads : (s : Super) × IsSuper (superblock_of image) s
  pub bounds : IsGeometry (geometry_of image)
  pub length : length image ≡ (geometry_of image).blocks * (geometry_of image).block_size

-- the three conditions hold
pub record IsSized (image : List ℕ) : Type 0 where
  pub magic : HasMagic image
  pub type : HasBlockType image
  pub sizes : HasSizes image

-- condition 1 fails, and the place is 0
pub record FailsMagic (image : List ℕ) (number place : ℕ) : Type 0 where
  pub is_number : number ≡ 1
  pub is_place : place ≡ 0
  pub fails : HasMagic image → ⊥

-- condition 2 is the first that fails, and the place is the type
pub record FailsBlockSize (image : List ℕ) (number place : ℕ) : Type 0 where
  pub magic : HasMagic image
  pub is_number : number ≡ 2
  pub is_place : place ≡ type_of image
  pub fails : HasBlockType image → ⊥

-- condition 3 is the first that fails, and the place is 0
pub record FailsSizes (image : List ℕ) (number place : ℕ) : Type 0 where
  pub magic : HasMagic image
  pub type : HasBlockType image
  pub is_number : number ≡ 3
  pub is_place : place ≡ 0
  pub fails : HasSizes image → ⊥

-- one of the three fails: this one first, and here
abbrev pub SizesFlaw : List ℕ → ℕ → ℕ → Type 0
SizesFlaw image number place = FailsMagic image number place ⊎ (FailsBlockSize image number place ⊎ FailsSizes image number place)
