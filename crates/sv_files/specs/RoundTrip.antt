-- From a sound image to its own lines, and back: they are shared out by their owners, and are those of a file system that was closed.
use Rattle.std.specs.Prelude.{◌≡◌, ◌==◌, ◌&&◌, ℕ, zero, suc, List, Some, None, nat_lt, if◌then◌else◌}
use Rattle.sv_form.specs.declared.superblock.Super.{Super}
use Rattle.sv_form.specs.Geometry.{block_lines}
use Rattle.sv_form.specs.Image.{block_of, geometry_of, superblock_of}
use Rattle.sv_form.specs.OwnerTable.{OwnerTable}
use Rattle.sv_form.specs.Superblock.{IsSuper}
use Rattle.sv_store.specs.Held.{Held, Origin, line_of}
use Rattle.sv_super.specs.Calls.{head_of}
use Rattle.sv_check.specs.InodeList.{used_flags}
use Rattle.sv_check.specs.Loaded.{loaded}
use Rattle.sv_check.specs.Sound.{IsSound, line_owner}
use Rattle.sv_files.specs.ConverseSound.{IsClosed}
use Rattle.sv_files.specs.FromImage.{TellsOwners}

-- the lines of an image that inode n owns, with their bytes; n is 0 for the lines that no inode owns
abbrev pub owned_by : List ℕ → ℕ → Held
owned_by image n = λ b l.
    if nat_lt b (geometry_of image).blocks
    && (nat_lt l (block_lines (geometry_of image)) && (line_owner (geometry_of image) image (record { block = b; line = l }) == n))
    then Some (line_of (block_of (geometry_of image) image b) l)
    else None

-- the part of each inode; no inode has the number 0
abbrev pub parts_of : List ℕ → ℕ → Held
parts_of image zero = λ b l. None
parts_of image (suc n) = owned_by image (suc n)

-- the image is that of a file system that was closed: its own tree, with its own lines, chain and cache
pub record IsOwnClose (o : Origin) (image : List ℕ) (s : Super) : Type 0 where
  pub order : List ℕ
  pub closed : IsClosed o image (loaded image) (parts_of image) (owned_by image 0) (used_flags (geometry_of image) image)
      (head_of s) order s.inodes.items

-- Each sound image is.
abbrev pub SoundIsClosed : Type 0
SoundIsClosed = (image : List ℕ) → IsSound image → (t : OwnerTable) → TellsOwners (geometry_of image) image t
    → (o : Origin) → o.sizes ≡ geometry_of image → (s : Super) → IsSuper (superblock_of image) s → IsOwnClose o image s
