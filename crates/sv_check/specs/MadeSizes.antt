-- What is promised of each image that can be made.
use Rattle.std.specs.Prelude.{◌≡◌, ◌<◌, ℕ}
use Rattle.sv_form.specs.Image.{block_of, geometry_of}
use Rattle.sv_check.specs.Mkfs.{CanBeMade, made_geometry}
use Rattle.sv_check.specs.MadeBlocks.{made_block, made_image}
use Rattle.sv_check.specs.MadeRoot.{HasRootAlone}
use Rattle.sv_check.specs.Sizes.{IsSized}
use Rattle.sv_check.specs.Sound.{IsSound}

-- its magic number, block type and sizes are those of a sound image, and the sizes are the ones that it was made with
abbrev pub HaveTheirSizes : Type 0
HaveTheirSizes = (blocks inodes : ℕ) → CanBeMade blocks inodes → IsSized (made_image blocks inodes)
    × (geometry_of (made_image blocks inodes) ≡ made_geometry blocks inodes)

-- what stands in each of its blocks is what is made for that block
abbrev pub HaveTheirBlocks : Type 0
HaveTheirBlocks = (blocks inodes b : ℕ) → b < blocks → block_of (made_geometry blocks inodes) (made_image blocks inodes) b
    ≡ made_block (made_geometry blocks inodes) b

-- its inode list has a root with one page, and nothing else
abbrev pub HaveTheirRoot : Type 0
HaveTheirRoot = (blocks inodes : ℕ) → CanBeMade blocks inodes → HasRootAlone (made_geometry blocks inodes) (made_image blocks inodes)

-- all sixteen conditions of a sound image hold
abbrev pub AreSound : Type 0
AreSound = (blocks inodes : ℕ) → CanBeMade blocks inodes → IsSound (made_image blocks inodes)
