-- The line that `check` writes on a sound image.
use Rattle.std.specs.Prelude.{ℕ, List, ◌++◌, length, codes, decimal}
use Rattle.sv_form.specs.Geometry.{inode_count}
use Rattle.sv_form.specs.Image.{geometry_of}
use Rattle.sv_check.specs.Chain.{chained}
use Rattle.sv_check.specs.InodeList.{used_inodes}

-- the line of these numbers: the blocks, the free blocks, the inodes and the used inodes
abbrev pub counts_line : ℕ → ℕ → ℕ → ℕ → List ℕ
counts_line blocks free inodes used =
    codes "ok blocks " ++ (decimal blocks ++ (codes " free " ++ (decimal free
    ++ (codes " inodes " ++ (decimal inodes ++ (codes " used " ++ (decimal used ++ codes "\n")))))))

-- the line of an image: the free blocks are those that the chain meets
unfoldable pub sound_line : List ℕ → List ℕ
sound_line image =
    counts_line (geometry_of image).blocks (length (chained (geometry_of image) image)) (inode_count (geometry_of image))
    (length (used_inodes (geometry_of image) image))
