-- An image is the list of its bytes. It is seen as a list of blocks, and a block as a list of lines of 64 bytes.
use Rattle.std.specs.Prelude.{ℕ, List, ◌+◌, ◌*◌}
use Rattle.std.specs.List.{slice_range}
use Rattle.sv_form.specs.declared.geometry.Geometry.{Geometry}
use Rattle.sv_form.specs.declared.place.Place.{Place}
use Rattle.sv_form.specs.Geometry.{inode_place}
use Rattle.sv_form.specs.Number.{number16, number32}

-- the bytes of block b
unfoldable pub block_of : Geometry → List ℕ → ℕ → List ℕ
block_of g image b = slice_range image (b * g.block_size) (b * g.block_size + g.block_size)

-- the 64 bytes at a place
unfoldable pub line_of : Geometry → List ℕ → Place → List ℕ
line_of g image p = slice_range (block_of g image p.block) (64 * p.line) (64 * p.line + 64)

-- the bytes of inode n
abbrev pub inode_of : Geometry → List ℕ → ℕ → List ℕ
inode_of g image n = line_of g image (inode_place g n)

-- the bytes of the superblock: 512 of them, from byte 512 on
unfoldable pub superblock_of : List ℕ → List ℕ
superblock_of image = slice_range image 512 1024

-- the sizes that the superblock names
abbrev pub geometry_of : List ℕ → Geometry
geometry_of image = record {
  block_size = 1024;
  blocks = number32 (superblock_of image) 8;
  first_data = number16 (superblock_of image) 6;
}
