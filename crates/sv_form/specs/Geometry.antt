-- How large a disk is and where its parts lie.
use Rattle.std.specs.Prelude.{◌≡◌, ◌<◌, ◌≤◌, ◌+◌, ◌-◌, ◌*◌, ◌/◌, ◌%◌, ℕ}
use Rattle.sv_form.specs.declared.geometry.Geometry.{Geometry}
use Rattle.sv_form.specs.declared.place.Place.{Place}

-- The sizes that an image may have: blocks of 1,024 bytes, 4 to 65,536 of them; the inode list starts at
-- block 2 and has 1 to 4,095 blocks, and a data block is left.
pub record IsGeometry (g : Geometry) : Type 0 where
  pub block_size : g.block_size ≡ 1024
  pub least_blocks : 4 ≤ g.blocks
  pub most_blocks : g.blocks ≤ 65536
  pub least_first : 3 ≤ g.first_data
  pub most_first : g.first_data ≤ 4097
  pub some_data : g.first_data < g.blocks

-- the inodes that fit into the blocks from 2 up to the first data block, 64 bytes each
abbrev pub inode_count : Geometry → ℕ
inode_count g = (g.first_data - 2) * g.block_size / 64

-- how many lines of 64 bytes a block has
abbrev pub block_lines : Geometry → ℕ
block_lines g = g.block_size / 64

-- how many lines an image has
abbrev pub line_count : Geometry → ℕ
line_count g = g.blocks * block_lines g

-- the number of a line in the image, from 0, block by block
abbrev pub line_number : Geometry → Place → ℕ
line_number g p = p.block * block_lines g + p.line

-- the place is in the image
pub record IsPlace (g : Geometry) (p : Place) : Type 0 where
  pub block : p.block < g.blocks
  pub line : p.line < block_lines g

-- the place of inode n, numbered from 1
abbrev pub inode_place : Geometry → ℕ → Place
inode_place g n = record { block = (n - 1) / block_lines g + 2; line = (n - 1) % block_lines g }

-- the place of the superblock's first line, which is byte 512 of the image
abbrev pub super_place : Geometry → Place
super_place g = record { block = 512 / g.block_size; line = 512 % g.block_size / 64 }

-- inode n is one of the inode list
pub record IsNumber (g : Geometry) (n : ℕ) : Type 0 where
  pub least : 1 ≤ n
  pub most : n ≤ inode_count g

-- block b is one of the data blocks
pub record IsDataBlock (g : Geometry) (b : ℕ) : Type 0 where
  pub least : g.first_data ≤ b
  pub most : b < g.blocks
