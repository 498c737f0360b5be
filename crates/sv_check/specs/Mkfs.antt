-- An image that is made anew: a root with nothing in it, and all other data blocks free.
use Rattle.std.specs.Prelude.{◌≤◌, ◌<◌, ◌+◌, ◌-◌, ◌/◌, ◌%◌, ◌==◌, ℕ, zero, suc, List, [], ◌∷◌, min, if◌then◌else◌}
use Rattle.sv_form.specs.declared.geometry.Geometry.{Geometry}

-- the first data block of an image for so many inodes: the inode list has whole blocks of 16
abbrev pub first_data_for : ℕ → ℕ
first_data_for inodes = 2 + (inodes + 15) / 16

-- how large an image may be made, and for how many inodes
pub record CanBeMade (blocks inodes : ℕ) : Type 0 where
  pub least_blocks : 4 ≤ blocks
  pub most_blocks : blocks ≤ 65536
  pub least_inodes : 2 ≤ inodes
  pub most_inodes : inodes ≤ 65520
  pub some_data : first_data_for inodes < blocks

abbrev pub made_geometry : ℕ → ℕ → Geometry
made_geometry blocks inodes = record { block_size = 1024; blocks = blocks; first_data = first_data_for inodes }

-- so many numbers down to one, the highest first
abbrev pub down_to : ℕ → ℕ → List ℕ
down_to least zero = []
down_to least (suc n) = (least + n) ∷ down_to least n

-- the number before the free blocks of a list: the block where the list above stands, or 0 where there is none above
abbrev pub link_to : ℕ → ℕ → ℕ
link_to blocks upto = if upto == blocks then 0 else upto

-- A list of the chain with the free blocks from one up to another, the lowest last.
abbrev pub free_list : ℕ → ℕ → ℕ → List ℕ
free_list blocks from upto = link_to blocks upto ∷ down_to from (upto - from)

-- The blocks are freed from the last one down to the one behind the root's page. The list with 0 alone comes first and
-- takes 49 of them; the next block gets that full list, and so does each fiftieth block from there on.
abbrev pub list_in : ℕ → ℕ → List ℕ
list_in blocks b = free_list blocks (b + 1) (b + 50)

-- what is left in the superblock: the last block that got a list, and the blocks below it
abbrev pub free_cache : Geometry → List ℕ
free_cache g = free_list g.blocks (g.first_data + 1) (g.first_data + 1 + (g.blocks - (g.first_data + 1)) % 50)

-- up to 100 of the smallest numbers from 3 to the inode count, in descending order
abbrev pub inode_cache : ℕ → List ℕ
inode_cache count = down_to 3 (min 100 (count - 2))
