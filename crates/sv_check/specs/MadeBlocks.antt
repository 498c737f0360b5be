-- The bytes of an image that is made anew, block by block. Each block is spelled from its first byte on.
use Rattle.std.specs.Prelude.{◌≡◌, ◌+◌, ◌-◌, ◌*◌, ◌/◌, ◌%◌, ◌==◌, ℕ, List, [], ◌∷◌, ◌++◌, length, replicate, flat_map, nat_lt}
use Rattle.std.specs.Prelude.{if◌then◌else◌}
use Rattle.std.specs.List.{range_with_len}
use Rattle.sv_form.specs.declared.geometry.Geometry.{Geometry}
use Rattle.sv_form.specs.Geometry.{inode_count}
use Rattle.sv_form.specs.Superblock.{magic}
use Rattle.sv_check.specs.declared.make.image.MakeFault.{MakeFault}
use Rattle.sv_check.specs.declared.make.image.MakeFault.TheVariants.{Limits, Fault, NoMemory}
use Rattle.sv_check.specs.Mkfs.{CanBeMade, free_cache, inode_cache, list_in, made_geometry}

-- a number in 2, 3 and 4 bytes, its lowest byte first
abbrev pub little16 : ℕ → List ℕ
little16 n = n % 256 ∷ n / 256 ∷ []

abbrev pub little24 : ℕ → List ℕ
little24 n = little16 (n % 65536) ++ n / 65536 ∷ []

abbrev pub little32 : ℕ → List ℕ
little32 n = little16 (n % 65536) ++ little16 (n / 65536)

-- bytes filled up with zero bytes to that place
abbrev pub filled_to : ℕ → List ℕ → List ℕ
filled_to place bytes = bytes ++ replicate (place - length bytes) 0

-- The first sixteen bytes of the superblock: its magic number, block type, first data block and blocks, and how many numbers
-- its two caches have.
abbrev pub head_bytes : Geometry → List ℕ
head_bytes g =
    little32 magic ++ little16 2 ++ little16 g.first_data ++ little32 g.blocks ++ little16 (length (free_cache g))
    ++ little16 (length (inode_cache (inode_count g)))

-- block 0: the superblock at byte 512, its free blocks 16 bytes from there on and its free inodes 216
unfoldable pub superblock_bytes : Geometry → List ℕ
superblock_bytes g =
    filled_to 728 (filled_to 512 [] ++ head_bytes g ++ flat_map little32 (free_cache g)) ++ flat_map little16 (inode_cache (inode_count g))

-- the kind and mode of the root: a directory (4 in the upper four bits), mode 755
abbrev pub root_mode : ℕ
root_mode = 4096 * 4 + 0o755

-- block 2: inode 2, the root, stands at byte 64. It has 2 links, no owner and group, size 32, and one page.
unfoldable pub root_inode_bytes : ℕ → List ℕ
root_inode_bytes page = filled_to 72 (filled_to 64 [] ++ little16 root_mode ++ little16 2) ++ little32 32 ++ little24 page

-- the root's page: its entries . and .., both of inode 2, of 16 bytes each
unfoldable pub root_page_bytes : List ℕ
root_page_bytes = filled_to 16 (little16 2 ++ 46 ∷ []) ++ little16 2 ++ 46 ∷ 46 ∷ []

-- a link block: how many numbers its list has, two zero bytes, and the numbers
unfoldable pub link_block_bytes : List ℕ → List ℕ
link_block_bytes list = little16 (length list) ++ little16 0 ++ flat_map little32 list

-- The bytes of block b before the zero bytes at its end. Each fiftieth data block, counted from the end, is a link block.
unfoldable pub block_content : Geometry → ℕ → List ℕ
block_content g b =
    if b == 0 then superblock_bytes g
    else if b == 2 then root_inode_bytes g.first_data
    else if b == g.first_data then root_page_bytes
    else if nat_lt b g.first_data then []
    else if (g.blocks - b) % 50 == 0 then link_block_bytes (list_in g.blocks b)
    else []

-- all 1,024 bytes of block b
abbrev pub made_block : Geometry → ℕ → List ℕ
made_block g b = filled_to 1024 (block_content g b)

-- the first n blocks
abbrev pub made_blocks : Geometry → ℕ → List ℕ
made_blocks g n = flat_map (made_block g) (range_with_len 0 n)

-- The image of so many blocks for so many inodes.
abbrev pub made_image : ℕ → ℕ → List ℕ
made_image blocks inodes = made_blocks (made_geometry blocks inodes) blocks

-- an image may be made with these numbers on a device with this content: it may have them, and the device has its length
pub record FitsOn (content : List ℕ) (blocks inodes : ℕ) : Type 0 where
  pub numbers : CanBeMade blocks inodes
  pub length : length content ≡ blocks * 1024

-- what each refusal says; want of memory is never answered, for none is taken
abbrev pub SaysWhy : Type 0 → Type 0 → MakeFault → Type 0
SaysWhy limits fault Limits = limits
SaysWhy limits fault Fault = fault
SaysWhy limits fault NoMemory = ⊥
