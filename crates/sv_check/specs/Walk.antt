-- Conditions 6 and 7 of a sound image: the walk over the blocks of all inodes meets data blocks alone, and each once.
-- The order of the walk is a list, which goes on past a bad number; only what stands before the first bad one counts.
use Rattle.std.specs.Prelude.{◌≡◌, ◌==◌, ◌&&◌, ◌||◌, ◌+◌, ◌-◌, ◌*◌, ◌^◌, ℕ, zero, suc, Bool, true, false, not, List, [], ◌∷◌, map, Option}
use Rattle.std.specs.Prelude.{Some, None, nat_le, nat_lt, filter, flat_map, option_and_then, if◌then◌else◌}
use Rattle.std.specs.List.{range_with_len, list_any}
use Rattle.sv_form.specs.declared.geometry.Geometry.{Geometry}
use Rattle.sv_form.specs.Image.{block_of, inode_of}
use Rattle.sv_form.specs.Number.{number32}
use Rattle.sv_form.specs.AddressTree as tree
pub use Rattle.sv_form.specs.AddressTree.{Reached}
use Rattle.sv_form.specs.PagePath as path
use Rattle.sv_form.specs.PagePath.{block_numbers, slots}
pub use Rattle.sv_form.specs.PagePath.{height_of}
use Rattle.sv_plain.specs.Front.{address_of}
use Rattle.sv_check.specs.declared.sound.met.Met.{Met}
use Rattle.sv_check.specs.InodeList.{used_inodes}

-- the numbers in the blocks of an image
abbrev pub image_numbers : Geometry → List ℕ → tree.Numbers
image_numbers g image = tree.numbers_of (block_of g image)

-- number k of an indirect block
abbrev pub number_in : List ℕ → ℕ → ℕ
number_in block k = number32 block (4 * k)

-- the places of an indirect block that hold a number: 0 is a hole
abbrev pub filled : Geometry → List ℕ → List ℕ
filled g block = filter (λ k. not (number_in block k == 0)) (range_with_len 0 (block_numbers g))

-- a block at a height, and all that is below it; the numbers of an indirect block follow it at once, in order
abbrev pub reached_under : Geometry → List ℕ → ℕ → ℕ → ℕ → List Reached
reached_under g image h page b = tree.reached_under (block_numbers g) (image_numbers g image) h page b

-- the page that address k leads to, or the first of them
abbrev pub first_page : Geometry → ℕ → ℕ
first_page g k = path.first_page (block_numbers g) k

-- the addresses of an inode that are not 0
abbrev pub addressed : List ℕ → List ℕ
addressed inode = filter (λ k. not (address_of inode k == 0)) (range_with_len 0 slots)

-- all blocks that an inode reaches, in the order of its addresses
abbrev pub reached : Geometry → List ℕ → List ℕ → List Reached
reached g image inode = tree.reached (block_numbers g) (image_numbers g image) (address_of inode)

-- what the walk meets of inode n
abbrev pub met_of : Geometry → List ℕ → ℕ → List Met
met_of g image n = map (λ r. record { inode = n; block = r.block }) (reached g image (inode_of g image n))

-- the walk: the used inodes ascending, and the blocks that each reaches
unfoldable pub walk : Geometry → List ℕ → List Met
walk g image = flat_map (met_of g image) (used_inodes g image)

-- b is one of these
abbrev pub is_among : List ℕ → ℕ → Bool
is_among numbers b = list_any (λ n. n == b) numbers

abbrev pub is_data_block : Geometry → ℕ → Bool
is_data_block g b = nat_le g.first_data b && nat_lt b g.blocks

-- the numbers that were met, by a test: none, and those before and b
abbrev pub nothing_met : ℕ → Bool
nothing_met n = false

abbrev pub with_met : (ℕ → Bool) → ℕ → ℕ → Bool
with_met before b n = (n == b) || before n

-- b is a data block, and not met before
abbrev pub is_new : Geometry → (ℕ → Bool) → ℕ → Bool
is_new g before b = is_data_block g b && not (before b)

-- the first number that is no data block or was met before, where these were met before the list begins
unfoldable pub first_bad : Geometry → (ℕ → Bool) → List Met → Option Met
first_bad g before [] = None
first_bad g before (m ∷ rest) = if is_new g before m.block then first_bad g (with_met before m.block) rest else Some m

-- condition 6, Range: the first bad number is no data block; the place is its inode
unfoldable pub range_flaw : Geometry → List ℕ → Option ℕ
range_flaw g image = option_and_then (λ m. if is_data_block g m.block then None else Some m.inode) (first_bad g nothing_met (walk g image))

-- condition 7, Twice: the first bad number is a data block that was met before; the place is this block
unfoldable pub twice_flaw : Geometry → List ℕ → Option ℕ
twice_flaw g image = option_and_then (λ m. if is_data_block g m.block then Some m.block else None) (first_bad g nothing_met (walk g image))

-- the condition that a bad number of the walk fails, and the place
pub record BadFlaw (g : Geometry) (bad : Met) (number place : ℕ) : Type 0 where
  pub outside : is_data_block g bad.block ≡ false → (number ≡ 6) × (place ≡ bad.inode)
  pub again : is_data_block g bad.block ≡ true → (number ≡ 7) × (place ≡ bad.block)
