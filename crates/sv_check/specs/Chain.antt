-- Conditions 10 and 11 of a sound image: the chain of free blocks (Bach, chapter 4.7), and that no data block is lost.
use Rattle.std.specs.Prelude.{◌==◌, ◌&&◌, ◌+◌, ◌-◌, ◌*◌, ℕ, zero, suc, Bool, not, List, [], ◌∷◌, ◌++◌, map, take, drop, Option, Some, None}
use Rattle.std.specs.Prelude.{slice_index, nat_le, filter, find, flat_map, if◌then◌else◌}
use Rattle.std.specs.List.{range_with_len, list_all}
use Rattle.sv_form.specs.declared.geometry.Geometry.{Geometry}
pub use Rattle.sv_form.specs.FreeChain.{list_in, numbers_at}
use Rattle.sv_form.specs.Image.{block_of, superblock_of}
use Rattle.sv_form.specs.Number.{number16, number32}
use Rattle.sv_check.specs.Walk.{walk, is_among, with_met, is_new}

-- the list in the superblock
abbrev pub free_list : List ℕ → List ℕ
free_list image = numbers_at (superblock_of image) 12 16

-- number k of a link block is 0 exactly if the list ends before it; number 0, the link, may be 0
abbrev pub is_filled : List ℕ → ℕ → Bool
is_filled block k = if nat_le (number16 block 0) k then number32 block (4 + 4 * k) == 0 else not (number32 block (4 + 4 * k) == 0)

-- a link block reads: it has 1 to 50 numbers, two zero bytes, and numbers exactly where the list has them
abbrev pub reads_list : List ℕ → Bool
reads_list block =
    nat_le 1 (number16 block 0) && nat_le (number16 block 0) 50 && (slice_index block 2 == 0) && (slice_index block 3 == 0)
    && list_all (is_filled block) (range_with_len 1 49)

-- what the chain meets: a number, and later, once all numbers of its list were met, the list in the block that a link names
pub data Chained : Type 0 where
  number : ℕ → Chained
  list : ℕ → Chained

-- the link of a list, which is its first number, unless it is 0
abbrev pub link_of : List ℕ → List ℕ
link_of numbers = filter (λ b. not (b == 0)) (take 1 numbers)

-- The chain of at most so many lists that begins with this one: its numbers in order, a link of 0 passed over, and then
-- the list of its link block.
unfoldable pub chain_from : Geometry → List ℕ → ℕ → List ℕ → List Chained
chain_from g image zero numbers = []
chain_from g image (suc n) numbers =
    map number (link_of numbers ++ drop 1 numbers) ++ flat_map (λ b. list b ∷ chain_from g image n (list_in (block_of g image b)))
    (link_of numbers)

-- The chain of the image. It has fewer lists than the image has blocks, or meets one of them twice.
unfoldable pub chain : Geometry → List ℕ → List Chained
chain g image = chain_from g image g.blocks (free_list image)

-- the first number that is no data block or was met before, or whose list does not read
unfoldable pub first_broken : Geometry → List ℕ → (ℕ → Bool) → List Chained → Option ℕ
first_broken g image before [] = None
first_broken g image before (number b ∷ rest) = if is_new g before b then first_broken g image (with_met before b) rest else Some b
first_broken g image before (list b ∷ rest) = if reads_list (block_of g image b) then first_broken g image before rest else Some b

-- the blocks that the walk meets
abbrev pub walked : Geometry → List ℕ → List ℕ
walked g image = map (λ m. m.block) (walk g image)

-- condition 10, FreeChain: where it fails, which is a number, and None where it holds
unfoldable pub chain_flaw : Geometry → List ℕ → Option ℕ
chain_flaw g image = first_broken g image (is_among (walked g image)) (chain g image)

-- the numbers of a chain
abbrev pub chained_number : Chained → List ℕ
chained_number (number b) = b ∷ []
chained_number (list b) = []

-- the blocks that the chain meets
abbrev pub chained : Geometry → List ℕ → List ℕ
chained g image = flat_map chained_number (chain g image)

-- condition 11, Lost: the first data block that is neither in the walk nor in the chain
unfoldable pub lost_flaw : Geometry → List ℕ → Option ℕ
lost_flaw g image = find (λ b. not (is_among (walked g image ++ chained g image) b)) (range_with_len g.first_data (g.blocks - g.first_data))
