-- The address tree of an inode (Bach, chapter 4.2), over a reader of numbers: its addresses, and the numbers in the indirect
-- blocks below the last three of them. A number that is 0 is a hole.
use Rattle.std.specs.Prelude.{◌+◌, ◌-◌, ◌*◌, ◌^◌, ◌==◌, ◌++◌, ℕ, zero, suc, not, List, [], ◌∷◌, filter, if◌then◌else◌}
use Rattle.std.specs.List.{flat_map, range_with_len}
use Rattle.sv_form.specs.Number.{number32}
use Rattle.sv_form.specs.PagePath.{slots, single_slot, double_slot, triple_slot, height_of, first_page, path, slot_of, places_of}

-- a reader: number k of block b
abbrev pub Numbers : Type 0
Numbers = ℕ → ℕ → ℕ

-- the reader of blocks whose bytes these are: each number takes four of them
abbrev pub numbers_of : (ℕ → List ℕ) → Numbers
numbers_of read = λ b k. number32 (read b) (4 * k)

-- where number k of block b leads; below a hole all is a hole
unfoldable pub child : Numbers → ℕ → ℕ → ℕ
child numbers b k = if b == 0 then 0 else numbers b k

-- where a list of places leads, from block b on
abbrev pub down : Numbers → ℕ → List ℕ → ℕ
down numbers b [] = b
down numbers b (k ∷ ks) = down numbers (child numbers b k) ks

-- the block at a spot, 0 for a hole, where the inode has these addresses
abbrev pub block_at : Numbers → (ℕ → ℕ) → ℕ → List ℕ → ℕ
block_at numbers address slot ks = down numbers (address slot) ks

-- the block of a page, 0 for a hole
unfoldable pub page_block : ℕ → Numbers → (ℕ → ℕ) → ℕ → ℕ
page_block n numbers address page = block_at numbers address (slot_of (path n page)) (places_of (path n page))

-- ---- all blocks, parents first

-- a block that is reached: a page at height 0, an indirect block above; and the page, or the first page below it
pub record Reached : Type 0 where
  pub height : ℕ
  pub page : ℕ
  pub block : ℕ

-- a block at a height, and all that is below it; the numbers of an indirect block follow it at once, in order
unfoldable pub reached_under : ℕ → Numbers → ℕ → ℕ → ℕ → List Reached
reached_under n numbers zero page b = record { height = 0; page = page; block = b } ∷ []
reached_under n numbers (suc h) page b =
    record { height = suc h; page = page; block = b }
    ∷ flat_map (λ k. reached_under n numbers h (page + k * n ^ h) (numbers b k)) (filter (λ k. not (numbers b k == 0)) (range_with_len 0 n))

-- all blocks that the addresses reach, in their order
unfoldable pub reached : ℕ → Numbers → (ℕ → ℕ) → List Reached
reached n numbers address =
    flat_map (λ k. reached_under n numbers (height_of k) (first_page n k) (address k))
    (filter (λ k. not (address k == 0)) (range_with_len 0 slots))

-- ---- all blocks, children first: the order in which they can be given back

-- the blocks under a block and the block itself, which comes last; it has so many indirect blocks on the way to a page
unfoldable pub blocks_below : ℕ → Numbers → ℕ → ℕ → List ℕ
blocks_below n numbers zero b = if b == 0 then [] else b ∷ []
blocks_below n numbers (suc d) b =
    if b == 0 then [] else flat_map (λ k. blocks_below n numbers d (child numbers b k)) (range_with_len 0 n) ++ b ∷ []

-- all blocks of the tree: pages ascending, each indirect block after all that is under it
abbrev pub blocks_of : ℕ → Numbers → (ℕ → ℕ) → List ℕ
blocks_of n numbers address =
    flat_map (λ slot. blocks_below n numbers 0 (address slot)) (range_with_len 0 single_slot)
    ++ blocks_below n numbers (height_of single_slot) (address single_slot)
    ++ blocks_below n numbers (height_of double_slot) (address double_slot)
    ++ blocks_below n numbers (height_of triple_slot) (address triple_slot)
