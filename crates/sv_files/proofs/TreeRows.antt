-- A small tree and a small chain, worked out by hand.
use Rattle.std.proofs.Common.{◌≡◌, ◌==◌, ℕ, List, [], ◌∷◌, cond, refl}
use Rattle.sv_form.specs.AddressTree.{Numbers, Reached, blocks_below, blocks_of, child, page_block, reached, reached_under}
use Rattle.sv_form.specs.FreeChain.{after, taken}
use Rattle.sv_form.specs.PagePath.{path}

-- ---- blocks with four numbers: page 0 is block 5; the single indirect block is 7, whose numbers are 8, two holes and 9; the
-- double one is 20, whose last number is block 21, whose second one is page 14 + 13

abbrev numbers : Numbers
numbers b k =
    cond (b == 7) (cond (k == 0) 8 (cond (k == 3) 9 0))
    (cond (b == 20) (cond (k == 3) 21 0)
    (cond (b == 21) (cond (k == 1) 22 0) 0))

abbrev address : ℕ → ℕ
address slot = cond (slot == 0) 5 (cond (slot == 10) 7 (cond (slot == 11) 20 0))

abbrev at : ℕ → ℕ → ℕ → Reached
at height page block = record { height = height; page = page; block = block }

-- parents first, with their heights and their pages
parents_first : reached 4 numbers address ≡ at 0 0 5 ∷ at 1 10 7 ∷ at 0 10 8 ∷ at 0 13 9 ∷ at 2 14 20 ∷ at 1 26 21 ∷ at 0 27 22 ∷ []
unfolding reached reached_under
parents_first = refl

-- children first
children_first : blocks_of 4 numbers address ≡ 5 ∷ 8 ∷ 9 ∷ 7 ∷ 22 ∷ 21 ∷ 20 ∷ []
unfolding blocks_below child
children_first = refl

-- pages and holes
page_13 : page_block 4 numbers address 13 ≡ 9
unfolding page_block path child
page_13 = refl

page_27 : page_block 4 numbers address 27 ≡ 22
unfolding page_block path child
page_27 = refl

hole_11 : page_block 4 numbers address 11 ≡ 0
unfolding page_block path child
hole_11 = refl

hole_30 : page_block 4 numbers address 30 ≡ 0
unfolding page_block path child
hole_30 = refl

-- ---- the list 3, 9, of which 3 is the link block with the list 0, 5

abbrev list_block : ℕ → List ℕ
list_block b = cond (b == 3) (2 ∷ 0 ∷ 0 ∷ 0 ∷ 0 ∷ 0 ∷ 0 ∷ 0 ∷ 5 ∷ 0 ∷ 0 ∷ 0 ∷ []) []

-- the last of a list first, and a link block when it is the only one left
three_taken : taken 3 list_block (3 ∷ 9 ∷ []) ≡ 9 ∷ 3 ∷ 5 ∷ []
unfolding taken after
three_taken = refl

-- what is left then is the link 0
none_left : after list_block (0 ∷ 5 ∷ []) ≡ 0 ∷ []
unfolding after
none_left = refl
