-- The chain of free blocks (Bach, chapter 4.7), over a reader of the bytes in which a block has its list. A list has 1 to 50
-- numbers. Its first, the link, is 0 or the block in which the next list stands; the others are free blocks. The last number
-- is taken first.
use Rattle.std.specs.Prelude.{◌≡◌, ◌≢◌, ◌≤◌, ◌-◌, ◌+◌, ◌*◌, ◌==◌, ℕ, zero, suc, List, [], ◌∷◌, length, map, take, slice_index}
use Rattle.std.specs.Prelude.{if◌then◌else◌}
use Rattle.std.specs.List.{range_with_len}
use Rattle.sv_form.specs.LinkBlock.{IsLinkBlock}
use Rattle.sv_form.specs.Number.{number16, number32}

-- the numbers of a list whose count and table stand at these places
abbrev pub numbers_at : List ℕ → ℕ → ℕ → List ℕ
numbers_at bytes count_at at = map (λ k. number32 bytes (at + 4 * k)) (range_with_len 0 (number16 bytes count_at))

-- the list that stands in a link block
abbrev pub list_in : List ℕ → List ℕ
list_in bytes = numbers_at bytes 0 4

-- the block with these bytes reads as a list
pub record HasList (bytes : List ℕ) (list : List ℕ) : Type 0 where
  pub spelled : IsLinkBlock bytes (record { numbers = record { items = list } })

-- the number that is taken from a list, and the list after it: where it is the only one, that which stands in the block
abbrev pub last : List ℕ → ℕ
last list = slice_index list (length list - 1)

unfoldable pub after : (ℕ → List ℕ) → List ℕ → List ℕ
after read list = if length list == 1 then list_in (read (last list)) else take (length list - 1) list

-- block b can be taken from the list; where it is the only number, a list stands in it
pub record IsNext (read : ℕ → List ℕ) (list : List ℕ) (b : ℕ) : Type 0 where
  pub named : b ≢ 0
  pub some : 1 ≤ length list
  pub last : last list ≡ b
  pub link : length list ≡ 1 → HasList (read b) (list_in (read b))

-- from this list on the chain has these blocks, in the order in which they are taken; it ends with the link 0
unfoldable pub IsChain : (ℕ → List ℕ) → List ℕ → List ℕ → Type 0
IsChain read list [] = list ≡ 0 ∷ []
IsChain read list (b ∷ rest) = IsNext read list b × IsChain read (after read list) rest

-- the first n blocks of the chain
unfoldable pub taken : ℕ → (ℕ → List ℕ) → List ℕ → List ℕ
taken zero read list = []
taken (suc n) read list = last list ∷ taken n read (after read list)
