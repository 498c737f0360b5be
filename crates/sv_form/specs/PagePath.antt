-- Which numbers lead from an inode to a page of its file (Bach, chapter 4.2).
use Rattle.std.specs.Prelude.{◌≡◌, ◌<◌, ◌≤◌, ◌+◌, ◌-◌, ◌*◌, ◌/◌, ◌%◌, ◌^◌, ◌==◌, ℕ, List, [], ◌∷◌, length, min, slice_index, nat_le, nat_lt}
use Rattle.std.specs.Prelude.{if◌then◌else◌}
use Rattle.sv_form.specs.declared.geometry.Geometry.{Geometry}
use Rattle.sv_form.specs.declared.page_path.PagePath.{PagePath}
use Rattle.sv_form.specs.declared.page_path.PagePath.TheVariants.{Direct, Single, Double, Triple}

-- how many block numbers of 4 bytes an indirect block of so many bytes has
abbrev pub numbers_per : ℕ → ℕ
numbers_per block = block / 4

abbrev pub block_numbers : Geometry → ℕ
block_numbers g = numbers_per g.block_size

-- The first page below the single, the double and the triple indirect block, where a block has n numbers; and the first
-- page that is below none.
abbrev pub first_single : ℕ
first_single = 10

abbrev pub first_double : ℕ → ℕ
first_double n = first_single + n

abbrev pub first_triple : ℕ → ℕ
first_triple n = first_double n + n * n

abbrev pub page_limit : ℕ → ℕ
page_limit n = first_triple n + n * n * n

-- ---- slots: an inode has thirteen addresses, counted from 0

-- The first ones name pages, and each of the last three an indirect block: a single one, a double and a triple one.
abbrev pub single_slot : ℕ
single_slot = first_single

abbrev pub double_slot : ℕ
double_slot = single_slot + 1

abbrev pub triple_slot : ℕ
triple_slot = double_slot + 1

-- how many slots there are
abbrev pub slots : ℕ
slots = triple_slot + 1

-- The height of the block at a slot: how many numbers lead from it down to a page.
abbrev pub height_of : ℕ → ℕ
height_of slot = slot - (single_slot - 1)

-- the page at a slot, or the first page below it, where an indirect block has n numbers
abbrev pub first_page : ℕ → ℕ → ℕ
first_page n slot = if nat_le slot single_slot then slot else (if slot == double_slot then first_double n else first_triple n)

-- A spot of the tree is a slot, and the places in the indirect blocks on the way down from it.
pub record IsSpot (n slot : ℕ) (ks : List ℕ) : Type 0 where
  pub among : slot < slots
  pub deep : length ks ≤ height_of slot
  pub places : (i : ℕ) → i < length ks → slice_index ks i < n

-- ---- paths

-- the page at which a path arrives; its indices count from 0, the outermost first
abbrev pub page_of : Geometry → PagePath → ℕ
page_of g (Direct i) = i
page_of g (Single i) = first_single + i
page_of g (Double i j) = first_double (block_numbers g) + (i * block_numbers g + j)
page_of g (Triple i j k) = first_triple (block_numbers g) + ((i * block_numbers g + j) * block_numbers g + k)

-- each index is that of a direct address, or of a number of an indirect block
abbrev pub IsPath : Geometry → PagePath → Type 0
IsPath g (Direct i) = i < first_single
IsPath g (Single i) = i < block_numbers g
IsPath g (Double i j) = (i < block_numbers g) × (j < block_numbers g)
IsPath g (Triple i j k) = (i < block_numbers g) × (j < block_numbers g) × (k < block_numbers g)

-- the path of a page, where an indirect block has n numbers
unfoldable pub path : ℕ → ℕ → PagePath
path n page = if nat_lt page first_single then Direct page
    else (if nat_lt page (first_double n) then Single (page - first_single)
    else (if nat_lt page (first_triple n) then Double ((page - first_double n) / n) ((page - first_double n) % n)
    else Triple ((page - first_triple n) / n / n) ((page - first_triple n) / n % n) ((page - first_triple n) % n)))

-- the spot of a path
abbrev pub slot_of : PagePath → ℕ
slot_of (Direct i) = i
slot_of (Single i) = single_slot
slot_of (Double i j) = double_slot
slot_of (Triple i j k) = triple_slot

abbrev pub places_of : PagePath → List ℕ
places_of (Direct i) = []
places_of (Single i) = i ∷ []
places_of (Double i j) = i ∷ j ∷ []
places_of (Triple i j k) = i ∷ j ∷ k ∷ []

-- ---- blocks by their places: a block is its height and its number there. A page is at height 0, and an indirect block at
-- the height of the longest way down to a page.

-- the indirect blocks above a page, where one has `per` numbers
abbrev pub above : ℕ → ℕ → List (ℕ × ℕ)
above per page =
    if nat_lt page first_single then []
    else (1, (page - first_single) / per) ∷ (if nat_lt page (first_double per) then []
    else (2, (page - first_double per) / (per * per)) ∷ (if nat_lt page (first_triple per) then []
    else (3, 0) ∷ []))

-- a page, and the indirect blocks above it
abbrev pub blocks_at : ℕ → ℕ → List (ℕ × ℕ)
blocks_at per page = (0, page) ∷ above per page

-- ---- sizes

-- the greatest size of a file with blocks of so many bytes: what its addresses reach, and under two to the power of 31
abbrev pub greatest_for : ℕ → ℕ
greatest_for block = min (2 ^ 31 - 1) (page_limit (numbers_per block) * block)

abbrev pub greatest_size : Geometry → ℕ
greatest_size g = greatest_for g.block_size

-- a page that a file may have: its first byte lies below the greatest size
abbrev pub IsPage : Geometry → ℕ → Type 0
IsPage g page = page * g.block_size < greatest_size g

-- no page has two paths
abbrev pub HasOnePath : Type 0
HasOnePath = (g : Geometry) (p q : PagePath) → IsPath g p → IsPath g q → page_of g p ≡ page_of g q → p ≡ q
