-- What is done to a node's pages and blocks, one after another, as bytes are put into it.
use Rattle.std.specs.Prelude.{ℕ, ◌+◌, ◌==◌, List, [], ◌∷◌, if◌then◌else◌}
use Rattle.std.specs.Ordering.{nat_cmp}
use Rattle.std.specs.FinMap as map
use Rattle.std.specs.FinSet as set
use Rattle.sv_form.specs.Pair.{pair_cmp}

abbrev pub Pages : Type 0
Pages = map.FinMap nat_cmp (List ℕ)

-- the pages, this one among them: it has no bytes where it was absent, and reads as zero bytes then
abbrev pub present : Pages → ℕ → Pages
present pages page = if map.contains_key pages page then pages else map.insert pages page []

abbrev pub all_present : Pages → List ℕ → Pages
all_present pages [] = pages
all_present pages (p ∷ ps) = all_present (present pages p) ps

-- these bytes in the pages from `first` on
abbrev pub with_pages_from : Pages → ℕ → List (List ℕ) → Pages
with_pages_from pages first [] = pages
with_pages_from pages first (b ∷ bs) = map.insert (with_pages_from pages (first + 1) bs) first b

abbrev pub without_blocks : set.FinSet pair_cmp → List (ℕ × ℕ) → set.FinSet pair_cmp
without_blocks s [] = s
without_blocks s (b ∷ bs) = without_blocks (set.remove s b) bs

-- the pages without this block: at height 0 it is a page, and else it is none
abbrev pub without_page : Pages → ℕ × ℕ → Pages
without_page pages b = if b.0 == 0 then map.remove pages b.1 else pages

abbrev pub without_pages : Pages → List (ℕ × ℕ) → Pages
without_pages pages [] = pages
without_pages pages (b ∷ bs) = without_pages (without_page pages b) bs
