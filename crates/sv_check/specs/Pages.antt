-- The pages of a file among the blocks that its inode reaches.
use Rattle.std.specs.Prelude.{◌≡◌, ◌==◌, ◌≤◌, ◌<◌, ◌+◌, ◌%◌, ◌&&◌, ℕ, Bool, List, [], ◌∷◌, All, drop, find, flat_map, if◌then◌else◌}
use Rattle.sv_form.specs.declared.geometry.Geometry.{Geometry}
use Rattle.sv_form.specs.Image.{inode_of}
use Rattle.sv_plain.specs.Front.{size_of}
use Rattle.sv_check.specs.declared.pages.Directory.{Directory}
use Rattle.sv_check.specs.declared.pages.PageBlock.{PageBlock}
use Rattle.sv_check.specs.Directories.{are_entries, entries, has_no_hole}
use Rattle.sv_check.specs.Walk.{Reached, reached}

-- a block as a page, if it is one
abbrev pub page_at : Reached → List PageBlock
page_at r = if r.height == 0 then record { page = r.page; block = r.block } ∷ [] else []

-- the pages among these blocks, in their order
abbrev pub pages_among : List Reached → List PageBlock
pages_among blocks = flat_map page_at blocks

abbrev pub has_number : ℕ → PageBlock → Bool
has_number k p = p.page == k

-- each page is past the one before, from one page on, and below another
abbrev pub IsAscending : ℕ → List PageBlock → ℕ → Type 0
IsAscending low [] high = low ≤ high
IsAscending low (p ∷ ps) high = (low ≤ p.page) × IsAscending (p.page + 1) ps high

-- a page at or after this one is found among the pages from there on, which ascend
pub record IsAtPage (ps : List PageBlock) (k high : ℕ) : Type 0 where
  pub ahead : (j : ℕ) → k ≤ j → find (has_number j) ps ≡ find (has_number j) (drop k ps)
  pub ascends : IsAscending k (drop k ps) high

-- ---- directories

-- what is kept of a directory
pub record DirectoryPages : Type 0 where
  pub inode : ℕ
  pub size : ℕ
  pub pages : List PageBlock

-- the same of one in memory
abbrev pub kept_of : Directory → DirectoryPages
kept_of d = record { inode = d.inode; size = d.size; pages = d.pages.items }

-- and of directory n of an image
abbrev pub directory_in : Geometry → List ℕ → ℕ → DirectoryPages
directory_in g image n = record {
  inode = n;
  size = size_of (inode_of g image n);
  pages = pages_among
      (reached g image (inode_of g image n));
}

-- what is kept of a directory is that of the image, its entries are whole, and its blocks stand in the image
pub record IsReady (g : Geometry) (image : List ℕ) (d : Directory) : Type 0 where
  pub is : kept_of d ≡ directory_in g image d.inode
  pub whole : d.size % 16 ≡ 0
  pub inside : All (λ p. p.block < g.blocks) d.pages.items

-- each page of directory n below its size is present, and its entries are in order
abbrev pub is_in_order : Geometry → List ℕ → ℕ → Bool
is_in_order g image n = has_no_hole g image (inode_of g image n) && are_entries g image (entries g image n)
