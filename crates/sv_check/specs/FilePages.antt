-- The pages of one inode, and the file that a number names.
use Rattle.std.specs.Prelude.{◌≡◌, ◌≢◌, ◌≤◌, ◌||◌, true, false, ℕ, List, Option, Some, None, drop, find, option_map, unwrap_or}
use Rattle.std.specs.Prelude.{if◌then◌else◌}
use Rattle.std.specs.FinMap as fmap
use Rattle.sv_form.specs.declared.geometry.Geometry.{Geometry}
use Rattle.sv_form.specs.Geometry.{IsDataBlock}
use Rattle.sv_form.specs.Image.{geometry_of, inode_of}
use Rattle.sv_form.specs.Node.{Node, is_dir}
use Rattle.sv_form.specs.NodeEntries.{node_bytes}
use Rattle.sv_check.specs.declared.pages.PageBlock.{PageBlock}
use Rattle.sv_plain.specs.Front.{size_of}
use Rattle.sv_check.specs.InodeList.{is_directory, is_free}
use Rattle.sv_check.specs.Pages.{IsAscending, has_number, pages_among}
use Rattle.sv_check.specs.Sound.{tree}
use Rattle.sv_check.specs.Walk.{reached}

-- the pages of inode n of an image, ascending
abbrev pub file_pages : Geometry → List ℕ → ℕ → List PageBlock
file_pages g image n = pages_among (reached g image (inode_of g image n))

-- the block in which page k stands, 0 where it is absent
abbrev pub block_at : List PageBlock → ℕ → ℕ
block_at pages k = unwrap_or (option_map (λ p. p.block) (find (has_number k) pages)) 0

-- each page stands in a data block
abbrev pub AreInData : Geometry → List PageBlock → Type 0
AreInData g pages = (k : ℕ) → block_at pages k ≢ 0 → IsDataBlock g (block_at pages k)

-- the pages ascend by their numbers
pub record AreInOrder (pages : List PageBlock) : Type 0 where
  pub high : ℕ
  pub ascends : IsAscending 0 pages high

-- the pages from place `at` on are those from page k on, and ascend
pub record IsAtBlock (pages : List PageBlock) (at k : ℕ) : Type 0 where
  pub ahead : (j : ℕ) → k ≤ j → find (has_number j) pages ≡ find (has_number j) (drop at pages)
  pub high : ℕ
  pub ascends : IsAscending k (drop at pages) high

-- ---- a file in the tree

abbrev pub regular : Option Node → Option Node
regular None = None
regular (Some node) = if is_dir node.kind then None else Some node

-- the regular file that is inode n of an image
abbrev pub file_of : List ℕ → ℕ → Option Node
file_of image n = regular (fmap.get (tree image) n)

-- the bytes of a node, as many as its size says
abbrev pub text_of : List ℕ → Node → List ℕ
text_of image node = node_bytes (geometry_of image).block_size node

-- the bytes of an inode are those of a regular file of this size, or of none
abbrev pub ShowsFile : List ℕ → Option ℕ → Type 0
ShowsFile bytes None = (is_free bytes || is_directory bytes) ≡ true
ShowsFile bytes (Some size) = (is_free bytes ≡ false) × (is_directory bytes ≡ false) × (size ≡ size_of bytes)

-- inode n of an image is a regular file of this size, or none
abbrev pub IsFileSize : List ℕ → ℕ → Option ℕ → Type 0
IsFileSize image n None = file_of image n ≡ None
IsFileSize image n (Some size) = ShowsFile (inode_of (geometry_of image) image n) (Some size)
