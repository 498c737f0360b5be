-- Sound images: the sixteen conditions in order, the first that fails, and what an image stands for.
use Rattle.std.specs.Prelude.{◌≡◌, ◌⊎◌, ◌==◌, ◌||◌, ◌&&◌, ◌+◌, ◌%◌, ℕ, Bool, List, [], ◌∷◌, map, Option, Some, None, unwrap_or, filter}
use Rattle.std.specs.Prelude.{find, if◌then◌else◌}
use Rattle.std.specs.List.{list_any}
use Rattle.std.specs.Ordering.{nat_cmp}
use Rattle.std.specs.FinMap as fmap
use Rattle.sv_form.specs.declared.geometry.Geometry.{Geometry}
use Rattle.sv_form.specs.declared.kind.Kind.TheVariants.{File, Dir}
use Rattle.sv_form.specs.declared.owners.Mounted.{Mounted}
use Rattle.sv_form.specs.declared.place.Place.{Place}
use Rattle.sv_form.specs.Geometry.{IsPlace, inode_place}
use Rattle.sv_form.specs.Image.{block_of, inode_of, superblock_of, geometry_of}
use Rattle.sv_form.specs.Node.{Node}
use Rattle.sv_form.specs.Number.{number16}
use Rattle.sv_form.specs.Owners.{owner_of}
use Rattle.sv_form.specs.Superblock.{IsSuper}
use Rattle.sv_plain.specs.Front.{size_of}
use Rattle.sv_check.specs.Sizes.{IsSized, SizesFlaw}
use Rattle.sv_check.specs.InodeList.{is_directory, links_of, used_inodes, used_flags, kind_flaw, size_flaw}
use Rattle.sv_check.specs.Walk.{Reached, reached, range_flaw, twice_flaw}
use Rattle.sv_check.specs.PastSize.{past_size_flaw, tail_flaw}
use Rattle.sv_check.specs.Chain.{chain_flaw, lost_flaw}
use Rattle.sv_check.specs.InodeCache.{cache_flaw}
use Rattle.sv_check.specs.Directories.{root_flaw, entry_flaw, dots_flaw}
use Rattle.sv_check.specs.Links.{links_flaw}

-- ---- the first condition that fails

-- the conditions 4 to 16 in order: of each the place where it fails, and None where it holds
abbrev pub flaws_from_4 : Geometry → List ℕ → List (Option ℕ)
flaws_from_4 g image =
    kind_flaw g image ∷ size_flaw g image ∷ range_flaw g image ∷ twice_flaw g image ∷ past_size_flaw g image ∷ tail_flaw g image
    ∷ chain_flaw g image ∷ lost_flaw g image ∷ cache_flaw g image ∷ root_flaw g image ∷ entry_flaw g image ∷ dots_flaw g image ∷ links_flaw
    g image ∷ []

-- the first that fails, by its number and its place, where the first of the list has this number
abbrev pub first_failing : ℕ → List (Option ℕ) → Option (ℕ × ℕ)
first_failing number [] = None
first_failing number (None ∷ rest) = first_failing (number + 1) rest
first_failing number (Some place ∷ rest) = Some (number, place)

-- the first of the conditions 4 to 16 that fails, and the place where it does
unfoldable pub flaw_from_4 : List ℕ → Option (ℕ × ℕ)
flaw_from_4 image = first_failing 4 (flaws_from_4 (geometry_of image) image)

-- the first three conditions hold, and of the others this one fails first, here
pub record FailsFrom4 (image : List ℕ) (number place : ℕ) : Type 0 where
  pub sized : IsSized image
  pub fails : flaw_from_4 image ≡ Some (number, place)

-- one of the sixteen conditions fails: this one first, and here
abbrev pub Flaw : List ℕ → ℕ → ℕ → Type 0
Flaw image number place = SizesFlaw image number place ⊎ FailsFrom4 image number place

-- all sixteen conditions hold
pub record IsSound (image : List ℕ) : Type 0 where
  pub sized : IsSized image
  pub others : flaw_from_4 image ≡ None

-- the first nine conditions hold: the sizes, the inodes, and the walk over their blocks
pub record IsWalked (image : List ℕ) : Type 0 where
  pub sized : IsSized image
  pub kind : kind_flaw (geometry_of image) image ≡ None
  pub size : size_flaw (geometry_of image) image ≡ None
  pub range : range_flaw (geometry_of image) image ≡ None
  pub twice : twice_flaw (geometry_of image) image ≡ None
  pub past_size : past_size_flaw (geometry_of image) image ≡ None
  pub tail : tail_flaw (geometry_of image) image ≡ None

-- the first eleven conditions hold: those nine, the chain of free blocks, and that walk and chain miss no data block
pub record IsChained (image : List ℕ) : Type 0 where
  pub walked : IsWalked image
  pub chain : chain_flaw (geometry_of image) image ≡ None
  pub lost : lost_flaw (geometry_of image) image ≡ None

-- the first thirteen conditions hold: those eleven, the cache of free inodes, and that the root is a directory
pub record IsRooted (image : List ℕ) : Type 0 where
  pub chained : IsChained image
  pub cache : cache_flaw (geometry_of image) image ≡ None
  pub root : root_flaw (geometry_of image) image ≡ None

-- the first fourteen conditions hold: those thirteen, and that the entries of each directory are in order
pub record IsEntered (image : List ℕ) : Type 0 where
  pub rooted : IsRooted image
  pub entry : entry_flaw (geometry_of image) image ≡ None

-- ---- the tree of a sound image

abbrev pub is_page : Reached → Bool
is_page r = r.height == 0

-- the node of an inode: the blocks at height 0 that it reaches are its pages
unfoldable pub node_of : Geometry → List ℕ → List ℕ → Node
node_of g image inode = record {
  kind = if is_directory inode then Dir else File;
  mode = number16 inode 0 % 4096;
  links = links_of inode;
  size = size_of inode;
  pages = fmap.from_entries (map (λ r. (r.page, block_of g image r.block)) (filter is_page (reached g image inode)));
}

-- the node of each used inode, by its number
unfoldable pub tree : List ℕ → fmap.FinMap nat_cmp Node
tree image = let g = geometry_of image in fmap.from_entries (map (λ n. (n, node_of g image (inode_of g image n))) (used_inodes g image))

-- ---- what a check of a sound image leaves

-- the line of an inode, and all lines of the blocks that it reaches, are its own
abbrev pub owns : Geometry → List ℕ → Place → ℕ → Bool
owns g image p n = ((inode_place g n).block == p.block && (inode_place g n).line == p.line)
    || list_any (λ r. r.block == p.block) (reached g image (inode_of g image n))

-- the used inode whose the line is, 0 for none
unfoldable pub line_owner : Geometry → List ℕ → Place → ℕ
line_owner g image p = unwrap_or (find (owns g image p) (used_inodes g image)) 0

-- the image is sound, and these are its sizes, its superblock, whose each of its lines is, and which inodes are used
pub record IsMountedFrom (image : List ℕ) (m : Mounted) : Type 0 where
  pub sound : IsSound image
  pub geometry : m.geometry ≡ geometry_of image
  pub head : IsSuper (superblock_of image) m.head
  pub table : m.owners.geometry ≡ geometry_of image
  pub owners : (p : Place) → IsPlace (geometry_of image) p → owner_of m.owners p ≡ line_owner (geometry_of image) image p
  pub used : m.used.items ≡ used_flags (geometry_of image) image
