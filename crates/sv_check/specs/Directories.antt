-- Conditions 13 to 15 of a sound image: the root, the entries of directories, and `.` and `..` (Bach, chapter 4.3).
use Rattle.std.specs.Prelude.{◌==◌, ◌&&◌, ◌||◌, ◌+◌, ◌-◌, ◌/◌, ℕ, zero, suc, Bool, false, not, List, [], ◌∷◌, map, take, drop, length}
use Rattle.std.specs.Prelude.{replicate, Option, Some, None, is_some, option_map, unwrap_or, nat_le, filter, find, flat_map, if◌then◌else◌}
use Rattle.std.specs.List.{range_with_len, list_any, list_all, enumerate_from}
use Rattle.sv_form.specs.declared.geometry.Geometry.{Geometry}
use Rattle.sv_form.specs.Geometry.{inode_count}
use Rattle.sv_form.specs.Image.{block_of, inode_of}
pub use Rattle.sv_form.specs.Entries.{pieces, named_by, name_in}
use Rattle.sv_plain.specs.Front.{size_of}
use Rattle.sv_plain.specs.Names.{some_and, same_bytes}
use Rattle.sv_check.specs.InodeList.{inode_numbers, all_zero, is_free, is_directory}
use Rattle.sv_check.specs.Walk.{Reached, reached}

-- condition 13, Root: inode 2 is a directory; the place is 2
unfoldable pub root_flaw : Geometry → List ℕ → Option ℕ
root_flaw g image = if is_directory (inode_of g image 2) then None else Some 2

-- the numbers of the directories, ascending
unfoldable pub directories : Geometry → List ℕ → List ℕ
directories g image = filter (λ n. is_directory (inode_of g image n)) (inode_numbers g)

-- ---- what a file holds

-- the bytes of page k among the blocks that an inode reaches, where it is present
abbrev pub page_in : Geometry → List ℕ → List Reached → ℕ → Option (List ℕ)
page_in g image blocks k = option_map (λ r. block_of g image r.block) (find (λ r. (r.height == 0) && (r.page == k)) blocks)

-- the numbers of the pages that begin below a size
abbrev pub pages_within : Geometry → ℕ → List ℕ
pages_within g size = range_with_len 0 ((size + (g.block_size - 1)) / g.block_size)

-- the bytes of an inode's file below its size; an absent page is zero bytes
unfoldable pub contents : Geometry → List ℕ → List ℕ → List ℕ
contents g image inode =
    take (size_of inode) (flat_map (λ k. unwrap_or (page_in g image (reached g image inode) k) (replicate g.block_size 0))
    (pages_within g (size_of inode)))

-- each page below the size is present
abbrev pub has_no_hole : Geometry → List ℕ → List ℕ → Bool
has_no_hole g image inode = list_all (λ k. is_some (page_in g image (reached g image inode) k)) (pages_within g (size_of inode))

-- ---- the entries of a directory, of sixteen bytes each

-- the entries of directory d, in order
unfoldable pub entries : Geometry → List ℕ → ℕ → List (List ℕ)
entries g image d = pieces (size_of (inode_of g image d) / 16) (contents g image (inode_of g image d))

-- an entry reads: it is zero bytes, or has a name without a slash, and zero bytes after it
abbrev pub reads_entry : List ℕ → Bool
reads_entry entry =
    if named_by entry == 0 then all_zero entry
    else (not (length (name_in entry) == 0) && list_all (λ b. not (b == 47)) (name_in entry)
    && all_zero (drop (2 + length (name_in entry)) entry))

-- an entry is empty, or names an inode that is in the list and used
abbrev pub leads_somewhere : Geometry → List ℕ → List ℕ → Bool
leads_somewhere g image entry = (named_by entry == 0) || (nat_le (named_by entry) (inode_count g)
    && not (is_free (inode_of g image (named_by entry))))

-- the names in these entries; an empty entry has none
abbrev pub names_in : List (List ℕ) → List (List ℕ)
names_in es = map name_in (filter (λ e. not (named_by e == 0)) es)

-- two of these names are the same
abbrev pub has_twins : List (List ℕ) → Bool
has_twins [] = false
has_twins (name ∷ names) = list_any (same_bytes name) names || has_twins names

-- the entries of one directory are in order
abbrev pub are_entries : Geometry → List ℕ → List (List ℕ) → Bool
are_entries g image es = list_all (λ e. reads_entry e && leads_somewhere g image e) es && not (has_twins (names_in es))

-- condition 14, Entry: where it fails, and None where it holds
unfoldable pub entry_flaw : Geometry → List ℕ → Option ℕ
entry_flaw g image = find (λ d. not (has_no_hole g image (inode_of g image d) && are_entries g image (entries g image d)))
    (directories g image)

-- ---- `.` and `..`

-- an entry of a directory: its place from 0, and the inode that it names
pub record Naming : Type 0 where
  pub directory : ℕ
  pub place : ℕ
  pub inode : ℕ

-- the entries of directory d as namings
abbrev pub namings_of : Geometry → List ℕ → ℕ → List Naming
namings_of g image d = map (λ e. record { directory = d; place = e.0; inode = named_by e.1 }) (enumerate_from 0 (entries g image d))

-- the entries of all directories
unfoldable pub namings : Geometry → List ℕ → List Naming
namings g image = flat_map (namings_of g image) (directories g image)

abbrev pub dot : List ℕ
dot = 46 ∷ []

abbrev pub dots : List ℕ
dots = 46 ∷ 46 ∷ []

-- the directory that `..` leads to: entry 1 names it, if that is its name
abbrev pub above : List (List ℕ) → Option ℕ
above es = option_map named_by (find (λ e. same_bytes (name_in e) dots) (take 1 (drop 1 es)))

-- entry 0 is `.` and names the directory itself
abbrev pub has_dot : List (List ℕ) → ℕ → Bool
has_dot es d = list_any (λ e. (named_by e == d) && same_bytes (name_in e) dot) (take 1 es)

-- no entry after these two has one of these names
abbrev pub has_dots_once : List (List ℕ) → Bool
has_dots_once es = list_all (λ e. not (same_bytes (name_in e) dot) && not (same_bytes (name_in e) dots)) (drop 2 es)

-- the directories in which an entry past the first two names inode n, one for each such entry
abbrev pub holders_of : List Naming → ℕ → List ℕ
holders_of all n = map (λ e. e.directory) (filter (λ e. nat_le 2 e.place && (e.inode == n)) all)

-- The `..` of the root is the root, and no other entry names it. Any other directory is named by one other entry, which
-- stands in the directory that its `..` names.
abbrev pub is_placed : List Naming → ℕ → ℕ → Bool
is_placed all d parent = if d == 2 then ((parent == 2) && same_bytes (holders_of all 2) []) else same_bytes (holders_of all d) (parent ∷ [])

-- what `..` of directory d leads to, if d is a directory
abbrev pub above_in : Geometry → List ℕ → ℕ → Option ℕ
above_in g image d = if is_directory (inode_of g image d) && nat_le d (inode_count g) then above (entries g image d) else None

-- at most n steps along `..` lead from directory d to the root
unfoldable pub rises_to_root : (ℕ → Option ℕ) → ℕ → ℕ → Bool
rises_to_root up zero d = d == 2
rises_to_root up (suc n) d = (d == 2) || some_and (up d) (rises_to_root up n)

-- the dots of directory d, whose entries these are, are in order; a way to the root has fewer steps than there are inodes
abbrev pub are_dots : Geometry → List ℕ → List Naming → ℕ → List (List ℕ) → Bool
are_dots g image all d es = has_dot es d && some_and (above es) (is_placed all d) && has_dots_once es
    && rises_to_root (above_in g image) (inode_count g) d

-- condition 15, Dots: where it fails, and None where it holds
unfoldable pub dots_flaw : Geometry → List ℕ → Option ℕ
dots_flaw g image = find (λ d. not (are_dots g image (namings g image) d (entries g image d))) (directories g image)
