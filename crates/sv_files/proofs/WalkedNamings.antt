-- The entries of all directories of an image that the walk finds in order, where each used inode has links.
use Rattle.std.proofs.Common.{◌≡◌, ◌≤◌, ◌<◌, ◌+◌, ◌==◌, ◌&&◌, ◌++◌, ◌∷◌, [], ◌∙◌, ℕ, Bool, not, true, false, List, ap, sym, refl}
use Rattle.std.proofs.Common.{if◌then◌else◌, map, filter, flat_map, length, nat_le, nat_lt, arith}
use Rattle.std.proofs.lemmas.List.{map-append}
use Rattle.std.proofs.lemmas.List.Elements.{filter-append}
use Rattle.std.proofs.lemmas.List.Sums.{length-filter}
use Rattle.sv_form.specs.declared.geometry.Geometry.{Geometry}
use Rattle.sv_form.specs.declared.kind.Kind.TheVariants.{File, Dir}
use Rattle.sv_form.specs.Geometry.{inode_count}
use Rattle.sv_form.specs.Image.{geometry_of, inode_of}
use Rattle.sv_form.specs.Node.{Node, is_dir}
use Rattle.sv_plain.specs.Fs as fs
use Rattle.sv_plain.specs.Totals.{total}
use Rattle.sv_check.specs.Directories.{Naming, directories, holders_of, namings, namings_of}
use Rattle.sv_check.specs.InodeList.{is_directory, is_free, links_of}
use Rattle.sv_check.specs.Links.{times_named}
use Rattle.sv_check.specs.Sound.{IsWalked, node_of}
use Rattle.sv_check.proofs.BooleanTests.{not_true}
use Rattle.sv_check.proofs.LoadedTree.{nodes_to}
use Rattle.sv_check.proofs.TreeCounts.{sum_is, total_range}
use Rattle.sv_check.proofs.TreeNamings.{IsOne, one_of}
use Rattle.sv_files.proofs.WalkedDirectories.{dir-children, dir-named, dir-own, dir-used}

filter-flat : {X : Type 0} (p : X → Bool) (h : ℕ → List X) (ds : List ℕ) → flat_map (λ d. filter p (h d)) ds ≡ filter p (flat_map h ds)
filter-flat p h [] = refl
filter-flat p h (d ∷ ds) = ap (λ l. filter p (h d) ++ l) (filter-flat p h ds) ∙ sym (filter-append p (h d) (flat_map h ds))

map-flat : {X Y : Type 0} (f : X → Y) (h : ℕ → List X) (ds : List ℕ) → flat_map (λ d. map f (h d)) ds ≡ map f (flat_map h ds)
map-flat f h [] = refl
map-flat f h (d ∷ ds) = ap (λ l. map f (h d) ++ l) (map-flat f h ds) ∙ sym (map-append f (h d) (flat_map h ds))

module _ (image : List ℕ) (w : IsWalked image)
    (linked : (i : ℕ) → 1 ≤ i → i < 1 + inode_count (geometry_of image) → is_free (inode_of (geometry_of image) image i) ≡ false
    → 1 ≤ links_of (inode_of (geometry_of image) image i)) where
  abbrev g : Geometry
  g = geometry_of image

  abbrev node : ℕ → Node
  node d = node_of g image (inode_of g image d)

  some_links : (i : ℕ) → 1 ≤ i → i < 1 + inode_count g → is_free (inode_of g image i) ≡ false
      → nat_lt 0 (links_of (inode_of g image i)) ≡ true
  some_links i low high free =
      let some = linked i low high free in
      grind (arith, some)

  kind_dir : (t : Bool) → is_dir (if t then Dir else File) ≡ t
  kind_dir true = refl
  kind_dir false = refl

  and_true : (t : Bool) → (t && true) ≡ t
  and_true true = refl
  and_true false = refl

  pub live-is : (i : ℕ) → 1 ≤ i → i < 1 + inode_count g → is_free (inode_of g image i) ≡ false
      → fs.is_live (node i) ≡ is_directory (inode_of g image i)
  unfolding node_of
  live-is i low high free =
      ap (λ t. is_dir (if is_directory (inode_of g image i) then Dir else File) && t) (some_links i low high free) ∙ and_true _
      ∙ kind_dir (is_directory (inode_of g image i))

  -- a count over the live directories of the tree
  module _ {X : Type 0} (f : Node → ℕ) (h : ℕ → List X)
      (counts : (d : ℕ) → 1 ≤ d → d < 1 + inode_count g → is_directory (inode_of g image d) ≡ true → f (node d) ≡ length (h d)) where
    part : (m : ℕ) → 1 ≤ m → m < 1 + inode_count g → not (is_free (inode_of g image m)) ≡ true → (t : Bool)
        → is_directory (inode_of g image m) ≡ t
        → (if fs.is_live (node m) then f (node m) else 0) ≡ (if t then length (h m) else 0)
    part m low high free true so =
        ap (λ t. if t then f (node m) else 0) (live-is m low high (not_true (is_free (inode_of g image m)) free) ∙ so)
        ∙ counts m low high so
    part m low high free false so =
        ap (λ t. if t then f (node m) else 0) (live-is m low high (not_true (is_free (inode_of g image m)) free) ∙ so)

    live-total : total (λ _ n. if fs.is_live n then f n else 0) (nodes_to g image (inode_count g))
        ≡ length (flat_map h (directories g image))
    unfolding directories
    live-total =
        total_range g image (λ _ n. if fs.is_live n then f n else 0) (inode_count g) 1
        ∙ sum_is (λ m. not (is_free (inode_of g image m))) (λ m. is_directory (inode_of g image m))
        (λ m. if fs.is_live (node m) then f (node m) else 0) h (inode_count g) 1
        (λ m low high so. ap not (dir-used image w m low high so))
        (λ m low high free. part m low high free (is_directory (inode_of g image m)) refl)

  pub all-named : (i : ℕ) → fs.namings g.block_size (nodes_to g image (inode_count g)) i ≡ times_named (namings g image) i
  unfolding fs.namings namings
  all-named i =
      live-total (λ n. fs.naming_count g.block_size n 0 i) (λ d. filter (λ x. x.inode == i) (namings_of g image d))
      (λ d low high so. sym (dir-named image w d low high so i))
      ∙ ap (λ l. length l) (filter-flat (λ x. x.inode == i) (namings_of g image) (directories g image))
      ∙ length-filter (λ x. x.inode == i) (flat_map (namings_of g image) (directories g image))

  abbrev child : ℕ → Naming → Bool
  child i x = nat_le 2 x.place && (x.inode == i)

  pub holders-flat : (i : ℕ) → flat_map (λ d. holders_of (namings_of g image d) i) (directories g image) ≡ holders_of (namings g image) i
  unfolding namings
  holders-flat i =
      map-flat (λ x. x.directory) (λ d. filter (child i) (namings_of g image d)) (directories g image)
      ∙ ap (map (λ x. x.directory)) (filter-flat (child i) (namings_of g image) (directories g image))

  pub all-children : (i : ℕ) → fs.children g.block_size (nodes_to g image (inode_count g)) i ≡ length (holders_of (namings g image) i)
  unfolding fs.children
  all-children i =
      live-total (λ n. fs.naming_count g.block_size n 2 i) (λ d. holders_of (namings_of g image d) i)
      (λ d low high so. sym (dir-children image w d low high so i)) ∙ ap (λ l. length l) (holders-flat i)

  -- the one directory in which another entry names an inode
  pub one-holder : (i p : ℕ) → holders_of (namings g image) i ≡ p ∷ []
      → IsOne (λ m. is_directory (inode_of g image m)) (λ d. holders_of (namings_of g image d) i) p 1 (inode_count g)
  unfolding directories
  one-holder i p e =
      one_of (λ m. is_directory (inode_of g image m)) (λ d. holders_of (namings_of g image d) i) p (inode_count g) 1
      (λ m low high so. dir-own image w m low high so i) (holders-flat i ∙ e)
