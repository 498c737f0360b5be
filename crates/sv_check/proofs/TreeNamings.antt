-- The entries of the image's directories, and those of the tree's.
use Rattle.std.proofs.Common.{◌≡◌, ◌≤◌, ◌<◌, ◌+◌, ◌-◌, ◌==◌, ◌&&◌, ◌++◌, ◌∷◌, [], ◌∙◌, ℕ, zero, suc, Bool, not, true, false, List, ap, sym, refl, cond, if◌then◌else◌, map, filter, flat_map, length, nat_le, nat_lt, arith}
use Rattle.std.specs.List.{count_by, enumerate_from, list_all, range_with_len}
use Rattle.std.proofs.lemmas.Bool.{eqb-true}
use Rattle.std.proofs.lemmas.List.{length-map, map-append}
use Rattle.std.proofs.lemmas.List.Elements.{filter-append}
use Rattle.std.proofs.lemmas.List.Sums.{length-filter}
use Rattle.sv_form.specs.declared.geometry.Geometry.{Geometry}
use Rattle.sv_form.specs.declared.kind.Kind.TheVariants.{File, Dir}
use Rattle.sv_form.specs.Geometry.{inode_count}
use Rattle.sv_form.specs.Image.{geometry_of, inode_of}
use Rattle.sv_form.specs.Node.{Node, bytes_of, entry_count, entry_inode, is_dir}
use Rattle.sv_form.specs.NodeEntries.{entry_bytes}
use Rattle.sv_plain.specs.Fs as fs
use Rattle.sv_plain.specs.Totals.{total}
use Rattle.sv_check.specs.Directories.{Naming, directories, holders_of, named_by, namings, namings_of}
use Rattle.sv_check.specs.InodeList.{is_directory, is_free, links_of, used_inodes}
use Rattle.sv_check.specs.Links.{has_wrong_links, links_flaw, times_named}
use Rattle.sv_check.specs.Sound.{IsSound, node_of}
use Rattle.sv_check.proofs.BooleanTests.{and_left, not_true, or_left}
use Rattle.sv_check.proofs.LoadedTree.{nodes_to}
use Rattle.sv_check.proofs.SoundParts.{AreMet, are_met}
use Rattle.sv_check.proofs.TreeCounts.{kept_alike, kept_of_map, map_map, numbered, sum_is, total_range}
use Rattle.sv_check.proofs.TreeDirectories.{count-least, es-are, used}
use Rattle.sv_check.proofs.TreeNodes.{none_passes}

-- ---- what is made of joined lists

filter-flat : {X : Type 0} (p : X → Bool) (h : ℕ → List X) (ds : List ℕ) → flat_map (λ d. filter p (h d)) ds ≡ filter p (flat_map h ds)
filter-flat p h [] = refl
filter-flat p h (d ∷ ds) = ap (λ l. filter p (h d) ++ l) (filter-flat p h ds) ∙ sym (filter-append p (h d) (flat_map h ds))

map-flat : {X Y : Type 0} (f : X → Y) (h : ℕ → List X) (ds : List ℕ) → flat_map (λ d. map f (h d)) ds ≡ map f (flat_map h ds)
map-flat f h [] = refl
map-flat f h (d ∷ ds) = ap (λ l. map f (h d) ++ l) (map-flat f h ds) ∙ sym (map-append f (h d) (flat_map h ds))

-- joined lists of which only one has an element, and that list has its own number alone
module _ (q : ℕ → Bool) (h : ℕ → List ℕ) (p : ℕ) where
  pub record IsOne (a n : ℕ) : Type 0 where
    pub low : a ≤ p
    pub high : p < a + n
    pub so : q p ≡ true
    pub alone : h p ≡ p ∷ []

  one_wider : (a n : ℕ) → IsOne (a + 1) n → IsOne a (suc n)
  one_wider a n o = record { low = (let low = o.low in omega (arith, low)); high = (let high = o.high in omega (arith, high)); so = o.so; alone = o.alone }

  no_more : (xs ys : List ℕ) → xs ++ ys ≡ [] → xs ≡ []
  no_more [] ys e = refl
  no_more (x ∷ xs) ys e = let bad : ⊥ = cc e in absurd bad

  one_here : (a n : ℕ) (list rest : List ℕ) → h a ≡ list → list_all (λ x. x == a) list ≡ true → q a ≡ true → list ++ rest ≡ p ∷ [] → (rest ≡ p ∷ [] → IsOne a (suc n)) → IsOne a (suc n)
  one_here a n [] rest is own so e later = later e
  one_here a n (x ∷ xs) rest is own so e later =
      let first : x ≡ p = cc e in
      let others : xs ++ rest ≡ [] = cc e in
      let itself : x ≡ a = eqb-true x a (and_left (x == a) (list_all (λ y. y == a) xs) own) in
      let at : a ≡ p = sym itself ∙ first in
      let alone : h p ≡ p ∷ [] = ap h (sym at) ∙ is ∙ ap (λ l. x ∷ l) (no_more xs rest others) ∙ ap (λ (y : ℕ). y ∷ []) first in
      record { low = omega (arith, at); high = omega (arith, at); so = ap q (sym at) ∙ so; alone = alone }

  one_step : (a n : ℕ) (t : Bool) → q a ≡ t → (t ≡ true → list_all (λ x. x == a) (h a) ≡ true) → (flat_map h (filter q (range_with_len (a + 1) n)) ≡ p ∷ [] → IsOne (a + 1) n)
      → flat_map h (cond t (a ∷ filter q (range_with_len (a + 1) n)) (filter q (range_with_len (a + 1) n))) ≡ p ∷ [] → IsOne a (suc n)
  one_step a n false is own rest e = one_wider a n (rest e)
  one_step a n true is own rest e = one_here a n (h a) (flat_map h (filter q (range_with_len (a + 1) n))) refl (own refl) is e (λ f. one_wider a n (rest f))

  pub one_of : (n a : ℕ) → ((m : ℕ) → a ≤ m → m < a + n → q m ≡ true → list_all (λ x. x == m) (h m) ≡ true) → flat_map h (filter q (range_with_len a n)) ≡ p ∷ [] → IsOne a n
  one_of zero a own e = let bad : ⊥ = cc e in absurd bad
  one_of (suc n) a own e =
      one_step a n (q a) refl (λ so. own a (omega arith) (omega arith) so) (one_of n (a + 1) (λ m low high so. own m (omega (arith, low)) (omega (arith, high)) so)) e

module _ (image : List ℕ) (sound : IsSound image) where
  abbrev g : Geometry
  g = geometry_of image

  abbrev met : AreMet g image
  met = are_met image sound

  abbrev node : ℕ → Node
  node d = node_of g image (inode_of g image d)

  -- an entry of directory d as a naming
  abbrev naming : ℕ → ℕ → Naming
  naming d j = record { directory = d; place = j; inode = entry_inode g.block_size (node d) j }

  -- ---- one directory

  module _ (d : ℕ) (low : 1 ≤ d) (high : d < 1 + inode_count g) (so : is_directory (inode_of g image d) ≡ true) where
    abbrev count : ℕ
    count = entry_count (node d)

    dir-namings : namings_of g image d ≡ map (naming d) (range_with_len 0 count)
    unfolding entry_inode bytes_of
    dir-namings =
        let mk : ℕ × List ℕ → Naming = λ e. record { directory = d; place = e.0; inode = named_by e.1 } in
        ap (λ l. map mk (enumerate_from 0 l)) (es-are image sound d low high so) ∙ ap (map mk) (numbered (entry_bytes g.block_size (node d)) count 0)
        ∙ map_map (λ j. (j, entry_bytes g.block_size (node d) j)) mk (range_with_len 0 count)

    pub dir-named : (i : ℕ) → length (filter (λ x. x.inode == i) (namings_of g image d)) ≡ fs.naming_count g.block_size (node d) 0 i
    unfolding fs.naming_count
    dir-named i =
        let all : count ≡ count - 0 = omega arith in
        ap (λ l. length (filter (λ x. x.inode == i) l)) dir-namings ∙ kept_of_map (naming d) (λ x. x.inode == i) (range_with_len 0 count)
        ∙ length-filter (λ j. entry_inode g.block_size (node d) j == i) (range_with_len 0 count) ∙ ap (λ n. count_by (λ j. entry_inode g.block_size (node d) j == i) (range_with_len 0 n)) all

    later : (j : ℕ) (t : Bool) → 2 ≤ j → (nat_le 2 j && t) ≡ t
    later j t past =
        let is : nat_le 2 j ≡ true = grind (arith, past) in
        ap (λ b. b && t) is

    pub dir-children : (i : ℕ) → length (holders_of (namings_of g image d) i) ≡ fs.naming_count g.block_size (node d) 2 i
    unfolding fs.naming_count
    dir-children i =
        let more : count ≡ suc (suc (count - 2)) = (let least = count-least image sound d low high so in omega (arith, least)) in
        let test : Naming → Bool = λ x. nat_le 2 x.place && (x.inode == i) in
        length-map (filter test (namings_of g image d)) (λ x. x.directory) ∙ ap (λ l. length (filter test l)) dir-namings ∙ kept_of_map (naming d) test (range_with_len 0 count)
        ∙ ap (λ n. length (filter (λ j. nat_le 2 j && (entry_inode g.block_size (node d) j == i)) (range_with_len 0 n))) more
        ∙ kept_alike (λ j. nat_le 2 j && (entry_inode g.block_size (node d) j == i)) (λ j. entry_inode g.block_size (node d) j == i) (count - 2) 2 (λ j past below. later j (entry_inode g.block_size (node d) j == i) past)
        ∙ length-filter (λ j. entry_inode g.block_size (node d) j == i) (range_with_len 2 (count - 2))

    own_step : (p : Naming → Bool) (j : ℕ) (t : Bool) (rest : List Naming) → list_all (λ x. x == d) (map (λ e. e.directory) rest) ≡ true → list_all (λ x. x == d) (map (λ e. e.directory) (cond t (naming d j ∷ rest) rest)) ≡ true
    own_step p j false rest e = e
    own_step p j true rest e =
        let itself : (d == d) ≡ true = grind arith in
        ap (λ t. t && list_all (λ x. x == d) (map (λ y. y.directory) rest)) itself ∙ e

    own : (p : Naming → Bool) (js : List ℕ) → list_all (λ x. x == d) (map (λ e. e.directory) (filter p (map (naming d) js))) ≡ true
    own p [] = refl
    own p (j ∷ js) = own_step p j (p (naming d j)) (filter p (map (naming d) js)) (own p js)

    pub dir-own : (i : ℕ) → list_all (λ x. x == d) (holders_of (namings_of g image d) i) ≡ true
    dir-own i =
        ap (λ l. list_all (λ x. x == d) (map (λ e. e.directory) (filter (λ e. nat_le 2 e.place && (e.inode == i)) l))) dir-namings
        ∙ own (λ e. nat_le 2 e.place && (e.inode == i)) (range_with_len 0 count)

  -- ---- the links of an inode

  pub links-right : (i : ℕ) → 1 ≤ i → i < 1 + inode_count g → is_free (inode_of g image i) ≡ false → has_wrong_links (namings g image) i (inode_of g image i) ≡ false
  unfolding links_flaw used_inodes
  links-right i low high free =
      none_passes (λ n. has_wrong_links (namings g image) n (inode_of g image n)) (λ n. not (is_free (inode_of g image n))) 1 (inode_count g) met.links i low high (ap not free)

  some_links : (i : ℕ) → 1 ≤ i → i < 1 + inode_count g → is_free (inode_of g image i) ≡ false → nat_lt 0 (links_of (inode_of g image i)) ≡ true
  some_links i low high free =
      let none : nat_lt (links_of (inode_of g image i)) 1 ≡ false = or_left _ _ (or_left _ _ (links-right i low high free)) in
      grind (arith, none)

  kind_dir : (t : Bool) → is_dir (if t then Dir else File) ≡ t
  kind_dir true = refl
  kind_dir false = refl

  and_true : (t : Bool) → (t && true) ≡ t
  and_true true = refl
  and_true false = refl

  pub live-is : (i : ℕ) → 1 ≤ i → i < 1 + inode_count g → is_free (inode_of g image i) ≡ false → fs.is_live (node i) ≡ is_directory (inode_of g image i)
  unfolding node_of
  live-is i low high free =
      ap (λ t. is_dir (if is_directory (inode_of g image i) then Dir else File) && t) (some_links i low high free) ∙ and_true _ ∙ kind_dir (is_directory (inode_of g image i))

  -- ---- all directories

  -- a count over the live directories of the tree
  module _ {X : Type 0} (f : Node → ℕ) (h : ℕ → List X) (counts : (d : ℕ) → 1 ≤ d → d < 1 + inode_count g → is_directory (inode_of g image d) ≡ true → f (node d) ≡ length (h d)) where
    part : (m : ℕ) → 1 ≤ m → m < 1 + inode_count g → not (is_free (inode_of g image m)) ≡ true → (t : Bool) → is_directory (inode_of g image m) ≡ t
        → (if fs.is_live (node m) then f (node m) else 0) ≡ (if t then length (h m) else 0)
    part m low high free true so =
        ap (λ t. if t then f (node m) else 0) (live-is m low high (not_true (is_free (inode_of g image m)) free) ∙ so) ∙ counts m low high so
    part m low high free false so = ap (λ t. if t then f (node m) else 0) (live-is m low high (not_true (is_free (inode_of g image m)) free) ∙ so)

    pub live-total : total (λ _ n. if fs.is_live n then f n else 0) (nodes_to g image (inode_count g)) ≡ length (flat_map h (directories g image))
    unfolding directories
    live-total =
        total_range g image (λ _ n. if fs.is_live n then f n else 0) (inode_count g) 1
        ∙ sum_is (λ m. not (is_free (inode_of g image m))) (λ m. is_directory (inode_of g image m)) (λ m. if fs.is_live (node m) then f (node m) else 0) h (inode_count g) 1
        (λ m low high so. ap not (used image sound m low high so)) (λ m low high free. part m low high free (is_directory (inode_of g image m)) refl)

  pub all-named : (i : ℕ) → fs.namings g.block_size (nodes_to g image (inode_count g)) i ≡ times_named (namings g image) i
  unfolding fs.namings namings
  all-named i =
      live-total (λ n. fs.naming_count g.block_size n 0 i) (λ d. filter (λ x. x.inode == i) (namings_of g image d)) (λ d low high so. sym (dir-named d low high so i))
      ∙ ap (λ l. length l) (filter-flat (λ x. x.inode == i) (namings_of g image) (directories g image)) ∙ length-filter (λ x. x.inode == i) (flat_map (namings_of g image) (directories g image))

  abbrev child : ℕ → Naming → Bool
  child i x = nat_le 2 x.place && (x.inode == i)

  pub holders-flat : (i : ℕ) → flat_map (λ d. holders_of (namings_of g image d) i) (directories g image) ≡ holders_of (namings g image) i
  unfolding namings
  holders-flat i =
      map-flat (λ x. x.directory) (λ d. filter (child i) (namings_of g image d)) (directories g image)
      ∙ ap (map (λ x. x.directory)) (filter-flat (child i) (namings_of g image) (directories g image))

  pub all-children : (i : ℕ) → fs.children g.block_size (nodes_to g image (inode_count g)) i ≡ length (holders_of (namings g image) i)
  unfolding fs.children
  all-children i =
      live-total (λ n. fs.naming_count g.block_size n 2 i) (λ d. holders_of (namings_of g image d) i) (λ d low high so. sym (dir-children d low high so i)) ∙ ap (λ l. length l) (holders-flat i)

  -- the one directory in which another entry names an inode
  pub one-holder : (i p : ℕ) → holders_of (namings g image) i ≡ p ∷ [] → IsOne (λ m. is_directory (inode_of g image m)) (λ d. holders_of (namings_of g image d) i) p 1 (inode_count g)
  unfolding directories
  one-holder i p e =
      one_of (λ m. is_directory (inode_of g image m)) (λ d. holders_of (namings_of g image d) i) p (inode_count g) 1 (λ m low high so. dir-own m low high so i) (holders-flat i ∙ e)
