-- A directory of an image that the walk finds in order: its size, its entries, and the entries as namings.
use Rattle.std.proofs.Common.{◌≡◌, ◌≤◌, ◌<◌, ◌+◌, ◌-◌, ◌/◌, ◌%◌, ◌==◌, ◌&&◌, ◌||◌, ◌∷◌, [], ◌∙◌, ℕ, suc, Bool, not, true, false, List, ap}
use Rattle.std.proofs.Common.{sym, refl, cond, map, filter, length, nat_le, nat_lt, arith}
use Rattle.std.specs.List.{count_by, enumerate_from, list_all, range_with_len}
use Rattle.std.specs.FinMap as fmap
use Rattle.std.proofs.lemmas.Bool.{eqb-true, false≢true}
use Rattle.std.proofs.lemmas.List.{length-map}
use Rattle.std.proofs.lemmas.List.Sums.{length-filter}
use Rattle.sv_form.specs.declared.geometry.Geometry.{Geometry}
use Rattle.sv_form.specs.Geometry.{inode_count}
use Rattle.sv_form.specs.Image.{geometry_of, inode_of}
use Rattle.sv_form.specs.Node.{Node, bytes_of, entry_count, entry_inode}
use Rattle.sv_form.specs.NodeEntries.{entry_bytes}
use Rattle.sv_plain.specs.Front.{size_of}
use Rattle.sv_plain.specs.Fs as fs
use Rattle.sv_check.specs.Directories.{Naming, entries, holders_of, named_by, namings_of, page_in}
use Rattle.sv_check.specs.InodeList.{is_directory, is_free, is_missized, size_flaw}
use Rattle.sv_check.specs.Loaded.{is_inside}
use Rattle.sv_check.specs.Sound.{IsWalked, node_of}
use Rattle.sv_check.specs.Walk.{reached}
use Rattle.sv_check.proofs.BooleanTests.{not_below, not_false, or_left, or_right}
use Rattle.sv_check.proofs.InodeReads.{no_directory}
use Rattle.sv_check.proofs.InodeSteps.{none_in_range}
use Rattle.sv_check.proofs.SoundParts.{reached_inside}
use Rattle.sv_check.proofs.TreeBytes.{entries-are, page_of-is}
use Rattle.sv_check.proofs.TreeCounts.{kept_alike, kept_of_map, map_map, numbered}

module _ (image : List ℕ) (w : IsWalked image) (d : ℕ) (low : 1 ≤ d) (high : d < 1 + inode_count (geometry_of image))
    (so : is_directory (inode_of (geometry_of image) image d) ≡ true) where
  abbrev g : Geometry
  g = geometry_of image

  abbrev node : Node
  node = node_of g image (inode_of g image d)

  abbrev size : ℕ
  size = size_of (inode_of g image d)

  pub node-size : node.size ≡ size
  unfolding node_of
  node-size = refl

  dir_used : (t : Bool) → is_free (inode_of g image d) ≡ t → t ≡ false
  dir_used false e = refl
  dir_used true e = absurd (false≢true (sym (no_directory (inode_of g image d) e) ∙ so))

  pub dir-used : is_free (inode_of g image d) ≡ false
  dir-used = dir_used (is_free (inode_of g image d)) refl

  inside : list_all (is_inside g) (reached g image (inode_of g image d)) ≡ true
  inside = reached_inside g image w.range w.twice w.size d low high dir-used

  size-test : (nat_lt size 32 || not (size % 16 == 0)) ≡ false
  unfolding size_flaw
  size-test =
      let fits : is_missized g (inode_of g image d) ≡ false =
      none_in_range (λ n. is_missized g (inode_of g image n)) 1 (inode_count g) w.size d low high in
      sym (ap (λ (t : Bool). t && (nat_lt size 32 || not (size % 16 == 0))) so) ∙ or_right _ _ fits

  size-whole : size % 16 ≡ 0
  size-whole = eqb-true (size % 16) 0 (not_false _ (or_right (nat_lt size 32) _ size-test))

  abbrev count : ℕ
  count = entry_count node

  pub count-least : 2 ≤ count
  count-least =
      let least : 32 ≤ size = not_below size 32 (or_left _ _ size-test) in
      let same : count ≡ size / 16 = ap (λ (x : ℕ). x / 16) node-size in
      omega (arith, same, least)

  pub es-are : entries g image d ≡ map (entry_bytes g.block_size node) (range_with_len 0 count)
  es-are = entries-are g image d w.sized.sizes.bounds w.sized.sizes.length inside size-whole

  pub page-is : (k : ℕ) → fmap.get node.pages k ≡ page_in g image (reached g image (inode_of g image d)) k
  page-is k = page_of-is g image (inode_of g image d) w.sized.sizes.bounds w.sized.sizes.length inside k

  -- an entry as a naming
  abbrev naming : ℕ → Naming
  naming j = record { directory = d; place = j; inode = entry_inode g.block_size node j }

  dir-namings : namings_of g image d ≡ map naming (range_with_len 0 count)
  unfolding entry_inode bytes_of
  dir-namings =
      let mk : ℕ × List ℕ → Naming = λ e. record { directory = d; place = e.0; inode = named_by e.1 } in
      ap (λ l. map mk (enumerate_from 0 l)) es-are ∙ ap (map mk) (numbered (entry_bytes g.block_size node) count 0)
      ∙ map_map (λ j. (j, entry_bytes g.block_size node j)) mk (range_with_len 0 count)

  pub dir-named : (i : ℕ) → length (filter (λ x. x.inode == i) (namings_of g image d)) ≡ fs.naming_count g.block_size node 0 i
  unfolding fs.naming_count
  dir-named i =
      let all : count ≡ count - 0 = omega arith in
      ap (λ l. length (filter (λ x. x.inode == i) l)) dir-namings ∙ kept_of_map naming (λ x. x.inode == i) (range_with_len 0 count)
      ∙ length-filter (λ j. entry_inode g.block_size node j == i) (range_with_len 0 count)
      ∙ ap (λ n. count_by (λ j. entry_inode g.block_size node j == i) (range_with_len 0 n)) all

  later : (j : ℕ) (t : Bool) → 2 ≤ j → (nat_le 2 j && t) ≡ t
  later j t past =
      let is : nat_le 2 j ≡ true = grind (arith, past) in
      ap (λ b. b && t) is

  pub dir-children : (i : ℕ) → length (holders_of (namings_of g image d) i) ≡ fs.naming_count g.block_size node 2 i
  unfolding fs.naming_count
  dir-children i =
      let more : count ≡ suc (suc (count - 2)) = (let least = count-least in omega (arith, least)) in
      let test : Naming → Bool = λ x. nat_le 2 x.place && (x.inode == i) in
      length-map (filter test (namings_of g image d)) (λ x. x.directory) ∙ ap (λ l. length (filter test l)) dir-namings
      ∙ kept_of_map naming test (range_with_len 0 count)
      ∙ ap (λ n. length (filter (λ j. nat_le 2 j && (entry_inode g.block_size node j == i)) (range_with_len 0 n))) more
      ∙ kept_alike (λ j. nat_le 2 j && (entry_inode g.block_size node j == i)) (λ j. entry_inode g.block_size node j == i) (count - 2) 2
      (λ j past below. later j (entry_inode g.block_size node j == i) past)
      ∙ length-filter (λ j. entry_inode g.block_size node j == i) (range_with_len 2 (count - 2))

  own_step : (p : Naming → Bool) (j : ℕ) (t : Bool) (rest : List Naming) → list_all (λ x. x == d) (map (λ e. e.directory) rest) ≡ true
      → list_all (λ x. x == d) (map (λ e. e.directory) (cond t (naming j ∷ rest) rest)) ≡ true
  own_step p j false rest e = e
  own_step p j true rest e =
      let itself : (d == d) ≡ true = grind arith in
      ap (λ t. t && list_all (λ x. x == d) (map (λ y. y.directory) rest)) itself ∙ e

  own : (p : Naming → Bool) (js : List ℕ) → list_all (λ x. x == d) (map (λ e. e.directory) (filter p (map naming js))) ≡ true
  own p [] = refl
  own p (j ∷ js) = own_step p j (p (naming j)) (filter p (map naming js)) (own p js)

  pub dir-own : (i : ℕ) → list_all (λ x. x == d) (holders_of (namings_of g image d) i) ≡ true
  dir-own i =
      ap (λ l. list_all (λ x. x == d) (map (λ e. e.directory) (filter (λ e. nat_le 2 e.place && (e.inode == i)) l))) dir-namings
      ∙ own (λ e. nat_le 2 e.place && (e.inode == i)) (range_with_len 0 count)
