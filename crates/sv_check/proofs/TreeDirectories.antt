-- The directories of the tree of a sound image, by their own bytes.
use Rattle.std.proofs.Common.{◌≡◌, ◌≢◌, ◌≤◌, ◌<◌, ◌+◌, ◌-◌, ◌*◌, ◌/◌, ◌%◌, ◌==◌, ◌&&◌, ◌||◌, ◌∷◌, [], ◌∙◌, ◌⊎◌, ℕ, zero, suc, Bool, not, true, false, List, Some, None, IsSome, is_some, inl, inr, ap, sym, refl, subst, cond, if◌then◌else◌, map, filter, option_map, length, drop, nat_lt, arith}
use Rattle.std.specs.Cmp.Lexicographic.{same_text, other_text}
use Rattle.std.specs.List.{list_all, list_any, range_with_len}
use Rattle.std.specs.FinMap as fmap
use Rattle.std.proofs.Math.Nat.{le-div_iff_mul-le}
use Rattle.std.proofs.lemmas.Bool.{cases_eq, eqb-true, false≢true, ne_eqb}
use Rattle.std.proofs.lemmas.List.FromFn.{length-map-range_with_len}
use Rattle.sv_form.specs.declared.geometry.Geometry.{Geometry}
use Rattle.sv_form.specs.Entry.{filled}
use Rattle.sv_form.specs.Geometry.{inode_count}
use Rattle.sv_form.specs.Image.{geometry_of, inode_of}
use Rattle.sv_form.specs.Name.{IsName}
use Rattle.sv_form.specs.Node.{Node, byte_of, bytes_of, entry_count, entry_inode, entry_name, name_bytes, until_zero}
use Rattle.sv_form.specs.NodeEntries.{entry_bytes}
use Rattle.sv_form.proofs.EntryLemmas.{zero_field}
use Rattle.sv_plain.specs.Front.{size_of}
use Rattle.sv_plain.specs.Names.{same_bytes, some_and}
use Rattle.sv_plain.specs.Whole.{IsEntryAt}
use Rattle.sv_check.specs.Directories.{above, above_in, are_dots, are_entries, directories, dot, dots, dots_flaw, entries, entry_flaw, has_dot, has_dots_once, has_no_hole, has_twins, is_placed, leads_somewhere, name_in, named_by, names_in, namings, page_in, reads_entry, rises_to_root}
use Rattle.sv_check.specs.InodeList.{all_zero, is_directory, is_free, is_missized, size_flaw}
use Rattle.sv_check.specs.Loaded.{is_inside}
use Rattle.sv_check.specs.Sound.{IsSound, node_of}
use Rattle.sv_check.specs.Walk.{reached}
use Rattle.sv_check.proofs.BooleanTests.{and_left, and_right, not_below, not_false, not_true, or_left, or_none, or_right}
use Rattle.sv_check.proofs.EntryReads.{is_filled, is_name}
use Rattle.sv_check.proofs.InodeReads.{no_directory, zero_each}
use Rattle.sv_check.proofs.InodeSteps.{none_in_range}
use Rattle.sv_check.proofs.SoundParts.{AreMet, are_met, reached_inside}
use Rattle.sv_check.proofs.TreeBytes.{entries-are, page_of-is}
use Rattle.sv_check.proofs.TreeNodes.{none_passes}

-- ---- tests over a range

same_map : (xs : List ℕ) → map (λ (x : ℕ). x) xs ≡ xs
same_map [] = refl
same_map (x ∷ xs) = ap (λ l. x ∷ l) (same_map xs)

module _ {X : Type 0} (p : X → Bool) (f : ℕ → X) where
  all_step : (a j : ℕ) → p (f a) ≡ true → (a + 1 ≤ j → p (f j) ≡ true) → a ≤ j → (a ≡ j) ⊎ (a ≡ j → ⊥) → p (f j) ≡ true
  all_step a j here later low (inl e) = ap (λ (x : ℕ). p (f x)) (sym e) ∙ here
  all_step a j here later low (inr other) = later (omega (arith, low, other))

  pub all_in_range : (n a j : ℕ) → list_all p (map f (range_with_len a n)) ≡ true → a ≤ j → j < a + n → p (f j) ≡ true
  all_in_range zero a j all low high = absurd (omega (arith, low, high))
  all_in_range (suc n) a j all low high =
      all_step a j (and_left (p (f a)) _ all) (λ more. all_in_range n (a + 1) j (and_right (p (f a)) _ all) more (omega (arith, high))) low (cases_eq a j)

same_itself : (xs : List ℕ) → same_bytes xs xs ≡ true
same_itself xs = by_test (same_bytes xs xs) refl where
  by_test : (t : Bool) → same_bytes xs xs ≡ t → same_bytes xs xs ≡ true
  by_test true e = e
  by_test false e = absurd (other_text xs xs (sym e) refl)

-- names that are not the same
module _ (f : ℕ → List ℕ) where
  abbrev named : List ℕ → Bool
  named e = not (named_by e == 0)

  abbrev names_from : ℕ → ℕ → List (List ℕ)
  names_from a n = names_in (map f (range_with_len a n))

  some_named : (j : ℕ) → named_by (f j) ≢ 0 → named (f j) ≡ true
  some_named j ne = ap not (ne_eqb (named_by (f j)) 0 ne)

  -- a name that stands nowhere in a part
  other_step : (x : List ℕ) (a j : ℕ) (t : Bool) (rest : List (List ℕ)) → named (f a) ≡ t → named (f j) ≡ true → list_any (same_bytes x) (map name_in (cond t (f a ∷ rest) rest)) ≡ false
      → (a + 1 ≤ j → list_any (same_bytes x) (map name_in rest) ≡ false → x ≢ name_in (f j)) → a ≤ j → (a ≡ j) ⊎ (a ≡ j → ⊥) → x ≢ name_in (f j)
  other_step x a j false rest is so none later low (inl e) = absurd (false≢true (sym is ∙ ap (λ (y : ℕ). named (f y)) e ∙ so))
  other_step x a j false rest is so none later low (inr other) = later (omega (arith, low, other)) none
  other_step x a j true rest is so none later low (inl e) =
      λ same. other_text x (name_in (f a)) (sym (or_left (same_bytes x (name_in (f a))) _ none)) (same ∙ ap (λ (y : ℕ). name_in (f y)) (sym e))
  other_step x a j true rest is so none later low (inr other) = later (omega (arith, low, other)) (or_right (same_bytes x (name_in (f a))) _ none)

  nowhere : (x : List ℕ) (n a j : ℕ) → list_any (same_bytes x) (names_from a n) ≡ false → a ≤ j → j < a + n → named (f j) ≡ true → x ≢ name_in (f j)
  nowhere x zero a j none low high so = absurd (omega (arith, low, high))
  nowhere x (suc n) a j none low high so =
      other_step x a j (named (f a)) (filter named (map f (range_with_len (a + 1) n))) refl so none (λ more rest. nowhere x n (a + 1) j rest more (omega (arith, high)) so) low (cases_eq a j)

  twins_step : (a j k n : ℕ) (t : Bool) → named (f a) ≡ t → named (f j) ≡ true → named (f k) ≡ true → has_twins (map name_in (cond t (f a ∷ filter named (map f (range_with_len (a + 1) n))) (filter named (map f (range_with_len (a + 1) n))))) ≡ false
      → (a + 1 ≤ j → has_twins (names_from (a + 1) n) ≡ false → name_in (f j) ≢ name_in (f k)) → a ≤ j → j < k → k < a + suc n → (a ≡ j) ⊎ (a ≡ j → ⊥) → name_in (f j) ≢ name_in (f k)
  twins_step a j k n false is so to none later low up high (inl e) = absurd (false≢true (sym is ∙ ap (λ (y : ℕ). named (f y)) e ∙ so))
  twins_step a j k n false is so to none later low up high (inr other) = later (omega (arith, low, other)) none
  twins_step a j k n true is so to none later low up high (inl e) =
      subst (λ (y : ℕ). name_in (f y) ≢ name_in (f k)) e (nowhere (name_in (f a)) n (a + 1) k (or_left _ _ none) (omega (arith, e, up)) (omega (arith, high)) to)
  twins_step a j k n true is so to none later low up high (inr other) = later (omega (arith, low, other)) (or_right (list_any (same_bytes (name_in (f a))) (names_from (a + 1) n)) _ none)

  pub no_twins : (n a j k : ℕ) → has_twins (names_from a n) ≡ false → a ≤ j → j < k → k < a + n → named_by (f j) ≢ 0 → named_by (f k) ≢ 0 → name_in (f j) ≢ name_in (f k)
  no_twins zero a j k none low up high one two = absurd (omega (arith, low, up, high))
  no_twins (suc n) a j k none low up high one two =
      twins_step a j k n (named (f a)) refl (some_named j one) (some_named k two) none (λ more rest. no_twins n (a + 1) j k rest more up (omega (arith, high)) one two) low up high (cases_eq a j)

-- ---- one entry of a node

module _ (block : ℕ) (node : Node) (j : ℕ) where
  pub entry-inode : named_by (entry_bytes block node j) ≡ entry_inode block node j
  unfolding entry_inode bytes_of
  entry-inode = refl

  pub entry-field : drop 2 (entry_bytes block node j) ≡ name_bytes block node j
  unfolding bytes_of
  entry-field =
      let two : 16 * j + 1 + 1 ≡ 16 * j + 2 = omega arith in
      ap (λ (x : ℕ). map (byte_of block node) (range_with_len x 14)) two

  pub entry-name : name_in (entry_bytes block node j) ≡ entry_name block node j
  unfolding entry_name
  entry-name = ap until_zero entry-field

  entry-long : length (entry_bytes block node j) ≡ 16
  unfolding bytes_of
  entry-long = length-map-range_with_len (byte_of block node) (16 * j) 16

  pub entry-reads : reads_entry (entry_bytes block node j) ≡ true → IsEntryAt block node j
  entry-reads reads = record {
    empty = λ none.
        let zeros : all_zero (entry_bytes block node j) ≡ true =
        sym (ap (λ (x : ℕ). if x == 0 then all_zero (entry_bytes block node j) else (not (length (name_in (entry_bytes block node j)) == 0) && list_all (λ b. not (b == 47)) (name_in (entry_bytes block node j)) && all_zero (drop (2 + length (name_in (entry_bytes block node j))) (entry_bytes block node j)))) (entry-inode ∙ none)) ∙ reads in
        sym entry-field ∙ zero_field (entry_bytes block node j) entry-long (λ k low high. zero_each (entry_bytes block node j) k zeros);
    named = λ some. subst (λ (n : List ℕ). IsName n) entry-name (is_name (entry_bytes block node j) entry-long (test some) reads);
    rest = λ some. sym entry-field ∙ is_filled (entry_bytes block node j) entry-long (test some) reads ∙ ap filled entry-name;
  } where
    test : entry_inode block node j ≢ 0 → (named_by (entry_bytes block node j) == 0) ≡ false
    test some = ne_eqb (named_by (entry_bytes block node j)) 0 (λ e. some (sym entry-inode ∙ e))

-- ---- the first two entries of a directory

pub record AreDots (g : Geometry) (image : List ℕ) (d : ℕ) (first second : List ℕ) : Type 0 where
  pub itself : named_by first ≡ d
  pub first_name : name_in first ≡ dot
  pub second_name : name_in second ≡ dots
  pub placed : is_placed (namings g image) d (named_by second) ≡ true
  pub rises : rises_to_root (above_in g image) (inode_count g) d ≡ true

module _ (g : Geometry) (image : List ℕ) (d : ℕ) (first second : List ℕ) (rest : List (List ℕ)) where
  abbrev es : List (List ℕ)
  es = first ∷ second ∷ rest

  second_is : (t : Bool) → same_bytes (name_in second) dots ≡ t → some_and (option_map named_by (cond t (Some second) None)) (is_placed (namings g image) d) ≡ true
      → (same_bytes (name_in second) dots ≡ true) × (is_placed (namings g image) d (named_by second) ≡ true)
  second_is true is e = (is, e)
  second_is false is e = let bad : ⊥ = cc e in absurd bad

  pub dots_are : are_dots g image (namings g image) d es ≡ true → AreDots g image d first second
  dots_are e =
      let three = and_left ((has_dot es d && some_and (above es) (is_placed (namings g image) d)) && has_dots_once es) (rises_to_root (above_in g image) (inode_count g) d) e in
      let two = and_left (has_dot es d && some_and (above es) (is_placed (namings g image) d)) (has_dots_once es) three in
      let one : ((named_by first == d) && same_bytes (name_in first) dot) ≡ true = or_none _ (and_left (has_dot es d) (some_and (above es) (is_placed (namings g image) d)) two) in
      let up = second_is (same_bytes (name_in second) dots) refl (and_right (has_dot es d) (some_and (above es) (is_placed (namings g image) d)) two) in
      record {
        itself = eqb-true (named_by first) d (and_left (named_by first == d) (same_bytes (name_in first) dot) one);
        first_name = same_text (name_in first) dot (sym (and_right (named_by first == d) (same_bytes (name_in first) dot) one));
        second_name = same_text (name_in second) dots (sym up.0);
        placed = up.1;
        rises = and_right ((has_dot es d && some_and (above es) (is_placed (namings g image) d)) && has_dots_once es) (rises_to_root (above_in g image) (inode_count g) d) e;
      }

-- ---- a directory of a sound image

module _ (image : List ℕ) (sound : IsSound image) where
  abbrev g : Geometry
  g = geometry_of image

  abbrev met : AreMet g image
  met = are_met image sound

  module _ (d : ℕ) (low : 1 ≤ d) (high : d < 1 + inode_count g) (so : is_directory (inode_of g image d) ≡ true) where
    abbrev node : Node
    node = node_of g image (inode_of g image d)

    abbrev size : ℕ
    size = size_of (inode_of g image d)

    node-size : node.size ≡ size
    unfolding node_of
    node-size = refl

    dir_used : (t : Bool) → is_free (inode_of g image d) ≡ t → t ≡ false
    dir_used false e = refl
    dir_used true e = absurd (false≢true (sym (no_directory (inode_of g image d) e) ∙ so))

    pub used : is_free (inode_of g image d) ≡ false
    used = dir_used (is_free (inode_of g image d)) refl

    inside : list_all (is_inside g) (reached g image (inode_of g image d)) ≡ true
    inside = reached_inside g image met.range met.twice met.size d low high used

    size-test : (nat_lt size 32 || not (size % 16 == 0)) ≡ false
    unfolding size_flaw
    size-test =
        let fits : is_missized g (inode_of g image d) ≡ false = none_in_range (λ n. is_missized g (inode_of g image n)) 1 (inode_count g) met.size d low high in
        sym (ap (λ (t : Bool). t && (nat_lt size 32 || not (size % 16 == 0))) so) ∙ or_right _ _ fits

    pub size-least : 32 ≤ size
    size-least =
        let small : nat_lt size 32 ≡ false = or_left _ _ size-test in
        not_below size 32 small

    pub size-whole : size % 16 ≡ 0
    size-whole = eqb-true (size % 16) 0 (not_false _ (or_right (nat_lt size 32) _ size-test))

    abbrev count : ℕ
    count = entry_count node

    pub count-least : 2 ≤ count
    count-least =
        let same : count ≡ size / 16 = ap (λ (x : ℕ). x / 16) node-size in
        omega (arith, same, size-least)

    abbrev e : ℕ → List ℕ
    e j = entry_bytes g.block_size node j

    pub es-are : entries g image d ≡ map e (range_with_len 0 count)
    es-are = entries-are g image d sound.sized.sizes.bounds sound.sized.sizes.length inside size-whole

    in-order : (has_no_hole g image (inode_of g image d) && are_entries g image (entries g image d)) ≡ true
    unfolding entry_flaw directories
    in-order =
        not_false _ (none_passes (λ n. not (has_no_hole g image (inode_of g image n) && are_entries g image (entries g image n))) (λ n. is_directory (inode_of g image n)) 1 (inode_count g) met.entry d low high so)

    ordered : are_entries g image (map e (range_with_len 0 count)) ≡ true
    ordered = ap (are_entries g image) (sym es-are) ∙ and_right (has_no_hole g image (inode_of g image d)) _ in-order

    pub each-reads : (j : ℕ) → j < count → (reads_entry (e j) && leads_somewhere g image (e j)) ≡ true
    each-reads j below =
        all_in_range (λ x. reads_entry x && leads_somewhere g image x) e count 0 j
        (and_left (list_all (λ x. reads_entry x && leads_somewhere g image x) (map e (range_with_len 0 count))) _ ordered) (omega arith) (omega (arith, below))

    pub names-once : (j k : ℕ) → j < k → k < count → entry_inode g.block_size node j ≢ 0 → entry_inode g.block_size node k ≢ 0 → entry_name g.block_size node j ≢ entry_name g.block_size node k
    names-once j k up below one two =
        λ same. no_twins e count 0 j k (not_true _ (and_right (list_all (λ x. reads_entry x && leads_somewhere g image x) (map e (range_with_len 0 count))) _ ordered)) (omega arith) up (omega (arith, below))
        (λ z. one (sym (entry-inode g.block_size node j) ∙ z)) (λ z. two (sym (entry-inode g.block_size node k) ∙ z))
        (entry-name g.block_size node j ∙ same ∙ sym (entry-name g.block_size node k))

    pub page-there : (k : ℕ) → k * g.block_size < size → IsSome (fmap.get node.pages k)
    page-there k begins =
        let more : (k + 1) * g.block_size ≡ k * g.block_size + g.block_size = grind arith in
        let some : 1 ≤ g.block_size = omega arith in
        let below : k + 1 ≤ (size + (g.block_size - 1)) / g.block_size = (le-div_iff_mul-le some).1 (omega (arith, more, begins)) in
        let present : is_some (page_in g image (reached g image (inode_of g image d)) k) ≡ true =
        all_in_range (λ x. is_some (page_in g image (reached g image (inode_of g image d)) x)) (λ x. x) ((size + (g.block_size - 1)) / g.block_size) 0 k
        (ap (λ l. list_all (λ x. is_some (page_in g image (reached g image (inode_of g image d)) x)) l) (same_map (range_with_len 0 ((size + (g.block_size - 1)) / g.block_size)))
        ∙ and_left (has_no_hole g image (inode_of g image d)) _ in-order) (omega arith) (omega (arith, below)) in
        ap (λ o. is_some o) (page_of-is g image (inode_of g image d) sound.sized.sizes.bounds sound.sized.sizes.length inside k) ∙ present

    two-first : map e (range_with_len 0 count) ≡ e 0 ∷ e 1 ∷ map e (range_with_len 2 (count - 2))
    two-first =
        let more : count ≡ suc (suc (count - 2)) = omega (arith, count-least) in
        ap (λ (n : ℕ). map e (range_with_len 0 n)) more

    pub es-two : entries g image d ≡ e 0 ∷ e 1 ∷ map e (range_with_len 2 (count - 2))
    es-two = es-are ∙ two-first

    pub dots-first : AreDots g image d (e 0) (e 1)
    unfolding dots_flaw directories
    dots-first =
        dots_are g image d (e 0) (e 1) (map e (range_with_len 2 (count - 2)))
        (ap (are_dots g image (namings g image) d) (sym (es-are ∙ two-first))
        ∙ not_false _ (none_passes (λ n. not (are_dots g image (namings g image) n (entries g image n))) (λ n. is_directory (inode_of g image n)) 1 (inode_count g) met.dots d low high so))
