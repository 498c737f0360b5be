-- Conditions 13 and 15 from the nodes: the root, and the dots of each directory.
use Rattle.std.proofs.Common.{◌≡◌, ◌≢◌, ◌≤◌, ◌<◌, ◌+◌, ◌-◌, ◌==◌, ◌&&◌, ◌||◌, ◌∷◌, [], ◌∙◌, ℕ, zero, suc, Bool, not, true, false, List}
use Rattle.std.proofs.Common.{Option, Some, None, inl, inr, ap, sym, refl, cond, if◌then◌else◌, map, length, nat_le, option_map, arith}
use Rattle.std.specs.List.{list_all, list_any, range_with_len}
use Rattle.std.specs.Ordering.{nat_cmp}
use Rattle.std.specs.FinMap as fmap
use Rattle.std.proofs.lemmas.Bool.{cases_eq, eq-eqb, eqb-true, ne_eqb}
use Rattle.sv_form.specs.declared.geometry.Geometry.{Geometry}
use Rattle.sv_form.specs.Geometry.{inode_count}
use Rattle.sv_form.specs.Image.{geometry_of, inode_of}
use Rattle.sv_form.specs.Node.{Node, entry_count, entry_inode, entry_name, until_zero}
use Rattle.sv_form.specs.NodeEntries.{entry_bytes}
use Rattle.sv_plain.specs.Fs as state
use Rattle.sv_plain.specs.Fs.{Fs}
use Rattle.sv_plain.specs.Names.{same_bytes, some_and}
use Rattle.sv_plain.specs.Totals.{at_or_0}
use Rattle.sv_plain.specs.Whole.{IsDirectory, IsPlaced, ascend, parent_of}
use Rattle.sv_check.specs.Directories.{above, above_in, are_dots, directories, dot, dots, dots_flaw, entries, has_dot, has_dots_once}
use Rattle.sv_check.specs.Directories.{holders_of, is_placed, name_in, named_by, namings, namings_of, rises_to_root, root_flaw}
use Rattle.sv_check.specs.InodeList.{is_directory}
use Rattle.sv_check.specs.Sound.{IsWalked, node_of}
use Rattle.sv_check.proofs.BooleanTests.{and_left, at_most-test, or_none}
use Rattle.sv_check.proofs.LoadedTree.{nodes_to}
use Rattle.sv_check.proofs.TreeDirectories.{entry-inode, entry-name}
use Rattle.sv_files.specs.ConverseNames.{IsAtRest}
use Rattle.sv_files.proofs.RangeTests.{agree, all_pass, any_joined, differ, none_found}
use Rattle.sv_files.proofs.RestedNodes.{IsLiveDir, dir-live, dir-there, dir-whole, linked, live_dir, root-dir, still}
use Rattle.sv_files.proofs.WalkedDirectories.{count-least, dir-children, dir-own, es-are}
use Rattle.sv_files.proofs.WalkedNamings.{all-children, holders-flat}
use Rattle.sv_files.proofs.WaysUp.{rises_soon, root_rises, step_rises}

-- ---- lists of no element, and of one

no_element : (xs : List ℕ) → length xs ≡ 0 → xs ≡ []
no_element [] e = refl
no_element (x ∷ xs) e = absurd (omega (arith, e))

the_element : (p : ℕ) (xs : List ℕ) → length xs ≡ 1 → list_any (λ y. y == p) xs ≡ true → xs ≡ p ∷ []
the_element p [] e some = absurd (omega (arith, e))
the_element p (x ∷ xs) e some =
    let none : xs ≡ [] = no_element xs (omega (arith, e)) in
    let is : x ≡ p = eqb-true x p (or_none (x == p) (sym (ap (λ (l : List ℕ). list_any (λ y. y == p) (x ∷ l)) none) ∙ some)) in
    ap (λ (l : List ℕ). x ∷ l) none ∙ ap (λ (y : ℕ). y ∷ []) is

own_any : (p : ℕ) (xs : List ℕ) → length xs ≡ 1 → list_all (λ y. y == p) xs ≡ true → list_any (λ y. y == p) xs ≡ true
own_any p [] e own = absurd (omega (arith, e))
own_any p (x ∷ xs) e own = ap (λ (t : Bool). t || list_any (λ y. y == p) xs) (and_left (x == p) (list_all (λ y. y == p) xs) own)

and_false : (t : Bool) → (t && false) ≡ false
and_false true = refl
and_false false = refl

module _ (image : List ℕ) (w : IsWalked image) (fs : Fs) (rest : IsAtRest (still image fs)) where
  abbrev g : Geometry
  g = geometry_of image

  abbrev bs : ℕ
  bs = g.block_size

  abbrev node : ℕ → Node
  node d = node_of g image (inode_of g image d)

  abbrev nodes : fmap.FinMap nat_cmp Node
  nodes = nodes_to g image (inode_count g)

  abbrev root : IsLiveDir image w fs rest 2 (node 2)
  root = root-dir image w fs rest

  pub root_holds : root_flaw g image ≡ None
  unfolding root_flaw
  root_holds = ap (λ (t : Bool). if t then None else Some 2) root.so

  -- what names an inode past the first two entries of the directories
  children-are : (i : ℕ) → state.children bs nodes i ≡ length (holders_of (namings g image) i)
  children-are i = all-children image w (linked image w fs rest) i

  -- ---- one directory

  module _ (d : ℕ) (low : 1 ≤ d) (high : d < 1 + inode_count g) (so : is_directory (inode_of g image d) ≡ true) where
    abbrev is : IsDirectory bs d (node d)
    is = dir-whole image w fs rest d low high so

    abbrev e : ℕ → List ℕ
    e j = entry_bytes bs (node d) j

    abbrev count : ℕ
    count = entry_count (node d)

    abbrev parent : ℕ
    parent = entry_inode bs (node d) 1

    parent-here : parent_of bs nodes d ≡ parent
    parent-here = ap (at_or_0 (λ (n : Node). entry_inode bs n 1)) (dir-there image w fs rest d low high so)

    es-two : entries g image d ≡ e 0 ∷ e 1 ∷ map e (range_with_len 2 (count - 2))
    es-two =
        let least : 2 ≤ count = count-least image w d low high so in
        let more : count ≡ suc (suc (count - 2)) = omega (arith, least) in
        es-are image w d low high so ∙ ap (λ (n : ℕ). map e (range_with_len 0 n)) more

    first-is : has_dot (e 0 ∷ e 1 ∷ map e (range_with_len 2 (count - 2))) d ≡ true
    first-is =
        ap (λ (t : Bool). (t && same_bytes (name_in (e 0)) dot) || false) (eq-eqb (named_by (e 0)) d (entry-inode bs (node d) 0 ∙ is.dot))
        ∙ ap (λ (t : Bool). t || false) (agree (name_in (e 0)) dot (entry-name bs (node d) 0 ∙ is.dot_name))

    second-is : above (e 0 ∷ e 1 ∷ map e (range_with_len 2 (count - 2))) ≡ Some parent
    second-is =
        ap (λ (t : Bool). option_map named_by (cond t (Some (e 1)) None))
        (agree (name_in (e 1)) dots (entry-name bs (node d) 1 ∙ is.dots_name))
        ∙ ap (λ (n : ℕ). Some n) (entry-inode bs (node d) 1)

    -- no later entry has one of these names
    later-name : (j k : ℕ) (name : List ℕ) → k < 2 → 2 ≤ j → j < count → entry_inode bs (node d) k ≢ 0 → entry_name bs (node d) k ≡ name
        → name ≢ [] → name_in (e j) ≢ name
    unfolding entry_name
    later-name j k name first past below some is_name any same =
        let here : entry_name bs (node d) j ≡ name = sym (entry-name bs (node d) j) ∙ same in
        elim (cases_eq (entry_inode bs (node d) j) 0) [
          | inl none ↦ any (sym here ∙ ap until_zero ((is.reads j below).empty none))
          | inr named ↦ is.once k j (omega (arith, first, past)) below some named (is_name ∙ sym here)
        ]

    later-entry : (j : ℕ) → 2 ≤ j → j < count → (not (same_bytes (name_in (e j)) dot) && not (same_bytes (name_in (e j)) dots)) ≡ true
    later-entry j past below =
        ap (λ (t : Bool). not t && not (same_bytes (name_in (e j)) dots))
        (differ (name_in (e j)) dot (later-name j 0 dot (omega arith) past below
        (λ z. (let it = is.dot in omega (arith, it, z, low))) is.dot_name (λ (no : dot ≡ []). cc)))
        ∙ ap not (differ (name_in (e j)) dots (later-name j 1 dots (omega arith) past below is.dots is.dots_name (λ (no : dots ≡ []). cc)))

    once-is : has_dots_once (e 0 ∷ e 1 ∷ map e (range_with_len 2 (count - 2))) ≡ true
    once-is =
        all_pass (λ x. not (same_bytes (name_in x) dot) && not (same_bytes (name_in x) dots)) e (count - 2) 2
        (λ j past below. later-entry j past (omega (arith, past, below)))

    pub up-is : above_in g image d ≡ Some parent
    up-is =
        ap (λ (t : Bool). if t && nat_le d (inode_count g) then above (entries g image d) else None) so
        ∙ ap (λ (t : Bool). if t then above (entries g image d) else None) (at_most-test d (inode_count g) (omega (arith, high)))
        ∙ ap above es-two ∙ second-is

    -- the directory above one that is not the root, and that it holds this one once
    pub other-placed : d ≢ 2 → IsPlaced bs nodes d parent
    other-placed other =
        rest.whole.placed d (node d) (dir-there image w fs rest d low high so) (dir-live image w fs rest d low high so) other

    pub parent-live : d ≢ 2 → IsLiveDir image w fs rest parent (node parent)
    parent-live other =
        let p = (other-placed other).there in
        let l = live_dir image w fs rest parent p.0 p.1 p.2 in
        record { low = l.low; high = l.high; so = l.so; node_is = refl }

    holder-is : (other : d ≢ 2) → holders_of (namings g image) d ≡ parent ∷ []
    unfolding directories
    holder-is other =
        let p = (other-placed other).there in
        let l = live_dir image w fs rest parent p.0 p.1 p.2 in
        let one : length (holders_of (namings g image) d) ≡ 1 = sym (children-are d) ∙ (other-placed other).once in
        let there : length (holders_of (namings_of g image parent) d) ≡ 1 =
        dir-children image w parent l.low l.high l.so d ∙ ap (λ (n : Node). state.naming_count bs n 2 d) (sym l.node_is) ∙ p.3 in
        the_element parent (holders_of (namings g image) d) one
        (ap (λ (l : List ℕ). list_any (λ y. y == parent) l) (sym (holders-flat image w (linked image w fs rest) d))
        ∙ any_joined (λ m. is_directory (inode_of g image m)) (λ m. holders_of (namings_of g image m) d) (λ y. y == parent)
        (inode_count g) 1 parent l.low l.high l.so
        (own_any parent (holders_of (namings_of g image parent) d) there (dir-own image w parent l.low l.high l.so d)))

    placed-is : is_placed (namings g image) d parent ≡ true
    placed-is =
        elim (cases_eq d 2) [
          | inl two ↦
              let up : parent ≡ 2 = sym parent-here ∙ ap (parent_of bs nodes) two ∙ rest.whole.root.above in
              let none : holders_of (namings g image) 2 ≡ [] = no_element _ (sym (children-are 2) ∙ rest.whole.root.unnamed) in
              ap (λ (t : Bool). if t then ((parent == 2) && same_bytes (holders_of (namings g image) 2) [])
              else same_bytes (holders_of (namings g image) d) (parent ∷ [])) (eq-eqb d 2 two)
              ∙ ap (λ (t : Bool). t && same_bytes (holders_of (namings g image) 2) []) (eq-eqb parent 2 up) ∙ agree _ [] none
          | inr other ↦
              ap (λ (t : Bool). if t then ((parent == 2) && same_bytes (holders_of (namings g image) 2) [])
              else same_bytes (holders_of (namings g image) d) (parent ∷ [])) (ne_eqb d 2 other)
              ∙ agree (holders_of (namings g image) d) (parent ∷ []) (holder-is other)
        ]

  -- ---- the way to the root

  climbs : (k d : ℕ) → 1 ≤ d → d < 1 + inode_count g → is_directory (inode_of g image d) ≡ true → ascend bs nodes k d ≡ 2
      → rises_to_root (above_in g image) k d ≡ true
  climbs zero d low high so comes = root_rises (above_in g image) zero d comes
  climbs (suc k) d low high so comes =
      elim (cases_eq d 2) [
        | inl two ↦ root_rises (above_in g image) (suc k) d two
        | inr other ↦
            let p = parent-live d low high so other in
            step_rises (above_in g image) k d (parent d low high so) (up-is d low high so)
            (climbs k (parent d low high so) p.low p.high p.so (sym (ap (ascend bs nodes k) (parent-here d low high so)) ∙ comes))
      ]

  none_above : (d : ℕ) → inode_count g < d → above_in g image d ≡ None
  none_above d past =
      let high : nat_le d (inode_count g) ≡ false = grind (arith, past) in
      ap (λ (t : Bool). if is_directory (inode_of g image d) && t then above (entries g image d) else None) high
      ∙ ap (λ (t : Bool). if t then above (entries g image d) else None) (and_false (is_directory (inode_of g image d)))

  rises-is : (d : ℕ) → 1 ≤ d → d < 1 + inode_count g → is_directory (inode_of g image d) ≡ true
      → rises_to_root (above_in g image) (inode_count g) d ≡ true
  rises-is d low high so =
      let way = rest.whole.ascends d (node d) (dir-there image w fs rest d low high so) (dir-live image w fs rest d low high so) in
      rises_soon (above_in g image) (inode_count g) (let top = root.high in omega (arith, top)) none_above way.0 d
      (climbs way.0 d low high so way.1)

  dots-right : (d : ℕ) → 1 ≤ d → d < 1 + inode_count g → is_directory (inode_of g image d) ≡ true
      → are_dots g image (namings g image) d (entries g image d) ≡ true
  dots-right d low high so =
      let es : List (List ℕ) =
      entry_bytes bs (node d) 0 ∷ entry_bytes bs (node d) 1
      ∷ map (entry_bytes bs (node d)) (range_with_len 2 (entry_count (node d) - 2)) in
      let up : Bool = rises_to_root (above_in g image) (inode_count g) d in
      ap (are_dots g image (namings g image) d) (es-two d low high so)
      ∙ ap (λ (t : Bool). t && some_and (above es) (is_placed (namings g image) d) && has_dots_once es && up) (first-is d low high so)
      ∙ ap (λ (o : Option ℕ). some_and o (is_placed (namings g image) d) && has_dots_once es && up) (second-is d low high so)
      ∙ ap (λ (t : Bool). t && has_dots_once es && up) (placed-is d low high so)
      ∙ ap (λ (t : Bool). t && up) (once-is d low high so) ∙ rises-is d low high so

  pub dots_hold : dots_flaw g image ≡ None
  unfolding dots_flaw directories
  dots_hold =
      none_found (λ d. not (are_dots g image (namings g image) d (entries g image d))) (λ d. is_directory (inode_of g image d))
      (inode_count g) 1
      (λ d low high so. ap not (dots-right d low high so))
