-- The directories of the tree of a sound image, and their places, are those of a whole file system.
use Rattle.std.proofs.Common.{◌≡◌, ◌≢◌, ◌≤◌, ◌<◌, ◌+◌, ◌==◌, ◌&&◌, ◌||◌, ◌∷◌, [], ◌∙◌, ℕ, zero, suc, Bool, not, true, false, List, Option, Some, None, IsSome, inl, inr, ap, sym, refl, subst, cond, if◌then◌else◌, length, option_map, nat_le, nat_lt, arith}
use Rattle.std.specs.Cmp.Lexicographic.{same_text}
use Rattle.std.specs.Ordering.{nat_cmp}
use Rattle.std.specs.FinMap as fmap
use Rattle.std.proofs.lemmas.Bool.{cases_eq, eqb-true, false≢true}
use Rattle.sv_form.specs.declared.geometry.Geometry.{Geometry}
use Rattle.sv_form.specs.Geometry.{inode_count}
use Rattle.sv_form.specs.Image.{geometry_of, inode_of}
use Rattle.sv_form.specs.Node.{Node, entry_count, entry_inode}
use Rattle.sv_form.specs.NodeEntries.{entry_bytes}
use Rattle.sv_plain.specs.Fs as fs
use Rattle.sv_plain.specs.Names.{same_bytes, some_and}
use Rattle.sv_plain.specs.Totals.{at_or_0}
use Rattle.sv_plain.specs.Whole.{EachLive, IsDirectory, IsPlaced, IsRoot, ascend, parent_of}
use Rattle.sv_check.specs.Directories.{above, above_in, dots, entries, holders_of, named_by, namings, namings_of, reads_entry, rises_to_root, root_flaw}
use Rattle.sv_check.specs.InodeList.{is_directory, is_free, links_of}
use Rattle.sv_check.specs.Links.{times_named}
use Rattle.sv_check.specs.Sound.{IsSound, node_of}
use Rattle.sv_check.proofs.BooleanTests.{and_left, and_right, at_most, not_below, not_false, not_true, or_left, or_right}
use Rattle.sv_check.proofs.LoadedTree.{nodes_to}
use Rattle.sv_check.proofs.InodeReads.{no_directory}
use Rattle.sv_check.proofs.SoundParts.{AreMet, are_met, sound_walked, walked_least}
use Rattle.sv_check.proofs.TreeDirectories.{AreDots, dots-first, each-reads, entry-inode, entry-name, entry-reads, es-two, names-once, page-there, size-least, size-whole, used}
use Rattle.sv_check.proofs.TreeNamings.{IsOne, all-children, all-named, dir-children, links-right, live-is, one-holder}
use Rattle.sv_check.proofs.TreeNodes.{tree_node, tree_used, used_tree}

module _ (image : List ℕ) (sound : IsSound image) where
  abbrev g : Geometry
  g = geometry_of image

  abbrev met : AreMet g image
  met = are_met image sound

  abbrev node : ℕ → Node
  node d = node_of g image (inode_of g image d)

  abbrev nodes : fmap.FinMap nat_cmp Node
  nodes = nodes_to g image (inode_count g)

  abbrev bs : ℕ
  bs = g.block_size

  -- ---- a directory of the tree

  pub record IsLiveDir (d : ℕ) (n : Node) : Type 0 where
    pub low : 1 ≤ d
    pub high : d < 1 + inode_count g
    pub so : is_directory (inode_of g image d) ≡ true
    pub node_is : n ≡ node d

  live_dir : (d : ℕ) (n : Node) → fmap.get nodes d ≡ Some n → fs.is_live n ≡ true → IsLiveDir d n
  live_dir d n there live =
      let u = tree_used g image d n there in
      let is = tree_node g image d n there in
      record {
        low = u.low;
        high = u.high;
        so = sym (live-is image sound d u.low u.high u.used) ∙ ap (λ (m : Node). fs.is_live m) (sym is) ∙ live;
        node_is = is;
      }

  dir-there : (d : ℕ) → 1 ≤ d → d < 1 + inode_count g → is_directory (inode_of g image d) ≡ true → fmap.get nodes d ≡ Some (node d)
  dir-there d low high so = used_tree g image d low high (used image sound d low high so)

  dir-live : (d : ℕ) → 1 ≤ d → d < 1 + inode_count g → is_directory (inode_of g image d) ≡ true → fs.is_live (node d) ≡ true
  dir-live d low high so = live-is image sound d low high (used image sound d low high so) ∙ so

  -- what its entries name
  module _ (d : ℕ) (low : 1 ≤ d) (high : d < 1 + inode_count g) (so : is_directory (inode_of g image d) ≡ true) where
    abbrev e : ℕ → List ℕ
    e j = entry_bytes bs (node d) j

    abbrev dots-are : AreDots g image d (e 0) (e 1)
    dots-are = dots-first image sound d low high so

    abbrev parent : ℕ
    parent = named_by (e 1)

    placed_root : (t : Bool) → (d == 2) ≡ t → (if t then ((parent == 2) && same_bytes (holders_of (namings g image) 2) []) else same_bytes (holders_of (namings g image) d) (parent ∷ [])) ≡ true → d ≡ 2
        → (parent ≡ 2) × (holders_of (namings g image) 2 ≡ [])
    placed_root true is placed two =
        (eqb-true parent 2 (and_left (parent == 2) (same_bytes (holders_of (namings g image) 2) []) placed), same_text _ [] (sym (and_right (parent == 2) (same_bytes (holders_of (namings g image) 2) []) placed)))
    placed_root false is placed two = absurd (false≢true (sym is ∙ ap (λ (x : ℕ). x == 2) two))

    placed_other : (t : Bool) → (d == 2) ≡ t → (if t then ((parent == 2) && same_bytes (holders_of (namings g image) 2) []) else same_bytes (holders_of (namings g image) d) (parent ∷ [])) ≡ true → d ≢ 2
        → holders_of (namings g image) d ≡ parent ∷ []
    placed_other true is placed other = absurd (other (eqb-true d 2 is))
    placed_other false is placed other = same_text _ (parent ∷ []) (sym placed)

    pub root-placed : d ≡ 2 → (parent ≡ 2) × (holders_of (namings g image) 2 ≡ [])
    root-placed two = placed_root (d == 2) refl dots-are.placed two

    pub other-placed : d ≢ 2 → holders_of (namings g image) d ≡ parent ∷ []
    other-placed other = placed_other (d == 2) refl dots-are.placed other

    pub parent-is : d ≢ 2 → IsOne (λ m. is_directory (inode_of g image m)) (λ x. holders_of (namings_of g image x) d) parent 1 (inode_count g)
    parent-is other = one-holder image sound d parent (other-placed other)

    parent-some : parent ≢ 0
    parent-some nothing =
        elim (cases_eq d 2) [
          | inl two ↦ let up = (root-placed two).0 in omega (arith, up, nothing)
          | inr other ↦ let up = (parent-is other).low in omega (arith, up, nothing)
        ]

    pub dir-whole : IsDirectory bs d (node d)
    unfolding node_of
    dir-whole = record {
      least = size-least image sound d low high so;
      entries = size-whole image sound d low high so;
      present = λ k begins. page-there image sound d low high so k begins;
      reads = λ j below. entry-reads bs (node d) j (and_left (reads_entry (e j)) _ (each-reads image sound d low high so j below));
      once = λ j k up below one two. names-once image sound d low high so j k up below one two;
      dot = sym (entry-inode bs (node d) 0) ∙ dots-are.itself;
      dot_name = sym (entry-name bs (node d) 0) ∙ dots-are.first_name;
      dots = λ none. parent-some (entry-inode bs (node d) 1 ∙ none);
      dots_name = sym (entry-name bs (node d) 1) ∙ dots-are.second_name;
    }

    leads : (j : ℕ) → (t : Bool) → (named_by (e j) == 0) ≡ t → (t || (nat_le (named_by (e j)) (inode_count g) && not (is_free (inode_of g image (named_by (e j)))))) ≡ true → named_by (e j) ≢ 0
        → IsSome (fmap.get nodes (named_by (e j)))
    leads j true is somewhere some = absurd (some (eqb-true (named_by (e j)) 0 is))
    leads j false is somewhere some =
        let most = at_most (named_by (e j)) (inode_count g) (and_left (nat_le (named_by (e j)) (inode_count g)) _ somewhere) in
        let free = not_true _ (and_right (nat_le (named_by (e j)) (inode_count g)) _ somewhere) in
        subst (λ (o : Option Node). IsSome o) (sym (used_tree g image (named_by (e j)) (omega (arith, some)) (omega (arith, most)) free)) refl

    pub dir-names : (j : ℕ) → j < entry_count (node d) → entry_inode bs (node d) j ≢ 0 → IsSome (fmap.get nodes (entry_inode bs (node d) j))
    dir-names j below some =
        subst (λ (x : ℕ). IsSome (fmap.get nodes x)) (entry-inode bs (node d) j)
        (leads j (named_by (e j) == 0) refl (and_right (reads_entry (e j)) _ (each-reads image sound d low high so j below)) (λ z. some (sym (entry-inode bs (node d) j) ∙ z)))

  -- ---- the clauses

  pub directories_whole : EachLive nodes (IsDirectory bs)
  directories_whole d n there live =
      let l = live_dir d n there live in
      subst (λ (m : Node). IsDirectory bs d m) (sym l.node_is) (dir-whole d l.low l.high l.so)

  pub named_whole : EachLive nodes (λ _ n. (j : ℕ) → j < entry_count n → entry_inode bs n j ≢ 0 → IsSome (fmap.get nodes (entry_inode bs n j)))
  named_whole d n there live =
      let l = live_dir d n there live in
      subst (λ (m : Node). (j : ℕ) → j < entry_count m → entry_inode bs m j ≢ 0 → IsSome (fmap.get nodes (entry_inode bs m j))) (sym l.node_is) (dir-names d l.low l.high l.so)

  parent_in : (d : ℕ) (n : Node) → fmap.get nodes d ≡ Some n → parent_of bs nodes d ≡ entry_inode bs n 1
  parent_in d n there = ap (at_or_0 (λ (m : Node). entry_inode bs m 1)) there

  some_inodes : 2 < 1 + inode_count g
  some_inodes =
      let first = sound.sized.sizes.bounds.least_first in
      omega (arith, first)

  root_test : (place : ℕ) (t : Bool) → (if t then None else Some place) ≡ None → t ≡ true
  root_test place true flaw = refl
  root_test place false flaw = let bad : ⊥ = cc flaw in absurd bad

  root-dir : is_directory (inode_of g image 2) ≡ true
  unfolding root_flaw
  root-dir = root_test 2 (is_directory (inode_of g image 2)) met.root

  pub root_whole : IsRoot bs nodes
  root_whole =
      let at = dir-there 2 (omega arith) some_inodes root-dir in
      let placed = root-placed 2 (omega arith) some_inodes root-dir refl in
      record {
        there = (node 2, at, dir-live 2 (omega arith) some_inodes root-dir);
        above = parent_in 2 (node 2) at ∙ sym (entry-inode bs (node 2) 1) ∙ placed.0;
        unnamed = all-children image sound 2 ∙ ap (λ l. length l) placed.1;
      }

  pub placed_whole : EachLive nodes (λ d n. d ≢ 2 → IsPlaced bs nodes d (entry_inode bs n 1))
  placed_whole d n there live =
      let l = live_dir d n there live in
      subst (λ (m : Node). d ≢ 2 → IsPlaced bs nodes d (entry_inode bs m 1)) (sym l.node_is)
      (λ other. subst (λ (p : ℕ). IsPlaced bs nodes d p) (entry-inode bs (node d) 1) (at d l.low l.high l.so other)) where
        at : (d : ℕ) (low : 1 ≤ d) (high : d < 1 + inode_count g) (so : is_directory (inode_of g image d) ≡ true) → d ≢ 2 → IsPlaced bs nodes d (named_by (entry_bytes bs (node d) 1))
        at d low high so other =
            let p = parent-is d low high so other in
            let up : ℕ = named_by (entry_bytes bs (node d) 1) in
            record {
              once = all-children image sound d ∙ ap (λ l. length l) (other-placed d low high so other);
              there = (node up, dir-there up p.low p.high p.so, dir-live up p.low p.high p.so, sym (dir-children image sound up p.low p.high p.so d) ∙ ap (λ l. length l) p.alone);
            }

  -- ---- the way to the root

  past_first : (t : Bool) → is_free (inode_of g image 1) ≡ t → is_directory (inode_of g image 1) ≡ false
  past_first true e = no_directory (inode_of g image 1) e
  past_first false e =
      let least : 2 ≤ 1 = walked_least image (sound_walked image sound) g refl 1 (omega arith) (omega (arith, some_inodes)) e in
      absurd (omega (arith, least))

  -- inode 0 stands where inode 1 does, which is free
  least_dir : (d : ℕ) → is_directory (inode_of g image d) ≡ true → 1 ≤ d
  least_dir zero so = absurd (false≢true (sym (past_first (is_free (inode_of g image 1)) refl) ∙ so))
  least_dir (suc d) so = omega arith

  up_is : (d : ℕ) (t : Bool) → (is_directory (inode_of g image d) && nat_le d (inode_count g)) ≡ t → (test : ℕ → Bool) → some_and (if t then above (entries g image d) else None) test ≡ true
      → (up : ℕ) × (parent_of bs nodes d ≡ up) × (test up ≡ true)
  up_is d false is test e = let bad : ⊥ = cc e in absurd bad
  up_is d true is test e =
      let so = and_left (is_directory (inode_of g image d)) _ is in
      let most = at_most d (inode_count g) (and_right (is_directory (inode_of g image d)) _ is) in
      let low = least_dir d so in
      let high : d < 1 + inode_count g = omega (arith, most) in
      let two = es-two image sound d low high so in
      let second = (dots-first image sound d low high so).second_name in
      let found : above (entries g image d) ≡ Some (named_by (entry_bytes bs (node d) 1)) =
      ap above two ∙ ap (λ (name : List ℕ). option_map named_by (cond (same_bytes name dots) (Some (entry_bytes bs (node d) 1)) None)) second in
      (named_by (entry_bytes bs (node d) 1), parent_in d (node d) (dir-there d low high so) ∙ sym (entry-inode bs (node d) 1), sym (ap (λ (o : Option ℕ). some_and o test) found) ∙ e)

  rises : (n d : ℕ) → rises_to_root (above_in g image) n d ≡ true → (k : ℕ) × (ascend bs nodes k d ≡ 2)
  unfolding rises_to_root
  rises zero d e = (0, eqb-true d 2 e)
  rises (suc n) d e = by_test (d == 2) refl e (rises n) where
    by_test : (t : Bool) → (d == 2) ≡ t → (t || some_and (above_in g image d) (rises_to_root (above_in g image) n)) ≡ true → ((p : ℕ) → rises_to_root (above_in g image) n p ≡ true → (k : ℕ) × (ascend bs nodes k p ≡ 2))
        → (k : ℕ) × (ascend bs nodes k d ≡ 2)
    by_test true is e later = (0, eqb-true d 2 is)
    by_test false is e later =
        let up = up_is d (is_directory (inode_of g image d) && nat_le d (inode_count g)) refl (rises_to_root (above_in g image) n) e in
        let rest = later up.0 up.2 in
        (suc rest.0, ap (ascend bs nodes rest.0) up.1 ∙ rest.1)

  pub ascends_whole : EachLive nodes (λ d _. (k : ℕ) × (ascend bs nodes k d ≡ 2))
  ascends_whole d n there live =
      let l = live_dir d n there live in
      rises (inode_count g) d (dots-first image sound d l.low l.high l.so).rises

  -- ---- links

  pub links_whole : (i : ℕ) (n : Node) → fmap.get nodes i ≡ Some n → (n.links ≤ 1000) × (n.links ≡ fs.namings bs nodes i)
  unfolding node_of
  links_whole i n there =
      let u = tree_used g image i n there in
      let right = links-right image sound i u.low u.high u.used in
      let most = not_below 1000 (links_of (inode_of g image i)) (or_right (nat_lt (links_of (inode_of g image i)) 1) _ (or_left _ _ right)) in
      let same : links_of (inode_of g image i) ≡ times_named (namings g image) i =
      eqb-true (links_of (inode_of g image i)) (times_named (namings g image) i) (not_false _ (or_right (nat_lt (links_of (inode_of g image i)) 1 || nat_lt 1000 (links_of (inode_of g image i))) _ right)) in
      subst (λ (m : Node). (m.links ≤ 1000) × (m.links ≡ fs.namings bs nodes i)) (sym (tree_node g image i n there)) (most, same ∙ sym (all-named image sound i))
