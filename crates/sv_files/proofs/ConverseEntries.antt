-- Conditions 14 and 16 from the nodes: the entries of each directory, and the links of each inode.
use Rattle.std.proofs.Common.{◌≡◌, ◌≢◌, ◌≤◌, ◌<◌, ◌+◌, ◌-◌, ◌*◌, ◌/◌, ◌==◌, ◌&&◌, ◌||◌, ◌∙◌, ℕ, Bool, not, true, false, List, Option, Some}
use Rattle.std.proofs.Common.{None, IsSome, is_some, inl, inr, ap, sym, refl, subst, map, length, nat_le, nat_lt, arith}
use Rattle.std.specs.List.{range_with_len}
use Rattle.std.specs.FinMap as fmap
use Rattle.std.proofs.Math.Nat.{le-div_iff_mul-le}
use Rattle.std.proofs.lemmas.Bool.{cases_eq, eq-eqb, ne_eqb}
use Rattle.std.proofs.lemmas.List.FromFn.{length-map-range_with_len}
use Rattle.sv_form.specs.declared.geometry.Geometry.{Geometry}
use Rattle.sv_form.specs.Entry.{IsEntry}
use Rattle.sv_form.specs.Geometry.{inode_count}
use Rattle.sv_form.specs.Image.{geometry_of, inode_of}
use Rattle.sv_form.specs.Node.{Node, byte_of, bytes_of, entry_count, entry_inode, entry_name}
use Rattle.sv_form.specs.NodeEntries.{entry_bytes}
use Rattle.sv_plain.specs.Front.{size_of}
use Rattle.sv_plain.specs.Fs as state
use Rattle.sv_plain.specs.Fs.{Fs}
use Rattle.sv_plain.specs.Whole.{IsDirectory, IsEntryAt}
use Rattle.sv_check.specs.Directories.{are_entries, directories, entries, entry_flaw, has_no_hole, has_twins, leads_somewhere, namings}
use Rattle.sv_check.specs.Directories.{named_by, names_in, page_in, reads_entry}
use Rattle.sv_check.specs.InodeList.{is_directory, is_free, links_of, used_inodes}
use Rattle.sv_check.specs.Links.{has_wrong_links, links_flaw, times_named}
use Rattle.sv_check.specs.Sound.{IsWalked, node_of}
use Rattle.sv_check.specs.Walk.{reached}
use Rattle.sv_check.proofs.BooleanTests.{at_most-test, not_below-test, not_true}
use Rattle.sv_check.proofs.EntryReads.{spelled_reads}
use Rattle.sv_check.proofs.LoadedTree.{nodes_to}
use Rattle.sv_check.proofs.TreeDirectories.{entry-field, entry-inode, entry-name}
use Rattle.sv_check.proofs.TreeNodes.{tree_used, used_tree}
use Rattle.sv_files.specs.ConverseNames.{IsAtRest}
use Rattle.sv_files.proofs.RangeTests.{all_in, all_pass, no_two, none_found}
use Rattle.sv_files.proofs.RestedNodes.{dir-live, dir-there, dir-whole, linked, none-pending, still}
use Rattle.sv_files.proofs.WalkedDirectories.{es-are, node-size, page-is}
use Rattle.sv_files.proofs.WalkedNamings.{all-named}

-- ---- the bytes of an entry

module _ (block : ℕ) (node : Node) (j : ℕ) (at : IsEntryAt block node j) where
  entry-long : length (entry_bytes block node j) ≡ 16
  unfolding bytes_of
  entry-long = length-map-range_with_len (byte_of block node) (16 * j) 16

  empty-spelled : entry_inode block node j ≡ 0 → IsEntry (entry_bytes block node j) (record { inode = 0; name = None })
  empty-spelled none = record {
    len = entry-long;
    inode = entry-inode block node j ∙ none;
    name = entry-field block node j ∙ at.empty none;
    spelled = refl;
  }

  named-spelled : entry_inode block node j ≢ 0
      → IsEntry (entry_bytes block node j) (record { inode = entry_inode block node j; name = Some (entry_name block node j) })
  named-spelled some = record {
    len = entry-long;
    inode = entry-inode block node j;
    name = entry-field block node j ∙ at.rest some;
    spelled = (some, at.named some);
  }

  pub entry-test : reads_entry (entry_bytes block node j) ≡ true
  entry-test =
      elim (cases_eq (entry_inode block node j) 0) [
        | inl none ↦ spelled_reads (entry_bytes block node j) _ (empty-spelled none)
        | inr some ↦ spelled_reads (entry_bytes block node j) _ (named-spelled some)
      ]

module _ (image : List ℕ) (w : IsWalked image) (fs : Fs) (rest : IsAtRest (still image fs)) where
  abbrev g : Geometry
  g = geometry_of image

  abbrev bs : ℕ
  bs = g.block_size

  abbrev node : ℕ → Node
  node d = node_of g image (inode_of g image d)

  -- an entry names nothing, or a used inode of the list
  leads : (n : ℕ) → (n ≢ 0 → IsSome (fmap.get (nodes_to g image (inode_count g)) n))
      → ((n == 0) || (nat_le n (inode_count g) && not (is_free (inode_of g image n)))) ≡ true
  leads n there =
      elim (cases_eq n 0) [
        | inl none ↦ ap (λ (t : Bool). t || (nat_le n (inode_count g) && not (is_free (inode_of g image n)))) (eq-eqb n 0 none)
        | inr some ↦ by_node (fmap.get (nodes_to g image (inode_count g)) n) refl (there some)
      ] where
        by_node : (o : Option Node) → fmap.get (nodes_to g image (inode_count g)) n ≡ o → IsSome o
            → ((n == 0) || (nat_le n (inode_count g) && not (is_free (inode_of g image n)))) ≡ true
        by_node None is some = let bad : ⊥ = cc some in absurd bad
        by_node (Some m) is some =
            let u = tree_used g image n m is in
            let none : (n == 0) ≡ false = ne_eqb n 0 (λ e. (let low = u.low in omega (arith, low, e))) in
            ap (λ (t : Bool). t || (nat_le n (inode_count g) && not (is_free (inode_of g image n)))) none
            ∙ ap (λ (t : Bool). t && not (is_free (inode_of g image n)))
            (at_most-test n (inode_count g) (let high = u.high in omega (arith, high)))
            ∙ ap not u.used

  module _ (d : ℕ) (low : 1 ≤ d) (high : d < 1 + inode_count g) (so : is_directory (inode_of g image d) ≡ true) where
    abbrev is : IsDirectory bs d (node d)
    is = dir-whole image w fs rest d low high so

    abbrev e : ℕ → List ℕ
    e j = entry_bytes bs (node d) j

    abbrev count : ℕ
    count = entry_count (node d)

    page-begins : (k : ℕ) → k < (size_of (inode_of g image d) + (bs - 1)) / bs → k * bs < (node d).size
    page-begins k below =
        let some : 1 ≤ bs = (let size = w.sized.sizes.bounds.block_size in omega (arith, size)) in
        let fits : k + 1 ≤ (size_of (inode_of g image d) + (bs - 1)) / bs = omega (arith, below) in
        let next : (k + 1) * bs ≤ size_of (inode_of g image d) + (bs - 1) = (le-div_iff_mul-le some).0 fits in
        let more : (k + 1) * bs ≡ k * bs + bs = grind arith in
        let size : (node d).size ≡ size_of (inode_of g image d) = node-size image w d low high so in
        omega (arith, next, more, size, some)

    no-hole : has_no_hole g image (inode_of g image d) ≡ true
    no-hole =
        all_in (λ k. is_some (page_in g image (reached g image (inode_of g image d)) k)) ((size_of (inode_of g image d) + (bs - 1)) / bs) 0
        (λ k least below. ap (λ (o : Option (List ℕ)). is_some o) (sym (page-is image w d low high so k))
        ∙ is.present k (page-begins k (omega (arith, below))))

    each-entry : (j : ℕ) → j < count → (reads_entry (e j) && leads_somewhere g image (e j)) ≡ true
    each-entry j below =
        ap (λ (t : Bool). t && leads_somewhere g image (e j)) (entry-test bs (node d) j (is.reads j below))
        ∙ leads (named_by (e j))
        (λ some. subst (λ (n : ℕ). IsSome (fmap.get (nodes_to g image (inode_count g)) n)) (sym (entry-inode bs (node d) j))
        (rest.whole.named d (node d) (dir-there image w fs rest d low high so) (dir-live image w fs rest d low high so) j below
        (λ none. some (entry-inode bs (node d) j ∙ none))))

    no-twins : has_twins (names_in (map e (range_with_len 0 count))) ≡ false
    no-twins =
        no_two e count 0
        (λ j k least up below one two same. is.once j k up (omega (arith, below)) (λ none. one (entry-inode bs (node d) j ∙ none))
        (λ none. two (entry-inode bs (node d) k ∙ none))
        (sym (entry-name bs (node d) j) ∙ same ∙ entry-name bs (node d) k))

    pub entries-right : (has_no_hole g image (inode_of g image d) && are_entries g image (entries g image d)) ≡ true
    entries-right =
        ap (λ (t : Bool). t && are_entries g image (entries g image d)) no-hole
        ∙ ap (are_entries g image) (es-are image w d low high so)
        ∙ ap (λ (t : Bool). t && not (has_twins (names_in (map e (range_with_len 0 count)))))
        (all_pass (λ x. reads_entry x && leads_somewhere g image x) e count 0 (λ j least below. each-entry j (omega (arith, below))))
        ∙ ap not no-twins

  pub entry_holds : entry_flaw g image ≡ None
  unfolding entry_flaw directories
  entry_holds =
      none_found (λ d. not (has_no_hole g image (inode_of g image d) && are_entries g image (entries g image d)))
      (λ d. is_directory (inode_of g image d)) (inode_count g) 1
      (λ d low high so. ap not (entries-right d low high so))

  -- ---- links

  links-right : (i : ℕ) → 1 ≤ i → i < 1 + inode_count g → is_free (inode_of g image i) ≡ false
      → has_wrong_links (namings g image) i (inode_of g image i) ≡ false
  unfolding node_of
  links-right i low high free =
      let right = rest.whole.links i (node i) (used_tree g image i low high free) in
      let named : state.namings bs (nodes_to g image (inode_count g)) i ≡ times_named (namings g image) i =
      all-named image w (linked image w fs rest) i in
      let none : state.pending_on fs.pending i ≡ 0 = none-pending image w fs rest i in
      right_by (links_of (inode_of g image i)) (times_named (namings g image) i) (linked image w fs rest i low high free) right.0
      (omega (arith, right.1, named, none)) where
        right_by : (l t : ℕ) → 1 ≤ l → l ≤ 1000 → l ≡ t → (nat_lt l 1 || nat_lt 1000 l || not (l == t)) ≡ false
        right_by l t some most same =
            ap (λ (b : Bool). b || nat_lt 1000 l || not (l == t)) (not_below-test l 1 some)
            ∙ ap (λ (b : Bool). b || not (l == t)) (not_below-test 1000 l most) ∙ ap not (eq-eqb l t same)

  pub links_hold : links_flaw g image ≡ None
  unfolding links_flaw used_inodes
  links_hold =
      none_found (λ n. has_wrong_links (namings g image) n (inode_of g image n)) (λ n. not (is_free (inode_of g image n))) (inode_count g) 1
      (λ i low high used. links-right i low high (not_true (is_free (inode_of g image i)) used))
