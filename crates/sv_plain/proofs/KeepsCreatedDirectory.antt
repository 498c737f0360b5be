-- A file system stays whole where a directory is made.
use Rattle.std.proofs.Common.{◌≡◌, ◌≢◌, ◌≤◌, ◌<◌, ℕ, zero, suc, ◌+◌, ◌*◌, ◌/◌, ◌%◌, ◌==◌, inl, inr, true, false, ◌⊎◌, List, Some, None, IsSome, unwrap_or, if◌then◌else◌, sym, refl, ap, subst, ◌∙◌, arith}
use Rattle.std.proofs.lemmas.Bool.Decides.{nat_tests}
use Rattle.std.specs.FinMap as map
use Rattle.std.specs.FinSet as set
use Rattle.sv_form.specs.declared.kind.Kind.TheVariants.{Dir}
use Rattle.sv_form.specs.Name.{IsName}
use Rattle.sv_form.specs.Entry.{filled}
use Rattle.sv_form.specs.Pair.{pair_cmp}
use Rattle.sv_form.specs.Node.{Node, entry_count, entry_inode, used, numbers_per, block_set, blocks_at}
use Rattle.sv_plain.specs.Blocks.{with_blocks}
use Rattle.sv_plain.specs.Totals.{at_or_0, one_if}
use Rattle.sv_plain.specs.Fs.{Fs, changed, is_live, naming_count}
use Rattle.sv_plain.specs.Whole.{IsWhole}
use Rattle.sv_plain.specs.Names.{empty_place, place_of, promise_of, is_missing, is_table_full}
use Rattle.sv_plain.specs.Needs.{entry_need, make_need}
use Rattle.sv_plain.specs.Change.{entry_bytes, with_entry, with_links, new_node, one_more, spent}
use Rattle.sv_plain.specs.Step.{is_free, links_made}
use Rattle.sv_plain.proofs.Holders.{apart}
use Rattle.sv_plain.proofs.Used.{used_by_all-insert, block_set-empty, block_set-insert, len-with_blocks}
use Rattle.sv_plain.proofs.EntryPut.{with_put, put-is}
use Rattle.sv_plain.proofs.DirectoryPut.{node-new, directory-new, second-new, counts-new}
use Rattle.sv_plain.proofs.NameEntries.{length-filled, inode-entered, name-entered, entry-entered}
use Rattle.sv_plain.proofs.EntryRoom.{promised-spent, missing-enters, IsFreePlace, free-place}
use Rattle.sv_plain.proofs.MadeDirectory.{first-inode, second-inode, node-made, directory-made, all-made, more-made}
use Rattle.sv_plain.proofs.KeepsReferences.{keeps-one_more}
use Rattle.sv_plain.proofs.KeepsRemoval.{Nodes}
use Rattle.sv_plain.proofs.KeepsFile.{get_new, get_other}
use Rattle.sv_plain.proofs.KeepsLinks.{changed-there}
use Rattle.sv_plain.proofs.KeepsNames.{some_bytes, named-with}
use Rattle.sv_plain.proofs.KeepsEntered.{name-apart, length-entry}
use Rattle.sv_plain.proofs.KeepsAdded.{not_absent}
use Rattle.sv_plain.proofs.KeepsCreated.{absent-free, has-place}
use Rattle.sv_plain.proofs.KeepsMade.{IsMade, keeps-made}

-- what making a missing directory takes
pub make-need : (fs : Fs) (d : ℕ) (name : List ℕ) (node : Node) → map.get fs.nodes d ≡ Some node → is_missing fs d name ≡ true → make_need fs d name ≡ entry_need fs.block node + 1
make-need fs d name node there missing =
    ap (λ b. if b then 0 else at_or_0 (entry_need fs.block) (map.get fs.nodes d) + 1) (missing-enters fs d name missing)
    ∙ ap (λ o. at_or_0 (entry_need fs.block) o + 1) there

-- a new directory uses one block
pub used-made : (block i d mode : ℕ) → used block (new_node block i d mode Dir) ≤ 1
unfolding used
used-made block i d mode =
    let per : ℕ = numbers_per block in
    let y : Node = new_node block i d mode Dir in
    let before : set.FinSet pair_cmp = block_set per (map.keys (map.empty {X = List ℕ})) in
    let is : set.len (block_set per (map.keys y.pages)) ≡ set.len (with_blocks before (blocks_at per 0)) = ap set.len (block_set-insert per map.empty 0 _) in
    let none : set.len before ≡ 0 = ap set.len (block_set-empty per) ∙ set.len-empty pair_cmp in
    omega (arith, is, none, (len-with_blocks before (blocks_at per 0)).1)

fewer_links : (n : ℕ) → (n == 1000) ≡ false → n ≤ 1000 → n + 1 ≤ 1000
fewer_links n e h = grind (arith, nat_tests)

its_entries : (block : ℕ) (y : Node) (i d j : ℕ) → entry_inode block y 0 ≡ i → entry_inode block y 1 ≡ d → j < 2 → (entry_inode block y j ≡ i) ⊎ (entry_inode block y j ≡ d)
its_entries block y i d zero first second low = inl first
its_entries block y i d (suc zero) first second low = inr second
its_entries block y i d (suc (suc j)) first second low = absurd (omega (arith, low))

module _ (fs : Fs) (p d i : ℕ) (name : List ℕ) (mode : ℕ) (node : Node) (w : IsWhole fs) (there : map.get fs.nodes d ≡ Some node) (live : is_live node ≡ true)
    (none : place_of fs.block node name ≡ None) (is_name : IsName name) (two : 32 ≤ fs.block) (room : 16000 * fs.inodes ≤ fs.greatest) (paid : entry_need fs.block node + 1 ≤ promise_of fs p)
    (few : (node.links == 1000) ≡ false) (mode_fits : mode ≤ 4095) (free : is_free fs i ≡ true) where
  abbrev j : ℕ
  j = unwrap_or (empty_place fs.block node) (entry_count node)

  abbrev links : ℕ
  links = node.links + 1

  abbrev new : Node
  new = with_put fs.block node j (entry_bytes i name) links

  abbrev y : Node
  y = new_node fs.block i d mode Dir

  abbrev need : ℕ
  need = entry_need fs.block node + 1

  place : IsFreePlace fs node j
  place = free-place fs d node w there live room

  some_i : i ≢ 0
  some_i = (let least = (absent-free fs i free).0 in (λ s. absurd (omega (arith, s, least))))

  some_d : d ≢ 0
  some_d = (let least = (w.nodes d node there).least in (λ s. absurd (omega (arith, s, least))))

  inode : entry_inode fs.block new j ≡ i
  inode = inode-entered fs.block node j links (some_bytes fs w) w.sized.entries i name is_name

  counts : (first k : ℕ) → first ≤ 2 → k ≢ 0 → naming_count fs.block new first k ≡ naming_count fs.block node first k + one_if (i == k)
  counts first k early some =
      let changed = counts-new fs.block fs.greatest fs.inodes d node j (i % 256) (i / 256) (filled name) links (some_bytes fs w) w.sized.entries (length-filled name is_name) (w.nodes d node there) (w.directories d node there live) place.third place.within first k early some in
      let old : one_if (entry_inode fs.block node j == k) ≡ 0 = ap (λ c. one_if (c == k)) place.free ∙ apart 0 k some in
      let now : one_if (entry_inode fs.block new j == k) ≡ one_if (i == k) = ap (λ c. one_if (c == k)) inode in
      omega (arith, changed, old, now)

  fits_two : 32 ≤ fs.greatest
  fits_two =
      let root = w.root.there in
      let least = (w.directories 2 root.0 root.1 root.2).least in
      let size = (w.nodes 2 root.0 root.1).size in
      omega (arith, least, size)

  other : d ≢ i
  other = not_absent fs.nodes i d node (absent-free fs i free).2 there

  made : IsMade fs d i node new y (spent fs p need)
  made =
      let n = w.nodes d node there in
      let dir = w.directories d node there live in
      let some = some_bytes fs w in
      let number = absent-free fs i free in
      let len = length-filled name is_name in
      let first = first-inode fs.block i d mode two some_i some_d in
      let second = second-inode fs.block i d mode two some_i some_d in
      record {
        there = there;
        was_live = live;
        absent = number.2;
        kind = refl;
        links = refl;
        few = fewer_links node.links few (w.links d node there).0;
        node = node-new fs.block fs.greatest fs.inodes d node j (i % 256) (i / 256) (filled name) links some w.sized.entries len n dir place.third place.within place.fits;
        directory = directory-new fs.block fs.greatest fs.inodes d node j (i % 256) (i / 256) (filled name) links some w.sized.entries len n dir place.third place.within
            (entry-entered fs.block node j links some w.sized.entries i name is_name some_i)
            (λ k ne low some_k _ s. name-apart fs.block node name none k low some_k (s ∙ name-entered fs.block node j links some w.sized.entries i name is_name));
        named = named-with fs d node j (i % 256) (i / 256) (filled name) w there live len place.third place.within place.fits links (λ k. (k ≡ i) ⊎ IsSome (map.get fs.nodes k)) (λ _. inl inode) (λ k is. inr is);
        second = second-new fs.block fs.greatest fs.inodes d node j (i % 256) (i / 256) (filled name) links some w.sized.entries len n dir place.third place.within;
        counts = counts;
        its_kind = refl;
        its_links = refl;
        its_node = node-made fs.block i d mode two some_i some_d fs.greatest fs.inodes number.0 number.1 mode_fits fits_two;
        its_directory = directory-made fs.block i d mode two some_i some_d;
        its_named = λ k low. its_entries fs.block y i d k first second low;
        its_second = second;
        its_all = all-made fs.block i d mode two some_i some_d;
        its_more = more-made fs.block i d mode two some_i some_d;
        blocks =
            (let one = used_by_all-insert fs.block fs.nodes d new in
            let both = used_by_all-insert fs.block (map.insert fs.nodes d new) i y in
            let old : at_or_0 (used fs.block) (map.get fs.nodes d) ≡ used fs.block node = ap (at_or_0 (used fs.block)) there in
            let old_it : at_or_0 (used fs.block) (map.get (map.insert fs.nodes d new) i) ≡ 0 = ap (at_or_0 (used fs.block)) (get_other fs.nodes d i new (λ s. other (sym s)) ∙ number.2) in
            omega (arith, w.blocks, one, both, old, old_it, place.takes (entry_bytes i name) links, used-made fs.block i d mode, promised-spent fs p need paid));
      }

  pub created-directory : is_table_full fs ≡ false
      → IsWhole (record fs {
        nodes = map.insert (changed fs.nodes d (λ node. with_links (links_made Dir) (with_entry fs.block i name node))) i y;
        references = one_more fs p i;
        promises = spent fs p need;
      })
  created-directory has_room =
      let f : Node → Node = λ node. with_links (links_made Dir) (with_entry fs.block i name node) in
      let is : f node ≡ new = ap (with_links (links_made Dir)) (put-is fs.block node j (entry_bytes i name) w.sized.entries (length-entry i name is_name)) in
      let nodes : map.insert (map.insert fs.nodes d new) i y ≡ map.insert (changed fs.nodes d f) i y =
      ap (λ m. map.insert m i y) (ap (map.insert fs.nodes d) (sym is) ∙ changed-there fs.nodes d f node there) in
      let one : Fs = record fs { nodes = map.insert (changed fs.nodes d f) i y; promises = spent fs p need } in
      let whole_one : IsWhole one = subst (λ (m : Nodes). IsWhole (record fs { nodes = m; promises = spent fs p need })) nodes (keeps-made fs d i node new y (spent fs p need) w made) in
      keeps-one_more one p i whole_one (subst IsSome (sym (get_new (changed fs.nodes d f) i y)) refl) (absent-free fs i free).1 (has-place fs i has_room)
