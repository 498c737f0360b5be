-- A file system stays whole where a name of a regular file is removed or entered.
use Rattle.std.proofs.Common.{◌≡◌, ◌≢◌, ◌≤◌, ◌<◌, ℕ, suc, ◌+◌, ◌-◌, ◌*◌, ◌==◌, inl, inr, Bool, true, false, not, ◌&&◌, List, [], ◌∷◌, length, max, replicate, Option, Some, None, IsSome, option_map, ◌/◌, unwrap_or, cond, sym, refl, ap, subst, ◌∙◌, arith}
use Rattle.std.proofs.lemmas.Bool.{false≢true, cases_eq, eqb-true, eq-eqb}
use Rattle.std.proofs.Math.Nat.{div-mul-le_self}
use Rattle.std.specs.Ordering.{nat_cmp}
use Rattle.std.specs.Cmp.{nat_cmp_total}
use Rattle.std.specs.FinMap as map
use Rattle.std.specs.FinMap.{nat_cmp-IsAntisymmetric, find}
use Rattle.sv_form.specs.declared.kind.Kind.TheVariants.{File}
use Rattle.sv_form.specs.Node.{Node, entry_count, entry_inode, entry_name, used}
use Rattle.sv_plain.specs.declared.history.reply.Reply.{Reply}
use Rattle.sv_plain.specs.declared.history.reply.Reply.TheVariants.{Removed, Lowered}
use Rattle.sv_plain.specs.Totals.{at_or_0, one_if}
use Rattle.sv_plain.specs.Fs.{Fs, used_by_all, promised, changed, insert_some, is_live, is_full_for, pending_on}
use Rattle.sv_plain.specs.Whole.{IsWhole, IsEntryAt}
use Rattle.sv_plain.specs.Names.{some_and, place_of, child_of, child, is_directory, is_open_to_names, child_passes}
use Rattle.sv_form.specs.NodeChanges.{put}
use Rattle.sv_plain.specs.Change.{without_entry, with_links}
use Rattle.sv_plain.specs.Step.{is_dots, unlink_replies, unlink_change}
use Rattle.sv_plain.proofs.Got.{and_left, and_right, not_true, got}
use Rattle.sv_plain.proofs.Counts.{differs, same_key}
use Rattle.sv_plain.proofs.Undone.{remove-insert}
use Rattle.sv_plain.proofs.Holders.{apart}
use Rattle.sv_plain.proofs.Used.{used_by_all-insert}
use Rattle.sv_plain.proofs.UsedPages.{used-written}
use Rattle.sv_plain.proofs.EntryPut.{with_put, put-is, inode-other}
use Rattle.sv_plain.proofs.DirectoryPut.{earlier, node-new, directory-new, second-new, counts-new}
use Rattle.sv_plain.proofs.NameEntries.{third-place, inode-cleared, entry-cleared}
use Rattle.sv_plain.proofs.KeepsPromises.{Promises}
use Rattle.sv_plain.proofs.KeepsReferences.{some_item, keeps-one_more, number_within}
use Rattle.sv_plain.proofs.KeepsRemoval.{Nodes}
use Rattle.sv_plain.proofs.KeepsFile.{dead_file, still_some}
use Rattle.sv_plain.proofs.KeepsLinks.{pending-insert, changed-there, file_of, keeps-sub_link}
use Rattle.sv_plain.proofs.KeepsDirectory.{some_node, keeps-directory}
use Rattle.sv_plain.proofs.KeepsWhole.{passes, found, found_in, place-of, live-of, child-there}

-- ---- one entry of a directory changes

pub some_bytes : (fs : Fs) → IsWhole fs → 1 ≤ fs.block
some_bytes fs w = (let s = w.sized.some in omega (arith, s))

module _ (fs : Fs) (d : ℕ) (node : Node) (j x y : ℕ) (ys : List ℕ) (w : IsWhole fs) (there : map.get fs.nodes d ≡ Some node) (live : is_live node ≡ true)
    (len : length ys ≡ 14) (third : 2 ≤ j) (within : j ≤ entry_count node) (fits : 16 * j + 16 ≤ fs.greatest) where
  abbrev with : ℕ → Node
  with links = with_put fs.block node j (x ∷ y ∷ ys) links

  abbrev new : Node
  new = with node.links

  -- what holds of all numbers of nodes, and of the inode that was entered, holds of the inode in each entry
  pub named-with : (links : ℕ) (Q : ℕ → Type 0) → (entry_inode fs.block (with links) j ≢ 0 → Q (entry_inode fs.block (with links) j)) → ((i : ℕ) → IsSome (map.get fs.nodes i) → Q i)
      → (k : ℕ) → k < entry_count (with links) → entry_inode fs.block (with links) k ≢ 0 → Q (entry_inode fs.block (with links) k)
  named-with links Q here of_nodes k low some =
      let block_some = some_bytes fs w in
      let dir = w.directories d node there live in
      elim (cases_eq k j) [
        | inl is ↦ subst (λ (l : ℕ). entry_inode fs.block (with links) l ≢ 0 → Q (entry_inode fs.block (with links) l)) (sym is) here some
        | inr ne ↦
            (let same = inode-other fs.block node j x y ys links block_some w.sized.entries len k ne in
            subst Q (sym same)
            (of_nodes (entry_inode fs.block node k) (w.named d node there live k (earlier fs.block fs.greatest fs.inodes d node j x y ys links block_some w.sized.entries len (w.nodes d node there) dir third within k ne low) (λ s. some (same ∙ s)))))
      ]

  pub keeps-put : (pending promises : Promises) → IsEntryAt fs.block new j
      → ((k : ℕ) → k ≢ j → k < entry_count node → entry_inode fs.block node k ≢ 0 → entry_inode fs.block new j ≢ 0 → entry_name fs.block node k ≢ entry_name fs.block new j)
      → (entry_inode fs.block new j ≢ 0 → IsSome (map.get fs.nodes (entry_inode fs.block new j)))
      → ((i : ℕ) (z : Node) → map.get fs.nodes i ≡ Some z → is_live z ≡ true → (one_if (entry_inode fs.block node j == i) ≡ 0) × (one_if (entry_inode fs.block new j == i) ≡ 0))
      → ((i : ℕ) → i ≢ 0 → pending_on pending i + one_if (entry_inode fs.block new j == i) ≡ pending_on fs.pending i + one_if (entry_inode fs.block node j == i))
      → ((p i : ℕ) → map.get pending p ≡ Some i → (x : Node) × (map.get fs.nodes i ≡ Some x) × (x.kind ≡ File))
      → used_by_all fs.block (map.insert fs.nodes d new) + promised promises ≤ fs.data_blocks
      → IsWhole (record fs { nodes = map.insert fs.nodes d new; pending = pending; promises = promises })
  keeps-put pending promises here apart named no_directory pended on_files blocks =
      let block_some = some_bytes fs w in
      let n = w.nodes d node there in
      let dir = w.directories d node there live in
      keeps-directory fs d node new (entry_inode fs.block node j) (entry_inode fs.block new j) pending promises w there live
      (record {
        kind = refl;
        links = refl;
        node = node-new fs.block fs.greatest fs.inodes d node j x y ys node.links block_some w.sized.entries len n dir third within fits;
        directory = directory-new fs.block fs.greatest fs.inodes d node j x y ys node.links block_some w.sized.entries len n dir third within here apart;
        named = named-with node.links (λ i. IsSome (map.get fs.nodes i)) named (λ i some. some);
        second = second-new fs.block fs.greatest fs.inodes d node j x y ys node.links block_some w.sized.entries len n dir third within;
        counts = counts-new fs.block fs.greatest fs.inodes d node j x y ys node.links block_some w.sized.entries len n dir third within;
        no_directory = no_directory;
        pended = pended;
        on_files = on_files;
        blocks = blocks;
      })

  -- an entry below the size lies in a page that is there
  pub used-below : (links : ℕ) → j < entry_count node → used fs.block (with links) ≡ used fs.block node
  used-below links low =
      let page : ℕ = 16 * j / fs.block in
      let below : page * fs.block ≤ 16 * j = div-mul-le_self (16 * j) fs.block in
      used-written fs.block node (with links) page _ refl ((w.directories d node there live).present page (omega (arith, below, low)))

-- ---- a process without a pending link

beyond : {X : Type 0} → List (ℕ × X) → ℕ
beyond [] = 0
beyond (e ∷ es) = max (suc e.0) (beyond es)

none_beyond : {X : Type 0} (q : ℕ) (es : List (ℕ × X)) → beyond es ≤ q → find nat_cmp q es ≡ None
unfolding beyond
none_beyond q [] h = refl
none_beyond q (e ∷ es) h =
    let ne : q ≢ e.0 = (λ s. absurd (omega (arith, s, h))) in
    ap (λ b. cond b (Some e.1) (find nat_cmp q es)) (differs q e.0 ne) ∙ none_beyond q es (omega (arith, h))

pub unused : (m : Promises) → (q : ℕ) × (map.get m q ≡ None)
unused m = let q : ℕ = beyond (map.entries m) in (q, map.get-entries m q ∙ none_beyond q (map.entries m) (omega arith))

-- ---- Unlink

-- a directory with links is another inode than a node that is no directory
pub no_directory_at : (fs : Fs) (i : ℕ) (x : Node) → map.get fs.nodes i ≡ Some x → x.kind ≡ File → (k : ℕ) (z : Node) → map.get fs.nodes k ≡ Some z → is_live z ≡ true → one_if (i == k) ≡ 0
no_directory_at fs i x there file k z e live =
    apart i k
    (λ s. (let it : z ≡ x = some_node z x (sym e ∙ ap (map.get fs.nodes) s ∙ there) in
    false≢true (sym (dead_file x file) ∙ ap is_live (sym it) ∙ live)))

pub get_at : (m : Promises) (q i : ℕ) → map.get (map.insert m q i) q ≡ Some i
get_at m q i = map.get-insert nat_cmp_total m q i q ∙ ap (λ b. cond b (Some i) (map.get m q)) (same_key q)

-- a node stays there where one is changed
some_inserted : (nodes : Nodes) (i j : ℕ) (o : Option Node) → IsSome (map.get nodes j) → IsSome (map.get (insert_some nodes i o) j)
some_inserted nodes i j None there = there
some_inserted nodes i j (Some x) there = still_some nodes i j x there

pub some_changed : (nodes : Nodes) (i j : ℕ) (f : Node → Node) → IsSome (map.get nodes j) → IsSome (map.get (changed nodes i f) j)
some_changed nodes i j f there = some_inserted nodes i j (option_map f (map.get nodes i)) there

-- in two steps: the entry goes, and its link is pending for a process that had none pending; then that link goes
pub unlinked : (fs : Fs) (p d i j : ℕ) (name : List ℕ) (node x : Node) → IsWhole fs → map.get fs.nodes d ≡ Some node → is_live node ≡ true → map.get fs.nodes i ≡ Some x → x.kind ≡ File
    → place_of fs.block node name ≡ Some j → entry_inode fs.block node j ≡ i → is_dots name ≡ false → is_full_for fs i ≡ false
    → IsWhole (unlink_change fs p d name (Removed i))
unlinked fs p d i j name node x w there live it file place names no_dots room =
    let at = place-of fs.block node name j place in
    let dir = w.directories d node there live in
    let n = w.nodes d node there in
    let some = some_bytes fs w in
    let third = third-place fs.block d node name j dir at.1 no_dots in
    let within : j ≤ entry_count node = omega (arith, at.0) in
    let bytes : List ℕ = 0 ∷ 0 ∷ replicate 14 0 in
    let new : Node = with_put fs.block node j bytes node.links in
    let made : without_entry fs.block name node ≡ new = ap (λ o. put fs.block node (16 * unwrap_or o 0) (replicate 16 0)) place ∙ put-is fs.block node j bytes w.sized.entries refl in
    let cleared = inode-cleared fs.block node j node.links some w.sized.entries in
    let free = unused fs.pending in
    let q : ℕ = free.0 in
    let none : (k : ℕ) → at_or_0 (λ (l : ℕ). one_if (l == k)) (map.get fs.pending q) ≡ 0 = λ k. ap (at_or_0 (λ (l : ℕ). one_if (l == k))) free.1 in
    let one : Fs = record fs { nodes = map.insert fs.nodes d new; pending = map.insert fs.pending q i } in
    let whole_one : IsWhole one =
    keeps-put fs d node j 0 0 (replicate 14 0) w there live refl third within (omega (arith, n.size, at.0)) (map.insert fs.pending q i) fs.promises
    (entry-cleared fs.block node j node.links some w.sized.entries)
    (λ k ne low some_k some_j. absurd (some_j cleared))
    (λ some_j. absurd (some_j cleared))
    (λ k z e is. (
      ap (λ c. one_if (c == k)) names ∙ no_directory_at fs i x it file k z e is,
      ap (λ c. one_if (c == k)) cleared ∙ apart 0 k (let least = (w.nodes k z e).least in (λ s. absurd (omega (arith, s, least)))),
    ))
    (λ k some_k.
    (let old : one_if (entry_inode fs.block node j == k) ≡ one_if (i == k) = ap (λ c. one_if (c == k)) names in
    let now : one_if (entry_inode fs.block new j == k) ≡ 0 = ap (λ c. one_if (c == k)) cleared ∙ apart 0 k some_k in
    omega (arith, old, now, pending-insert fs.pending q i k, none k)))
    (λ r k e. elim (got nat_cmp_total nat_cmp-IsAntisymmetric fs.pending q i r k e) [
      | inl h ↦ (x, ap (map.get fs.nodes) h.1 ∙ it, file)
      | inr h ↦ w.pending r k h
    ])
    (let same = used-below fs d node j 0 0 (replicate 14 0) w there live refl third within (omega (arith, n.size, at.0)) node.links at.0 in
    let before : at_or_0 (used fs.block) (map.get fs.nodes d) ≡ used fs.block node = ap (at_or_0 (used fs.block)) there in
    omega (arith, w.blocks, used_by_all-insert fs.block fs.nodes d new, same, before)) in
    let mine : some_and (map.get one.pending q) (λ l. l == i) ≡ true = ap (λ o. some_and o (λ l. l == i)) (get_at fs.pending q i) ∙ eq-eqb i i refl in
    let back : map.remove one.pending q ≡ fs.pending = remove-insert nat_cmp_total nat_cmp-IsAntisymmetric fs.pending q i free.1 in
    let whole_two : IsWhole (record fs { nodes = changed (map.insert fs.nodes d new) i (with_links (λ links. links - 1)) }) =
    subst (λ (m : Promises). IsWhole (record fs { nodes = changed (map.insert fs.nodes d new) i (with_links (λ links. links - 1)); pending = m })) back
    (keeps-sub_link one q i Lowered whole_one mine) in
    let nodes : map.insert fs.nodes d new ≡ changed fs.nodes d (without_entry fs.block name) =
    ap (map.insert fs.nodes d) (sym made) ∙ changed-there fs.nodes d (without_entry fs.block name) node there in
    let whole_three : IsWhole (record fs { nodes = changed (changed fs.nodes d (without_entry fs.block name)) i (with_links (λ links. links - 1)) }) =
    subst (λ (m : Nodes). IsWhole (record fs { nodes = changed m i (with_links (λ links. links - 1)) })) nodes whole_two in
    let two : Fs = record fs { nodes = changed (changed fs.nodes d (without_entry fs.block name)) i (with_links (λ links. links - 1)) } in
    let still : IsSome (map.get two.nodes i) = some_changed (changed fs.nodes d (without_entry fs.block name)) i i (with_links (λ links. links - 1)) (some_changed fs.nodes d i (without_entry fs.block name) (subst IsSome (sym it) refl)) in
    keeps-one_more two p i whole_three still (number_within fs i w (subst IsSome (sym it) refl)) room

-- what a name that passes a test leads to: the directory, its entry, and the node
pub record HasChild (fs : Fs) (d i : ℕ) (name : List ℕ) (test : ℕ → Bool) : Type 0 where
  pub node : Node
  pub there : map.get fs.nodes d ≡ Some node
  pub live : is_live node ≡ true
  pub j : ℕ
  pub place : place_of fs.block node name ≡ Some j
  pub names : entry_inode fs.block node j ≡ i
  pub x : Node
  pub it : map.get fs.nodes i ≡ Some x
  pub passed : test i ≡ true

pub child-of : (fs : Fs) (d i : ℕ) (name : List ℕ) (test : ℕ → Bool) → IsWhole fs → child_passes fs d name (λ c. (c == i) && test c) ≡ true → HasChild fs d i name test
child-of fs d i name test w right =
    let opened = and_left (is_open_to_names fs d) (some_and (child fs d name) (λ c. (c == i) && test c)) right in
    let c = passes (child fs d name) (λ c. (c == i) && test c) (and_right (is_open_to_names fs d) _ right) in
    let is : c.0 ≡ i = eqb-true c.0 i (and_left (c.0 == i) (test c.0) c.2) in
    let dir = found_in (λ node. child_of fs.block node name) (map.get fs.nodes d) c.0 c.1 in
    let place = found (entry_inode fs.block dir.0) (place_of fs.block dir.0 name) c.0 dir.2 in
    let x = some_item (map.get fs.nodes i) (child-there fs d name i w opened (c.1 ∙ ap Some is)) in
    record {
      node = dir.0;
      there = dir.1;
      live = live-of fs d dir.0 dir.1 opened;
      j = place.0;
      place = place.1;
      names = place.2 ∙ is;
      x = x.0;
      it = x.1;
      passed = ap test (sym is) ∙ and_right (c.0 == i) (test c.0) c.2;
    }

pub keeps-unlink : (fs : Fs) (p d : ℕ) (name : List ℕ) (reply : Reply) → IsWhole fs → is_dots name ≡ false → unlink_replies fs d name reply ≡ true → IsWhole (unlink_change fs p d name reply)
keeps-unlink fs p d name (Removed i) w no_dots right =
    let c = child-of fs d i name (λ c. not (is_full_for fs c) && not (is_directory fs c)) w right in
    let room = not_true (is_full_for fs i) (and_left (not (is_full_for fs i)) (not (is_directory fs i)) c.passed) in
    let plain = not_true (is_directory fs i) (and_right (not (is_full_for fs i)) (not (is_directory fs i)) c.passed) in
    unlinked fs p d i c.j name c.node c.x w c.there c.live c.it (file_of fs i c.x c.it plain) c.place c.names no_dots room
keeps-unlink fs p d name _ w no_dots right = w
