-- A file system stays whole by each step of Rmdir.
use Rattle.std.proofs.Common.{◌≡◌, ◌≢◌, ◌≤◌, ◌<◌, ℕ, ◌+◌, ◌-◌, ◌*◌, ◌==◌, inl, inr, Bool, true, false, not, ◌&&◌, List, ◌∷◌, replicate, Some, IsSome, unwrap_or, sym, refl, ap, subst, ◌∙◌, arith}
use Rattle.std.proofs.lemmas.Bool.{ne_eqb, cases_eq}
use Rattle.std.proofs.lemmas.Bool.Decides.{nat_tests}
use Rattle.std.specs.List.{range_with_len, count_by}
use Rattle.std.specs.FinMap as map
use Rattle.sv_form.specs.Node.{Node, is_dir, entry_count, entry_inode, used}
use Rattle.sv_plain.specs.declared.history.reply.Reply.{Reply}
use Rattle.sv_plain.specs.declared.history.reply.Reply.TheVariants.{Removed}
use Rattle.sv_plain.specs.Totals.{at_or_0, one_if}
use Rattle.sv_plain.specs.Fs.{Fs, changed, is_live, is_full_for, naming_count, namings}
use Rattle.sv_plain.specs.Whole.{IsWhole}
use Rattle.sv_plain.specs.Names.{some_and, place_of, has_more, is_directory, links_of}
use Rattle.sv_form.specs.NodeChanges.{put}
use Rattle.sv_plain.specs.Change.{without_entry, with_links}
use Rattle.sv_plain.specs.Step.{is_dots, is_in_use, rmdir_replies, rmdir_change}
use Rattle.sv_plain.proofs.Got.{and_left, and_right, not_true}
use Rattle.sv_plain.proofs.Counts.{count_alike, count_none, count_some}
use Rattle.sv_plain.proofs.Holders.{apart, itself}
use Rattle.sv_plain.proofs.Used.{used_by_all-insert}
use Rattle.sv_plain.proofs.EntryPut.{with_put, put-is}
use Rattle.sv_plain.proofs.DirectoryPut.{node-new, directory-new, second-new, counts-new}
use Rattle.sv_plain.proofs.NameEntries.{third-place, inode-cleared, entry-cleared}
use Rattle.sv_plain.proofs.KeepsReferences.{keeps-one_more, number_within}
use Rattle.sv_plain.proofs.KeepsRemoval.{Nodes, naming-some}
use Rattle.sv_plain.proofs.KeepsFile.{get_other}
use Rattle.sv_plain.proofs.KeepsLinks.{used-links, changed-there}
use Rattle.sv_plain.proofs.KeepsWhole.{place-of}
use Rattle.sv_plain.proofs.KeepsNames.{some_bytes, named-with, used-below, HasChild, child-of, some_changed}
use Rattle.sv_plain.proofs.KeepsDirectory.{some_node}
use Rattle.sv_plain.proofs.KeepsPruned.{IsPruned, keeps-pruned, live as pruned-live}
use Rattle.sv_plain.proofs.TwoNodes.{live_links, some_links}

-- ---- a directory without a further entry

nothing_counted : (n : ℕ) → not (n == 0) ≡ false → n ≡ 0
nothing_counted n e = grind (arith, nat_tests)

no_more : (block : ℕ) (x : Node) → has_more block x ≡ false → (j : ℕ) → 2 ≤ j → j < entry_count x → entry_inode block x j ≡ 0
unfolding has_more
no_more block x empty j third low =
    let p : ℕ → Bool = λ k. not (entry_inode block x k == 0) in
    let none = nothing_counted (count_by p (range_with_len 2 (entry_count x - 2))) empty in
    elim (cases_eq (entry_inode block x j) 0) [
      | inl is ↦ is
      | inr ne ↦ absurd (let one = count_some p j 2 (entry_count x - 2) third (omega (arith, third, low)) (ap not (ne_eqb (entry_inode block x j) 0 ne)) in omega (arith, one, none))
    ]

pub childless : (block : ℕ) (x : Node) → has_more block x ≡ false → (k : ℕ) → k ≢ 0 → naming_count block x 2 k ≡ 0
unfolding naming_count
childless block x empty k some =
    let all : List ℕ = range_with_len 2 (entry_count x - 2) in
    let never : count_by (λ j. entry_inode block x j == k) all ≡ count_by (λ _. false) all =
    count_alike (λ j. entry_inode block x j == k) (λ _. false) 2 (entry_count x - 2)
    (λ j low high. ne_eqb (entry_inode block x j) k (λ s. absurd (some (sym s ∙ no_more block x empty j low (omega (arith, low, high)))))) in
    omega (arith, never, count_none (λ _. false) 2 (entry_count x - 2) (λ _. refl))

-- ---- the removal

module _ (fs : Fs) (d i j : ℕ) (name : List ℕ) (node x : Node) (w : IsWhole fs) (there : map.get fs.nodes d ≡ Some node) (live : is_live node ≡ true) (it : map.get fs.nodes i ≡ Some x)
    (dir_it : is_dir x.kind ≡ true) (empty : has_more fs.block x ≡ false) (place : place_of fs.block node name ≡ Some j) (names : entry_inode fs.block node j ≡ i) (no_dots : is_dots name ≡ false) where
  abbrev links : ℕ
  links = node.links - 1

  abbrev new : Node
  new = with_put fs.block node j (0 ∷ 0 ∷ replicate 14 0) links

  abbrev y : Node
  y = with_links (λ _. 0) x

  within : j < entry_count node
  within = (place-of fs.block node name j place).0

  third : 2 ≤ j
  third = third-place fs.block d node name j (w.directories d node there live) (place-of fs.block node name j place).1 no_dots

  cleared : entry_inode fs.block new j ≡ 0
  cleared = inode-cleared fs.block node j links (some_bytes fs w) w.sized.entries

  at_most : j ≤ entry_count node
  at_most = omega (arith, within)

  fits : 16 * j + 16 ≤ fs.greatest
  fits = (let size = (w.nodes d node there).size in omega (arith, size, within))

  used-new : used fs.block new ≡ used fs.block node
  used-new = used-below fs d node j 0 0 (replicate 14 0) w there live refl third at_most fits links within

  -- the directory that goes has links, since it is named
  it_live : is_live x ≡ true
  it_live =
      let one = naming-some fs.block fs.nodes d node j there live within in
      let same = ap (λ k. namings fs.block fs.nodes k) names in
      let here : namings fs.block fs.nodes (entry_inode fs.block node j) ≡ namings fs.block fs.nodes i = same in
      let before = (w.links i x it).1 in
      live_links (is_dir x.kind) x.links dir_it (omega (arith, one, here, before))

  counts : (first k : ℕ) → first ≤ 2 → k ≢ 0 → naming_count fs.block new first k + one_if (i == k) ≡ naming_count fs.block node first k
  counts first k early some =
      let changed = counts-new fs.block fs.greatest fs.inodes d node j 0 0 (replicate 14 0) links (some_bytes fs w) w.sized.entries refl (w.nodes d node there) (w.directories d node there live) third at_most first k early some in
      let old : one_if (entry_inode fs.block node j == k) ≡ one_if (i == k) = ap (λ c. one_if (c == k)) names in
      let now : one_if (entry_inode fs.block new j == k) ≡ 0 = ap (λ c. one_if (c == k)) cleared ∙ apart 0 k some in
      omega (arith, changed, old, now)

  -- the directory that goes is not the one that names it, which has a further entry
  pub other : d ≢ i
  other s =
      let same : node ≡ x = some_node node x (sym there ∙ ap (map.get fs.nodes) s ∙ it) in
      let some : i ≢ 0 = (let least = (w.nodes i x it).least in (λ z. absurd (omega (arith, z, least)))) in
      let none : naming_count fs.block node 2 i ≡ 0 = ap (λ n. naming_count fs.block n 2 i) same ∙ childless fs.block x empty i some in
      absurd (omega (arith, counts 2 i (omega arith) some, itself i, none))

  pruned : IsPruned fs d i node new x y
  pruned =
      let n = w.nodes d node there in
      let dir = w.directories d node there live in
      let some = some_bytes fs w in
      let before = w.nodes i x it in
      record {
        apart = other;
        there = there;
        was_live = live;
        it = it;
        it_live = it_live;
        kind = refl;
        links = (let one = some_links (is_dir node.kind) node.links live in omega (arith, one));
        node = node-new fs.block fs.greatest fs.inodes d node j 0 0 (replicate 14 0) links some w.sized.entries refl n dir third at_most fits;
        directory = directory-new fs.block fs.greatest fs.inodes d node j 0 0 (replicate 14 0) links some w.sized.entries refl n dir third at_most
            (entry-cleared fs.block node j links some w.sized.entries)
            (λ k ne low some_k some_j. absurd (some_j cleared));
        named = named-with fs d node j 0 0 (replicate 14 0) w there live refl third at_most fits links (λ k. IsSome (map.get fs.nodes k)) (λ some_j. absurd (some_j cleared)) (λ k is. is);
        second = second-new fs.block fs.greatest fs.inodes d node j 0 0 (replicate 14 0) links some w.sized.entries refl n dir third at_most;
        counts = counts;
        its_kind = refl;
        its_links = refl;
        its_node = record { least = before.least; most = before.most; mode = before.mode; size = before.size; pages = before.pages };
        childless = childless fs.block x empty;
        blocks =
            (let first = used_by_all-insert fs.block fs.nodes d new in
            let second = used_by_all-insert fs.block (map.insert fs.nodes d new) i y in
            let old : at_or_0 (used fs.block) (map.get fs.nodes d) ≡ used fs.block node = ap (at_or_0 (used fs.block)) there in
            let old_it : at_or_0 (used fs.block) (map.get (map.insert fs.nodes d new) i) ≡ used fs.block x = ap (at_or_0 (used fs.block)) (get_other fs.nodes d i new (λ s. other (sym s)) ∙ it) in
            omega (arith, w.blocks, first, second, old, old_it, used-new, used-links fs.block (λ _. 0) x));
      }

  -- the directory above keeps a link
  pub two_links : 2 ≤ node.links
  two_links = (let one = some_links (is_dir new.kind) new.links (pruned-live fs d i node new x y w pruned) in omega (arith, one))

  pub removed : (p : ℕ) → is_full_for fs i ≡ false → IsWhole (rmdir_change fs p d name (Removed i))
  removed p room =
      let f : Node → Node = λ node. with_links (λ links. links - 1) (without_entry fs.block name node) in
      let made : f node ≡ new =
      ap (λ o. with_links (λ links. links - 1) (put fs.block node (16 * unwrap_or o 0) (replicate 16 0))) place
      ∙ ap (with_links (λ links. links - 1)) (put-is fs.block node j (0 ∷ 0 ∷ replicate 14 0) w.sized.entries refl) in
      let first : map.insert fs.nodes d new ≡ changed fs.nodes d f = ap (map.insert fs.nodes d) (sym made) ∙ changed-there fs.nodes d f node there in
      let second : map.insert (map.insert fs.nodes d new) i y ≡ changed (map.insert fs.nodes d new) i (with_links (λ _. 0)) =
      changed-there (map.insert fs.nodes d new) i (with_links (λ _. 0)) x (get_other fs.nodes d i new (λ s. other (sym s)) ∙ it) in
      let nodes : map.insert (map.insert fs.nodes d new) i y ≡ changed (changed fs.nodes d f) i (with_links (λ _. 0)) = second ∙ ap (λ m. changed m i (with_links (λ _. 0))) first in
      let one : Fs = record fs { nodes = changed (changed fs.nodes d f) i (with_links (λ _. 0)) } in
      let whole_one : IsWhole one = subst (λ (m : Nodes). IsWhole (record fs { nodes = m })) nodes (keeps-pruned fs d i node new x y w pruned) in
      let is : IsSome (map.get fs.nodes i) = subst IsSome (sym it) refl in
      keeps-one_more one p i whole_one (some_changed (changed fs.nodes d f) i i (with_links (λ _. 0)) (some_changed fs.nodes d i f is)) (number_within fs i w is) room

-- what a name leads to that may be removed as a directory
module _ (fs : Fs) (d i : ℕ) (name : List ℕ) (w : IsWhole fs) (no_dots : is_dots name ≡ false) (right : rmdir_replies fs d name (Removed i) ≡ true) where
  c : HasChild fs d i name (λ c. not (is_full_for fs c) && (is_directory fs c && not (is_in_use fs c)))
  c = child-of fs d i name (λ c. not (is_full_for fs c) && (is_directory fs c && not (is_in_use fs c))) w right

  room : is_full_for fs i ≡ false
  room = not_true (is_full_for fs i) (and_left (not (is_full_for fs i)) (is_directory fs i && not (is_in_use fs i)) c.passed)

  kind : (is_directory fs i && not (is_in_use fs i)) ≡ true
  kind = and_right (not (is_full_for fs i)) (is_directory fs i && not (is_in_use fs i)) c.passed

  dir : is_dir c.x.kind ≡ true
  dir = ap (λ o. some_and o (λ (n : Node). is_dir n.kind)) (sym c.it) ∙ and_left (is_directory fs i) (not (is_in_use fs i)) kind

  empty : has_more fs.block c.x ≡ false
  empty = ap (λ o. some_and o (has_more fs.block)) (sym c.it) ∙ not_true (is_in_use fs i) (and_right (is_directory fs i) (not (is_in_use fs i)) kind)

  pub rmdir-apart : d ≢ i
  rmdir-apart = other fs d i c.j name c.node c.x w c.there c.live c.it dir empty c.place c.names no_dots

  pub rmdir-links : 2 ≤ links_of fs d
  rmdir-links =
      let two = two_links fs d i c.j name c.node c.x w c.there c.live c.it dir empty c.place c.names no_dots in
      let is : links_of fs d ≡ c.node.links = ap (at_or_0 (λ (n : Node). n.links)) c.there in
      omega (arith, two, is)

  keeps-removed : (p : ℕ) → IsWhole (rmdir_change fs p d name (Removed i))
  keeps-removed p = removed fs d i c.j name c.node c.x w c.there c.live c.it dir empty c.place c.names no_dots p room

pub keeps-rmdir : (fs : Fs) (p d : ℕ) (name : List ℕ) (reply : Reply) → IsWhole fs → is_dots name ≡ false → rmdir_replies fs d name reply ≡ true → IsWhole (rmdir_change fs p d name reply)
keeps-rmdir fs p d name (Removed i) w no_dots right = keeps-removed fs d i name w no_dots right p
keeps-rmdir fs p d name _ w no_dots right = w
