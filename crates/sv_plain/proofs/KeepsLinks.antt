-- A file system stays whole where a regular file gains or loses a pending link, or its bytes.
use Rattle.std.proofs.Common.{◌≡◌, ◌≤◌, ℕ, ◌+◌, ◌-◌, ◌==◌, inl, inr, true, false, not, ◌&&◌, Option, Some, None, is_some, option_map, sym, refl, ap, subst, ◌∙◌, arith}
use Rattle.std.proofs.lemmas.Bool.{false≢true, eqb-true}
use Rattle.std.proofs.lemmas.Bool.Decides.{nat_tests}
use Rattle.std.specs.Ordering.{nat_cmp}
use Rattle.std.specs.Cmp.{nat_cmp_total}
use Rattle.std.specs.FinMap as map
use Rattle.std.specs.FinMap.{nat_cmp-IsAntisymmetric}
use Rattle.sv_form.specs.declared.kind.Kind.{Kind}
use Rattle.sv_form.specs.declared.kind.Kind.TheVariants.{File, Dir}
use Rattle.sv_form.specs.Node.{Node, is_dir, used}
use Rattle.sv_plain.specs.declared.history.reply.Reply.{Reply}
use Rattle.sv_plain.specs.declared.history.reply.Reply.TheVariants.{Raised, Lowered, Done}
use Rattle.sv_plain.specs.Totals.{at_or_0, one_if}
use Rattle.sv_plain.specs.Fs.{Fs, used_by_all, changed, insert_some, pending_on}
use Rattle.sv_plain.specs.Whole.{IsWhole, IsNode}
use Rattle.sv_plain.specs.Names.{some_and, is_directory, links_of, has_reference, is_pending}
use Rattle.sv_form.specs.NodeChanges.{emptied}
use Rattle.sv_plain.specs.Change.{with_links}
use Rattle.sv_plain.specs.Step.{add_link_replies, add_link_change, sub_link_change, trunc_replies, trunc_change}
use Rattle.sv_plain.proofs.Got.{and_left, and_right, not_true, got, left}
use Rattle.sv_plain.proofs.Totals.{total-insert, total-remove}
use Rattle.sv_plain.proofs.Holders.{apart, itself}
use Rattle.sv_plain.proofs.Used.{used-none, used_by_all-insert}
use Rattle.sv_plain.proofs.KeepsPromises.{Promises}
use Rattle.sv_plain.proofs.KeepsReferences.{held, some_item}
use Rattle.sv_plain.proofs.KeepsRemoval.{Nodes}
use Rattle.sv_plain.proofs.KeepsFile.{keeps-file}

-- ---- pending links

pub pending-insert : (pending : Promises) (p i j : ℕ) → pending_on (map.insert pending p i) j + at_or_0 (λ k. one_if (k == j)) (map.get pending p) ≡ pending_on pending j + one_if (i == j)
unfolding pending_on
pending-insert pending p i j = total-insert nat_cmp_total nat_cmp-IsAntisymmetric (λ (_ : ℕ) (k : ℕ). one_if (k == j)) pending p i

pub pending-remove : (pending : Promises) (p j : ℕ) → pending_on (map.remove pending p) j + at_or_0 (λ k. one_if (k == j)) (map.get pending p) ≡ pending_on pending j
unfolding pending_on
pending-remove pending p j = total-remove nat_cmp_total nat_cmp-IsAntisymmetric (λ (_ : ℕ) (k : ℕ). one_if (k == j)) pending p

pub no_item : {A : Type 0} (o : Option A) → is_some o ≡ false → o ≡ None
no_item None e = refl
no_item (Some x) e = cc

-- ---- a node with other links

file_kind : (k : Kind) → is_dir k ≡ false → k ≡ File
file_kind File e = refl
file_kind Dir e = cc

pub used-links : (block : ℕ) (f : ℕ → ℕ) (node : Node) → used block (with_links f node) ≡ used block node
unfolding used
used-links block f node = refl

-- the blocks that all nodes use stay as they are
used-same : (block : ℕ) (nodes : Nodes) (i : ℕ) (f : ℕ → ℕ) (node : Node) → map.get nodes i ≡ Some node → used_by_all block (map.insert nodes i (with_links f node)) ≡ used_by_all block nodes
used-same block nodes i f node there =
    let before : at_or_0 (used block) (map.get nodes i) ≡ used block node = ap (at_or_0 (used block)) there in
    omega (arith, used_by_all-insert block nodes i (with_links f node), before, used-links block f node)

linked_node : (block greatest inodes i : ℕ) (f : ℕ → ℕ) (node : Node) → IsNode block greatest inodes i node → IsNode block greatest inodes i (with_links f node)
linked_node block greatest inodes i f node h = record { least = h.least; most = h.most; mode = h.mode; size = h.size; pages = h.pages }

-- what is there is changed
pub changed-there : (nodes : Nodes) (i : ℕ) (f : Node → Node) (node : Node) → map.get nodes i ≡ Some node → map.insert nodes i (f node) ≡ changed nodes i f
changed-there nodes i f node there = ap (λ o. insert_some nodes i (option_map f o)) (sym there)

fewer_links : (n : ℕ) → not (n == 1000) ≡ true → n ≤ 1000 → n + 1 ≤ 1000
fewer_links n e h = grind (arith, nat_tests)

-- the node of an inode to which a process has a reference
pub referred : (fs : Fs) (p i : ℕ) → IsWhole fs → has_reference fs p i ≡ true → (node : Node) × (map.get fs.nodes i ≡ Some node)
referred fs p i w has =
    let one = held (map.get fs.references (p, i)) has in
    some_item (map.get fs.nodes i) (w.references p i one.0 one.1).1

pub file_of : (fs : Fs) (i : ℕ) (node : Node) → map.get fs.nodes i ≡ Some node → is_directory fs i ≡ false → node.kind ≡ File
file_of fs i node there plain = file_kind node.kind (ap (λ o. some_and o (λ (n : Node). is_dir n.kind)) (sym there) ∙ plain)

-- ---- AddLink

pub keeps-add_link : (fs : Fs) (p i : ℕ) (reply : Reply) → IsWhole fs → has_reference fs p i ≡ true → not (map.contains_key fs.pending p) ≡ true → add_link_replies fs i reply ≡ true → IsWhole (add_link_change fs p i reply)
keeps-add_link fs p i Raised w has free right =
    let node = referred fs p i w has in
    let file = file_of fs i node.0 node.1 (not_true (is_directory fs i) (and_left (not (is_directory fs i)) (not (links_of fs i == 0) && not (links_of fs i == 1000)) right)) in
    let links : links_of fs i ≡ node.0.links = ap (at_or_0 (λ (n : Node). n.links)) node.1 in
    let before = w.links i node.0 node.1 in
    let few = fewer_links (links_of fs i) (and_right (not (links_of fs i == 0)) (not (links_of fs i == 1000)) (and_right (not (is_directory fs i)) (not (links_of fs i == 0) && not (links_of fs i == 1000)) right)) (omega (arith, links, before.0)) in
    let none : (j : ℕ) → at_or_0 (λ (k : ℕ). one_if (k == j)) (map.get fs.pending p) ≡ 0 = λ j. ap (at_or_0 (λ (k : ℕ). one_if (k == j))) (no_item (map.get fs.pending p) (not_true (map.contains_key fs.pending p) free)) in
    subst (λ (m : Nodes). IsWhole (record fs { nodes = m; pending = map.insert fs.pending p i }))
    (changed-there fs.nodes i (with_links (λ n. n + 1)) node.0 node.1)
    (keeps-file fs i node.0 (with_links (λ n. n + 1) node.0) (map.insert fs.pending p i) fs.promises w node.1 file
    (record {
      file = file;
      node = linked_node fs.block fs.greatest fs.inodes i (λ n. n + 1) node.0 (w.nodes i node.0 node.1);
      few = omega (arith, few, links);
      links = omega (arith, before.1, pending-insert fs.pending p i i, none i, itself i);
      others = λ j ne. omega (arith, pending-insert fs.pending p i j, none j, apart i j ne);
      on = λ q j e. elim (got nat_cmp_total nat_cmp-IsAntisymmetric fs.pending p i q j e) [ inl h ↦ inl h.1 | inr h ↦ inr h ];
      blocks = omega (arith, w.blocks, used-same fs.block fs.nodes i (λ n. n + 1) node.0 node.1);
    }))
keeps-add_link fs p i _ w has free right = w

-- ---- SubLink

pub pending_is : (o : Option ℕ) (i : ℕ) → some_and o (λ k. k == i) ≡ true → o ≡ Some i
pending_is None i e = absurd (false≢true e)
pending_is (Some k) i e = ap Some (eqb-true k i e)

pub keeps-sub_link : (fs : Fs) (p i : ℕ) (reply : Reply) → IsWhole fs → is_pending fs p i ≡ true → IsWhole (sub_link_change fs p i reply)
keeps-sub_link fs p i Lowered w mine =
    let on = pending_is (map.get fs.pending p) i mine in
    let node = w.pending p i on in
    let before = w.links i node.0 node.1 in
    let gone : (j : ℕ) → at_or_0 (λ (k : ℕ). one_if (k == j)) (map.get fs.pending p) ≡ one_if (i == j) = λ j. ap (at_or_0 (λ (k : ℕ). one_if (k == j))) on in
    subst (λ (m : Nodes). IsWhole (record fs { nodes = m; pending = map.remove fs.pending p }))
    (changed-there fs.nodes i (with_links (λ n. n - 1)) node.0 node.1)
    (keeps-file fs i node.0 (with_links (λ n. n - 1) node.0) (map.remove fs.pending p) fs.promises w node.1 node.2
    (record {
      file = node.2;
      node = linked_node fs.block fs.greatest fs.inodes i (λ n. n - 1) node.0 (w.nodes i node.0 node.1);
      few = omega (arith, before.0);
      links = omega (arith, before.1, pending-remove fs.pending p i, gone i, itself i);
      others = λ j ne. omega (arith, pending-remove fs.pending p j, gone j, apart i j ne);
      on = λ q j e. inr (left nat_cmp_total nat_cmp-IsAntisymmetric fs.pending p q j e);
      blocks = omega (arith, w.blocks, used-same fs.block fs.nodes i (λ n. n - 1) node.0 node.1);
    }))
keeps-sub_link fs p i _ w mine = w

-- ---- Trunc

no_pages : (block greatest inodes i : ℕ) (node : Node) → IsNode block greatest inodes i node → IsNode block greatest inodes i (emptied node)
no_pages block greatest inodes i node h = record {
  least = h.least;
  most = h.most;
  mode = h.mode;
  size = omega arith;
  pages = λ k bytes e. (let none : None ≡ Some bytes = sym (map.get-empty nat_cmp k) ∙ e in cc);
}

pub keeps-trunc : (fs : Fs) (p i : ℕ) (reply : Reply) → IsWhole fs → has_reference fs p i ≡ true → trunc_replies fs i reply ≡ true → IsWhole (trunc_change fs i reply)
keeps-trunc fs p i Done w has right =
    let node = referred fs p i w has in
    let file = file_of fs i node.0 node.1 (not_true (is_directory fs i) right) in
    let before = w.links i node.0 node.1 in
    let none : used fs.block (emptied node.0) ≡ 0 = used-none fs.block (emptied node.0) refl in
    subst (λ (m : Nodes). IsWhole (record fs { nodes = m }))
    (changed-there fs.nodes i emptied node.0 node.1)
    (keeps-file fs i node.0 (emptied node.0) fs.pending fs.promises w node.1 file
    (record {
      file = file;
      node = no_pages fs.block fs.greatest fs.inodes i node.0 (w.nodes i node.0 node.1);
      few = before.0;
      links = before.1;
      others = λ j ne. refl;
      on = λ q j e. inr e;
      blocks = omega (arith, w.blocks, used_by_all-insert fs.block fs.nodes i (emptied node.0), none);
    }))
keeps-trunc fs p i _ w has right = w
