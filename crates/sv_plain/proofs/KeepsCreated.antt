-- A file system stays whole where a regular file is made.
use Rattle.std.proofs.Common.{◌≡◌, ◌≢◌, ◌≤◌, ℕ, ◌*◌, ◌==◌, inl, inr, Bool, true, false, cond, not, ◌&&◌, List, Some, None, IsSome, nat_le, sym, refl, ap, subst, ◌∙◌, arith}
use Rattle.std.proofs.lemmas.Bool.{leb-true}
use Rattle.std.specs.Ordering.{nat_cmp, eq_by_cmp}
use Rattle.std.specs.Cmp.{nat_cmp_total, Equal-is}
use Rattle.std.specs.FinMap as map
use Rattle.std.specs.FinMap.{nat_cmp-IsAntisymmetric}
use Rattle.sv_form.specs.declared.kind.Kind.TheVariants.{File}
use Rattle.sv_form.specs.Name.{IsName}
use Rattle.sv_form.specs.Node.{Node, used}
use Rattle.sv_plain.specs.Totals.{at_or_0, one_if}
use Rattle.sv_plain.specs.Fs.{Fs, changed, is_live, is_referenced, is_full_for, pending_on}
use Rattle.sv_plain.specs.Whole.{IsWhole, IsNode}
use Rattle.sv_plain.specs.Names.{place_of, promise_of, is_table_full}
use Rattle.sv_plain.specs.Needs.{entry_need}
use Rattle.sv_plain.specs.Change.{with_entry, with_links, new_node, one_more, spent}
use Rattle.sv_plain.specs.Step.{is_free, links_made}
use Rattle.sv_plain.proofs.Got.{and_left, and_right, not_true, got}
use Rattle.sv_plain.proofs.Counts.{never}
use Rattle.sv_plain.proofs.Undone.{remove-insert}
use Rattle.sv_plain.proofs.Holders.{apart, itself}
use Rattle.sv_plain.proofs.Used.{used-none, used_by_all-insert}
use Rattle.sv_plain.proofs.KeepsPromises.{Promises}
use Rattle.sv_plain.proofs.KeepsReferences.{keeps-one_more}
use Rattle.sv_plain.proofs.KeepsRemoval.{Nodes}
use Rattle.sv_plain.proofs.KeepsFile.{get_new, get_other}
use Rattle.sv_plain.proofs.KeepsLinks.{pending-insert, changed-there, no_item}
use Rattle.sv_plain.proofs.KeepsNames.{unused, get_at}
use Rattle.sv_plain.proofs.KeepsAdded.{total-zero, not_absent, keeps-added}
use Rattle.sv_plain.proofs.KeepsEntered.{entered}

-- ---- two insertions at different keys

turned : {A : Type 0} (a b : Bool) (x y z : A) → (a ≡ true → b ≡ true → x ≡ y) → cond a x (cond b y z) ≡ cond b y (cond a x z)
turned true true x y z h = h refl refl
turned true false x y z h = refl
turned false b x y z h = refl

pub insert-turned : {X : Type 0} (m : map.FinMap nat_cmp X) (i j : ℕ) (x y : X) → j ≢ i → map.insert (map.insert m i x) j y ≡ map.insert (map.insert m j y) i x
insert-turned m i j x y ne =
    map.same_map nat_cmp_total nat_cmp-IsAntisymmetric _ _
    (λ q. map.get-insert nat_cmp_total (map.insert m i x) j y q
    ∙ ap (cond (eq_by_cmp nat_cmp q j) (Some y)) (map.get-insert nat_cmp_total m i x q)
    ∙ turned (eq_by_cmp nat_cmp q j) (eq_by_cmp nat_cmp q i) (Some y) (Some x) (map.get m q)
    (λ a b. absurd (ne (sym (nat_cmp-IsAntisymmetric q j ((Equal-is (nat_cmp q j)).0 a)) ∙ nat_cmp-IsAntisymmetric q i ((Equal-is (nat_cmp q i)).0 b))))
    ∙ sym (map.get-insert nat_cmp_total (map.insert m j y) i x q ∙ ap (cond (eq_by_cmp nat_cmp q i) (Some x)) (map.get-insert nat_cmp_total m j y q)))

-- ---- a number that is free

pub absent-free : (fs : Fs) (i : ℕ) → is_free fs i ≡ true → (2 ≤ i) × (i ≤ fs.inodes) × (map.get fs.nodes i ≡ None)
absent-free fs i free =
    let rest = and_right (nat_le 2 i) (nat_le i fs.inodes && not (map.contains_key fs.nodes i)) free in (
      leb-true 2 i (and_left (nat_le 2 i) (nat_le i fs.inodes && not (map.contains_key fs.nodes i)) free),
      leb-true i fs.inodes (and_left (nat_le i fs.inodes) (not (map.contains_key fs.nodes i)) rest),
      no_item (map.get fs.nodes i) (not_true (map.contains_key fs.nodes i) (and_right (nat_le i fs.inodes) (not (map.contains_key fs.nodes i)) rest)),
    )

-- no link is pending on a number that is no regular file's
pub none-pending : (fs : Fs) (i : ℕ) → ((p : ℕ) → map.get fs.pending p ≡ Some i → ⊥) → pending_on fs.pending i ≡ 0
unfolding pending_on
none-pending fs i h = total-zero (λ (_ : ℕ) (j : ℕ). one_if (j == i)) fs.pending (λ p j e. apart j i (λ s. h p (e ∙ ap Some (sym s))))

pub absent-pending : (fs : Fs) (i : ℕ) → IsWhole fs → map.get fs.nodes i ≡ None → pending_on fs.pending i ≡ 0
absent-pending fs i w none = none-pending fs i (λ p e. (let x = w.pending p i e in absurd (not_absent fs.nodes i i x.0 none x.1 refl)))

-- the table has a place for a new inode
pub has-place : (fs : Fs) (i : ℕ) → is_table_full fs ≡ false → is_full_for fs i ≡ false
has-place fs i room = ap (λ b. not (is_referenced fs i) && b) room ∙ never (not (is_referenced fs i))

-- ---- a regular file

empty_file : (block greatest inodes i d mode : ℕ) → 2 ≤ i → i ≤ inodes → mode ≤ 4095 → IsNode block greatest inodes i (new_node block i d mode File)
empty_file block greatest inodes i d mode least most fits = record {
  least = least;
  most = most;
  mode = fits;
  size = omega arith;
  pages = λ k bytes e. (let none : None ≡ Some bytes = sym (map.get-empty nat_cmp k) ∙ e in cc);
}

-- in two steps: the file comes with a link that is pending for a process that had none pending; then its name is entered
pub created-file : (fs : Fs) (p d i : ℕ) (name : List ℕ) (mode : ℕ) (node : Node) → IsWhole fs → map.get fs.nodes d ≡ Some node → is_live node ≡ true
    → place_of fs.block node name ≡ None → IsName name → 16000 * fs.inodes ≤ fs.greatest → entry_need fs.block node ≤ promise_of fs p
    → mode ≤ 4095 → is_free fs i ≡ true → is_table_full fs ≡ false
    → IsWhole (record fs {
      nodes = map.insert (changed fs.nodes d (λ node. with_links (links_made File) (with_entry fs.block i name node))) i (new_node fs.block i d mode File);
      references = one_more fs p i;
      promises = spent fs p (entry_need fs.block node);
    })
created-file fs p d i name mode node w there live none is_name room paid mode_fits free place =
    let number = absent-free fs i free in
    let new : Node = new_node fs.block i d mode File in
    let unused = unused fs.pending in
    let q : ℕ = unused.0 in
    let had : (k : ℕ) → at_or_0 (λ (l : ℕ). one_if (l == k)) (map.get fs.pending q) ≡ 0 = λ k. ap (at_or_0 (λ (l : ℕ). one_if (l == k))) unused.1 in
    let one : Fs = record fs { nodes = map.insert fs.nodes i new; pending = map.insert fs.pending q i } in
    let no_pages : used fs.block new ≡ 0 = used-none fs.block new refl in
    let whole_one : IsWhole one =
    keeps-added fs i new (map.insert fs.pending q i) fs.promises w
    (record {
      absent = number.2;
      dead = refl;
      node = empty_file fs.block fs.greatest fs.inodes i d mode number.0 number.1 mode_fits;
      few = omega arith;
      links = omega (arith, pending-insert fs.pending q i i, had i, itself i, absent-pending fs i w number.2);
      others = λ j ne. omega (arith, pending-insert fs.pending q i j, had j, apart i j ne);
      on = λ r j e. elim (got nat_cmp_total nat_cmp-IsAntisymmetric fs.pending q i r j e) [ inl h ↦ inl (h.1, refl) | inr h ↦ inr h ];
      blocks =
          (let before : at_or_0 (used fs.block) (map.get fs.nodes i) ≡ 0 = ap (at_or_0 (used fs.block)) number.2 in
          omega (arith, w.blocks, used_by_all-insert fs.block fs.nodes i new, before, no_pages));
    }) in
    let ne : d ≢ i = not_absent fs.nodes i d node number.2 there in
    let entered = entered one p q d i name node new whole_one (get_other fs.nodes i d new ne ∙ there) live (get_new fs.nodes i new) refl (get_at fs.pending q i) none is_name room paid in
    let back : map.remove (map.insert fs.pending q i) q ≡ fs.pending = remove-insert nat_cmp_total nat_cmp-IsAntisymmetric fs.pending q i unused.1 in
    let nodes : map.insert (map.insert fs.nodes i new) d (with_entry fs.block i name node) ≡ map.insert (changed fs.nodes d (λ node. with_links (links_made File) (with_entry fs.block i name node))) i new =
    insert-turned fs.nodes i d new (with_entry fs.block i name node) ne
    ∙ ap (λ m. map.insert m i new) (changed-there fs.nodes d (λ node. with_links (links_made File) (with_entry fs.block i name node)) node there) in
    let two : Fs = record fs { nodes = map.insert (changed fs.nodes d (λ node. with_links (links_made File) (with_entry fs.block i name node))) i new; promises = spent fs p (entry_need fs.block node) } in
    let whole_two : IsWhole two =
    subst (λ (m : Nodes). IsWhole (record fs { nodes = m; promises = spent fs p (entry_need fs.block node) })) nodes
    (subst (λ (m : Promises). IsWhole (record fs { nodes = map.insert (map.insert fs.nodes i new) d (with_entry fs.block i name node); promises = spent fs p (entry_need fs.block node); pending = m })) back entered) in
    keeps-one_more two p i whole_two (subst IsSome (sym (get_new (changed fs.nodes d (λ node. with_links (links_made File) (with_entry fs.block i name node))) i new)) refl) number.1 (has-place fs i place)
