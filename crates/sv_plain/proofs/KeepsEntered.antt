-- A file system stays whole where a further name of a regular file is entered.
use Rattle.std.proofs.Common.{◌≡◌, ◌≢◌, ◌≤◌, ◌<◌, ℕ, ◌*◌, ◌/◌, ◌%◌, ◌==◌, Bool, true, not, ◌&&◌, List, length, Some, None, IsSome, is_some, nat_le, unwrap_or, if◌then◌else◌, sym, refl, ap, subst, ◌∙◌, arith}
use Rattle.std.proofs.lemmas.Bool.{false≢true, leb-true, ne_eqb}
use Rattle.std.specs.Cmp.{nat_cmp_total}
use Rattle.std.specs.FinMap as map
use Rattle.std.specs.FinMap.{nat_cmp-IsAntisymmetric}
use Rattle.sv_form.specs.declared.kind.Kind.TheVariants.{File}
use Rattle.sv_form.specs.Name.{IsName}
use Rattle.sv_form.specs.Entry.{filled}
use Rattle.sv_form.specs.Node.{Node, entry_count, entry_inode, entry_name, used}
use Rattle.sv_plain.specs.declared.history.reply.Reply.{Reply}
use Rattle.sv_plain.specs.declared.history.reply.Reply.TheVariants.{Entered}
use Rattle.sv_plain.specs.Totals.{at_or_0, one_if}
use Rattle.sv_plain.specs.Fs.{Fs, changed, is_live}
use Rattle.sv_plain.specs.Whole.{IsWhole}
use Rattle.sv_plain.specs.Names.{same_bytes, place_of, empty_place, is_missing, has_reference, is_pending, promise_of, is_open_to_names, child}
use Rattle.sv_plain.specs.Needs.{entry_need, enter_need}
use Rattle.sv_plain.specs.Change.{entry_bytes, with_entry, spent}
use Rattle.sv_plain.specs.Step.{enter_allowed, enter_replies, enter_change}
use Rattle.sv_plain.proofs.Got.{and_left, and_right, left}
use Rattle.sv_plain.proofs.Holders.{apart}
use Rattle.sv_plain.proofs.Used.{used_by_all-insert}
use Rattle.sv_plain.proofs.EntryPut.{with_put, put-is}
use Rattle.sv_plain.proofs.NameEntries.{name-same, place-none, length-filled, inode-entered, name-entered, entry-entered}
use Rattle.sv_plain.proofs.EntryRoom.{promised-spent, missing-place, missing-enters, IsFreePlace, free-place}
use Rattle.sv_plain.proofs.KeepsRemoval.{Nodes}
use Rattle.sv_plain.proofs.KeepsLinks.{pending-remove, changed-there, pending_is, referred}
use Rattle.sv_plain.proofs.KeepsNames.{some_bytes, keeps-put, no_directory_at}
use Rattle.sv_plain.proofs.KeepsWhole.{live-of}

stands : (n : ℕ) (b : Bool) → n ≢ 0 → b ≡ true → (not (n == 0) && b) ≡ true
stands n b some e = ap (λ z. not z && b) (ne_eqb n 0 some) ∙ e

-- a name that has no place differs from the name of each entry
pub name-apart : (block : ℕ) (node : Node) (name : List ℕ) → place_of block node name ≡ None → (k : ℕ) → k < entry_count node → entry_inode block node k ≢ 0 → entry_name block node k ≢ name
name-apart block node name none k low some s =
    false≢true (sym (place-none block node name none k low) ∙ stands (entry_inode block node k) (same_bytes (entry_name block node k) name) some (name-same (entry_name block node k) name s))

pub length-entry : (i : ℕ) (name : List ℕ) → IsName name → length (entry_bytes i name) ≡ 16
length-entry i name is = (let e = length-filled name is in omega (arith, e))

-- the link that process q has pending on file i becomes a name, and process p pays for it
pub entered : (fs : Fs) (p q d i : ℕ) (name : List ℕ) (node x : Node) → IsWhole fs → map.get fs.nodes d ≡ Some node → is_live node ≡ true → map.get fs.nodes i ≡ Some x → x.kind ≡ File
    → map.get fs.pending q ≡ Some i → place_of fs.block node name ≡ None → IsName name → 16000 * fs.inodes ≤ fs.greatest → entry_need fs.block node ≤ promise_of fs p
    → IsWhole (record fs { nodes = map.insert fs.nodes d (with_entry fs.block i name node); promises = spent fs p (entry_need fs.block node); pending = map.remove fs.pending q })
entered fs p q d i name node x w there live it file on none is_name room paid =
    let j : ℕ = unwrap_or (empty_place fs.block node) (entry_count node) in
    let place : IsFreePlace fs node j = free-place fs d node w there live room in
    let some = some_bytes fs w in
    let new : Node = with_put fs.block node j (entry_bytes i name) node.links in
    let made : with_entry fs.block i name node ≡ new = put-is fs.block node j (entry_bytes i name) w.sized.entries (length-entry i name is_name) in
    let inode = inode-entered fs.block node j node.links some w.sized.entries i name is_name in
    let named = name-entered fs.block node j node.links some w.sized.entries i name is_name in
    let two = (w.nodes i x it).least in
    let gone : (k : ℕ) → at_or_0 (λ (l : ℕ). one_if (l == k)) (map.get fs.pending q) ≡ one_if (i == k) = λ k. ap (at_or_0 (λ (l : ℕ). one_if (l == k))) on in
    subst (λ (n : Node). IsWhole (record fs { nodes = map.insert fs.nodes d n; promises = spent fs p (entry_need fs.block node); pending = map.remove fs.pending q })) (sym made)
    (keeps-put fs d node j (i % 256) (i / 256) (filled name) w there live (length-filled name is_name) place.third place.within place.fits (map.remove fs.pending q) (spent fs p (entry_need fs.block node))
    (entry-entered fs.block node j node.links some w.sized.entries i name is_name (λ s. absurd (omega (arith, s, two))))
    (λ k ne low some_k _ s. name-apart fs.block node name none k low some_k (s ∙ named))
    (λ _. subst IsSome (sym (ap (map.get fs.nodes) inode ∙ it)) refl)
    (λ k z e live_z. (
      ap (λ c. one_if (c == k)) place.free ∙ apart 0 k (let least = (w.nodes k z e).least in (λ s. absurd (omega (arith, s, least)))),
      ap (λ c. one_if (c == k)) inode ∙ no_directory_at fs i x it file k z e live_z,
    ))
    (λ k some_k.
    (let old : one_if (entry_inode fs.block node j == k) ≡ 0 = ap (λ c. one_if (c == k)) place.free ∙ apart 0 k some_k in
    let now : one_if (entry_inode fs.block new j == k) ≡ one_if (i == k) = ap (λ c. one_if (c == k)) inode in
    omega (arith, old, now, pending-remove fs.pending q k, gone k)))
    (λ r k e. w.pending r k (left nat_cmp_total nat_cmp-IsAntisymmetric fs.pending q r k e))
    (let before : at_or_0 (used fs.block) (map.get fs.nodes d) ≡ used fs.block node = ap (at_or_0 (used fs.block)) there in
    omega (arith, w.blocks, used_by_all-insert fs.block fs.nodes d new, place.takes (entry_bytes i name) node.links, before, promised-spent fs p (entry_need fs.block node) paid)))

-- what entering a missing name takes
pub enter-need : (fs : Fs) (d : ℕ) (name : List ℕ) (node : Node) → map.get fs.nodes d ≡ Some node → is_missing fs d name ≡ true → enter_need fs d name ≡ entry_need fs.block node
enter-need fs d name node there missing =
    ap (λ b. if b then 0 else at_or_0 (entry_need fs.block) (map.get fs.nodes d)) (missing-enters fs d name missing) ∙ ap (at_or_0 (entry_need fs.block)) there

pub keeps-enter : (fs : Fs) (p d : ℕ) (name : List ℕ) (i : ℕ) (reply : Reply) → IsWhole fs → IsName name → enter_allowed fs p d name i ≡ true → enter_replies fs d name reply ≡ true
    → IsWhole (enter_change fs p d name i reply)
keeps-enter fs p d name i Entered w is_name allowed right =
    let dir = referred fs p d w (and_left (has_reference fs p d) (is_pending fs p i && nat_le (enter_need fs d name) (promise_of fs p)) allowed) in
    let rest = and_right (has_reference fs p d) (is_pending fs p i && nat_le (enter_need fs d name) (promise_of fs p)) allowed in
    let on = pending_is (map.get fs.pending p) i (and_left (is_pending fs p i) (nat_le (enter_need fs d name) (promise_of fs p)) rest) in
    let paid = leb-true (enter_need fs d name) (promise_of fs p) (and_right (is_pending fs p i) (nat_le (enter_need fs d name) (promise_of fs p)) rest) in
    let x = w.pending p i on in
    let live = live-of fs d dir.0 dir.1 (and_left (is_open_to_names fs d) (not (is_some (child fs d name))) right) in
    let need = enter-need fs d name dir.0 dir.1 right in
    subst (λ (n : ℕ). IsWhole (record fs { nodes = changed fs.nodes d (with_entry fs.block i name); promises = spent fs p n; pending = map.remove fs.pending p })) (sym need)
    (subst (λ (m : Nodes). IsWhole (record fs { nodes = m; promises = spent fs p (entry_need fs.block dir.0); pending = map.remove fs.pending p }))
    (changed-there fs.nodes d (with_entry fs.block i name) dir.0 dir.1)
    (entered fs p p d i name dir.0 x.0 w dir.1 live x.1 x.2 on (missing-place fs d name dir.0 dir.1 right) is_name w.sized.names_fit (omega (arith, paid, need))))
keeps-enter fs p d name i _ w is_name allowed right = w
