-- A Look that found a child leads to a file system with one reference more, or, where the table has no place, to the same.
use Rattle.std.proofs.Common.{◌≡◌, ◌≢◌, ◌<◌, ◌≤◌, ◌+◌, ◌==◌, ◌&&◌, not, ℕ, Bool, true, false, cond, List, [], ◌∷◌, ◌++◌, length, set}
use Rattle.std.proofs.Common.{Some, slice_index, refl, sym, ap, subst, ◌∙◌, arith}
use Rattle.std.proofs.lemmas.Bool.{cases_eq, eq-eqb}
use Rattle.std.proofs.lemmas.Bool.Decides.{nat_tests}
use Rattle.std.specs.FinMap as map
use Rattle.std.specs.FinMap.{FinMap}
use Rattle.std.specs.Ordering.{eq_by_cmp, is_eq}
use Rattle.std.specs.Cmp.{Equal-is, tied_itself}
use mathlib.Core.Logic.{inl, inr}
use Rattle.sv_form.specs.Pair.{pair_cmp, pair_cmp_total, pair_cmp-IsAntisymmetric}
use Rattle.sv_plain.specs.declared.history.entry.Entry.{Entry}
use Rattle.sv_plain.specs.declared.history.op.Op.TheVariants.{Look}
use Rattle.sv_plain.specs.Change.{one_more, with_reference}
use Rattle.sv_plain.specs.Fs.{Fs, holders, is_full_for, is_referenced, places_taken}
use Rattle.sv_plain.specs.Names.{references_of}
use Rattle.sv_plain.specs.Shares.{shares_of}
use Rattle.sv_plain.specs.Step.{Step}
use Rattle.sv_plain.specs.Totals.{at_or_0, one_if}
use Rattle.sv_plain.specs.Whole.{IsWhole}
use Rattle.sv_plain.proofs.Holders.{holders-insert_apart, places-changed}
use Rattle.sv_plain.proofs.KeepsReferences.{keeps-one_more, number_within}
use Rattle.sv_plain.proofs.KeepsWhole.{child-there}
use Rattle.sv_plain.proofs.ShareLaws.{nothing-shared, references-counted}
use Rattle.sv_files.specs.declared.references.References.{References}
use Rattle.std.specs.Prelude.{nat_eq}
use Rattle.indexmap.specs.IndexMap.{get}
use Rattle.sv_files.specs.declared.state.State.{State}
use Rattle.sv_files.specs.View.{View, Proc, Lock, Seen, Each, times}
use Rattle.sv_files.specs.FileRule.{Counts, Guarded, Holds, guarded}
use Rattle.sv_files.specs.Adding.{HasCauseIn, HasOneLock, Sees}
use Rattle.sv_files.specs.Looking.{FindsAll, IsFound, IsNoted, found_reply}
use Rattle.sv_files.proofs.Answering.{LeadsTo, sees-one}
use Rattle.sv_files.proofs.Moves.{one-if-apart, one-if-same}
use Rattle.sv_files.proofs.TableSet.{index-other, index-set, length-table}

-- ---- references of a process

abbrev References' : Type 0
References' = FinMap pair_cmp ℕ

pub got-same : (m : References') (k : ℕ × ℕ) (v : ℕ) → map.get (map.insert m k v) k ≡ Some v
got-same m k v =
    map.get-insert pair_cmp_total m k v k
    ∙ ap (λ b. cond b (Some v) (map.get m k)) (ap is_eq (tied_itself pair_cmp_total k))

pub got-apart : (m : References') (k q : ℕ × ℕ) (v : ℕ) → q ≢ k → map.get (map.insert m k v) q ≡ map.get m q
got-apart m k q v apart =
    map.get-insert pair_cmp_total m k v q
    ∙ elim (eq_by_cmp pair_cmp q k) as (λ b. eq_by_cmp pair_cmp q k ≡ b → cond b (Some v) (map.get m q) ≡ map.get m q) [
      | true ↦ λ e. absurd (apart (pair_cmp-IsAntisymmetric q k ((Equal-is (pair_cmp q k)).0 e)))
      | false ↦ λ _. refl
    ] refl

others-refer : (fs : Fs) (p c r i : ℕ) → r ≢ p → references_of (with_reference fs p c) r i ≡ references_of fs r i
others-refer fs p c r i apart =
    ap (at_or_0 (λ n. n)) (got-apart fs.references (p, c) (r, i) (references_of fs p c + 1) (λ e. apart (ap (λ (q : ℕ × ℕ). q.0) e)))

refers-more : (fs : Fs) (p c : ℕ) (references : List ℕ) → ((i : ℕ) → references_of fs p i ≡ times i references)
    → (i : ℕ) → references_of (with_reference fs p c) p i ≡ times i (c ∷ references)
refers-more fs p c references same i = elim (cases_eq i c) [
  | inl e ↦
      let here : references_of (with_reference fs p c) p c ≡ references_of fs p c + 1 =
      ap (at_or_0 (λ n. n)) (got-same fs.references (p, c) (references_of fs p c + 1)) in
      let one = one-if-same c i (sym e) in
      let had = same c in
      subst (λ j. references_of (with_reference fs p c) p j ≡ times j (c ∷ references)) (sym e)
      (let one' = one-if-same c c refl in omega (arith, here, one', had))
  | inr apart ↦
      let there : references_of (with_reference fs p c) p i ≡ references_of fs p i =
      ap (at_or_0 (λ n. n)) (got-apart fs.references (p, c) (p, i) (references_of fs p c + 1) (λ e. apart (ap (λ (q : ℕ × ℕ). q.1) e))) in
      let none = one-if-apart c i (λ e. apart (sym e)) in
      let had = same i in
      omega (arith, there, none, had)
]

-- ---- whether the table has a place

yes-zero : (n : ℕ) → n ≡ 0 → (n == 0) ≡ true
yes-zero n e = grind (arith, nat_tests)

pub no-zero : (n : ℕ) → n ≢ 0 → (n == 0) ≡ false
no-zero n e = grind (arith, nat_tests)

zero-same : (a b : ℕ) → (a ≡ 0 → b ≡ 0) → (b ≡ 0 → a ≡ 0) → (a == 0) ≡ (b == 0)
zero-same a b f g = elim (cases_eq a 0) [
  | inl e ↦ yes-zero a e ∙ sym (yes-zero b (f e))
  | inr ne ↦ no-zero a ne ∙ sym (no-zero b (λ e. ne (g e)))
]

not-not : (b : Bool) → not (not b) ≡ b
not-not true = refl
not-not false = refl

-- what the counts say of an inode's place is so
full-is : (fs : Fs) (counts : List ℕ) (taken places c : ℕ) → IsWhole fs → Counts fs counts taken places → c ≤ fs.inodes
    → ((slice_index counts c == 0) && (taken == places)) ≡ is_full_for fs c
full-is fs counts taken places c whole shared within =
    let none = nothing-shared fs whole c in
    let tests : (shares_of fs c == 0) ≡ (holders fs.references fs.files c == 0) =
    zero-same (shares_of fs c) (holders fs.references fs.files c) none.unreferenced none.unshared in
    let here : (slice_index counts c == 0) ≡ not (is_referenced fs c) =
    ap (λ n. n == 0) (shared.each c within) ∙ tests ∙ sym (not-not (holders fs.references fs.files c == 0)) in
    ap (λ b. b && (taken == places)) here ∙ ap (λ n. not (is_referenced fs c) && (n == places)) shared.all
    ∙ ap (λ n. not (is_referenced fs c) && (places_taken fs.inodes fs.references fs.files == n)) (sym shared.room)

-- ---- the counts once there is one reference more

one-not : (b : Bool) → one_if (not b) + one_if b ≡ 1
one-not true = refl
one-not false = refl

some-not : (n : ℕ) → n ≢ 0 → one_if (not (n == 0)) ≡ 1
some-not n ne = ap (λ b. one_if (not b)) (no-zero n ne)

counts-more : (fs : Fs) (p c : ℕ) (counts counts' : List ℕ) (taken taken' places places' : ℕ) → IsWhole fs
    → IsWhole (with_reference fs p c) → c ≤ fs.inodes
    → counts' ≡ set counts c (slice_index counts c + 1) → taken' ≡ taken + one_if (slice_index counts c == 0) → places' ≡ places
    → Counts fs counts taken places → Counts (with_reference fs p c) counts' taken' places'
counts-more fs p c counts counts' taken taken' places places' whole after within counted took kept h = record {
  size = ap length counted ∙ length-table counts c (slice_index counts c + 1) ∙ h.size;
  each = λ i most. elim (cases_eq i c) [
    | inl e ↦
        let more = (references-counted fs p c).more i in
        let one = one-if-same c i (sym e) in
        let old = h.each i most in
        let here : slice_index counts' i ≡ slice_index counts c + 1 =
        ap (λ xs. slice_index xs i) counted ∙ ap (λ j. slice_index (set counts c (slice_index counts c + 1)) j) e
        ∙ index-set counts c (slice_index counts c + 1) inside in
        let same : slice_index counts c ≡ slice_index counts i = ap (slice_index counts) (sym e) in
        omega (arith, more, one, old, here, same)
    | inr apart ↦
        let more = (references-counted fs p c).more i in
        let none = one-if-apart c i (λ e. apart (sym e)) in
        let old = h.each i most in
        let here : slice_index counts' i ≡ slice_index counts i =
        ap (λ xs. slice_index xs i) counted ∙ index-other counts c i (slice_index counts c + 1) apart in
        omega (arith, more, none, old, here)
  ];
  all =
      let changed = places-changed fs.inodes c fs.references (one_more fs p c) fs.files fs.files within
      (λ j ne. holders-insert_apart fs.references fs.files p c (references_of fs p c + 1) j ne) in
      let before = one-not (holders fs.references fs.files c == 0) in
      let now = some-not (holders (one_more fs p c) fs.files c) held in
      let was = h.all in
      let tested : one_if (slice_index counts c == 0) ≡ one_if (holders fs.references fs.files c == 0) = ap one_if (ap (λ n. n == 0)
      (h.each c within) ∙ zero-same (shares_of fs c) (holders fs.references fs.files c) (nothing-shared fs whole c).unreferenced
      (nothing-shared fs whole c).unshared) in
      omega (arith, changed, before, now, was, tested, took);
  room = h.room ∙ sym kept;
}
  where
    inside : c < length counts
    inside = let size = h.size in omega (arith, size, within)

    held : holders (one_more fs p c) fs.files c ≢ 0
    held none =
        let no = (nothing-shared (with_reference fs p c) after c).unshared none in
        let more = (references-counted fs p c).more c in
        let one = one-if-same c c refl in
        omega (arith, no, more, one)

-- ---- the step

full-step : (fs : Fs) (p d : ℕ) (name : List ℕ) (c : ℕ) → IsFound fs p d name c → is_full_for fs c ≡ true
    → Step fs p (Look d name) (found_reply true c) fs
full-step fs p d name c found full = record {
  allowed = found.allowed;
  right = rw (found.live, found.leads) full;
  changed = refl;
}

place-step : (fs : Fs) (p d : ℕ) (name : List ℕ) (c : ℕ) → IsFound fs p d name c → is_full_for fs c ≡ false
    → Step fs p (Look d name) (found_reply false c) (with_reference fs p c)
place-step fs p d name c found full = record {
  allowed = found.allowed;
  right = rw (found.live, found.leads) (rw (eq-eqb c c refl, full) refl);
  changed = refl;
}

pub child-inside : (fs : Fs) (p d : ℕ) (name : List ℕ) (c : ℕ) → IsWhole fs → IsFound fs p d name c → c ≤ fs.inodes
child-inside fs p d name c whole found = number_within fs c whole (child-there fs d name c whole found.live found.leads)

-- neither reply says that a device call failed
pub found-cause : (v : View) (now : ℕ) (e : Entry) (full : Bool) (c : ℕ) → HasCauseIn v now (record e { reply = found_reply full c })
found-cause v now e true c = λ no. absurd (cc no)
found-cause v now e false c = λ no. absurd (cc no)

module _ {S : Type 0} where
  pub finds-one : (fs : Fs) (g q : Guarded S) (old new : References) (p : Proc) (process d : ℕ) (name : List ℕ) (c : ℕ) (full : Bool)
      → IsWhole fs → Counts fs g.counts g.taken g.places → IsFound fs process d name c
      → ((i : ℕ) → references_of fs process i ≡ times i p.references)
      → full ≡ ((slice_index g.counts c == 0) && (g.taken == g.places))
      → q.history ≡ g.history ++ record { process = process; op = Look d name; reply = found_reply full c } ∷ []
      → q.core ≡ g.core → q.rest ≡ g.rest
      → (g.counts ≡ old.counts.items) × (g.taken ≡ old.taken) × (g.places ≡ old.places)
      → (q.counts ≡ new.counts.items) × (q.taken ≡ new.taken) × (q.places ≡ new.places)
      → IsNoted old new g.owed q.owed full c
      → LeadsTo fs g q p (record { process = process; op = Look d name; reply = found_reply full c })
  finds-one fs g q old new p process d name c true whole shared found same is history core rest before after noted = record {
    after = fs;
    moved = record {
      step = full-step fs process d name c found (sym (full-is fs g.counts g.taken g.places c whole shared within) ∙ sym is);
      whole = whole;
      nodes = refl;
      apart = λ r i other. refl;
      mine = same;
      history = history;
      core = core;
      rest = rest;
      shared = subst (λ cs. Counts fs cs q.taken q.places) (before.0 ∙ sym (ap (λ (x : References). x.counts.items) noted.0) ∙ sym after.0)
          (subst (λ t. Counts fs g.counts t q.places) (before.1 ∙ sym (ap (λ (x : References). x.taken) noted.0) ∙ sym after.1)
          (subst (λ t. Counts fs g.counts g.taken t) (before.2 ∙ sym (ap (λ (x : References). x.places) noted.0) ∙ sym after.2) shared));
      owed = ap (λ n. n + length p.references) noted.1;
    };
  }
    where
      within : c ≤ fs.inodes
      within = child-inside fs process d name c whole found
  finds-one fs g q old new p process d name c false whole shared found same is history core rest before after noted = record {
    after = with_reference fs process c;
    moved = record {
      step = place-step fs process d name c found free;
      whole = there;
      nodes = refl;
      apart = λ r i other. others-refer fs process c r i other;
      mine = refers-more fs process c p.references same;
      history = history;
      core = core;
      rest = rest;
      shared = counts-more fs process c g.counts q.counts g.taken q.taken g.places q.places whole there within
          (after.0 ∙ noted.0 ∙ ap (λ xs. set xs c (slice_index xs c + 1)) (sym before.0))
          (after.1 ∙ noted.1 ∙ ap (λ n. n + one_if (slice_index old.counts.items c == 0)) (sym before.1)
          ∙ ap (λ xs. g.taken + one_if (slice_index xs c == 0)) (sym before.0))
          (after.2 ∙ noted.2 ∙ sym before.2) shared;
      owed = let more = noted.3 in omega (arith, more);
    };
  }
    where
      within : c ≤ fs.inodes
      within = child-inside fs process d name c whole found

      free : is_full_for fs c ≡ false
      free = sym (full-is fs g.counts g.taken g.places c whole shared within) ∙ sym is

      there : IsWhole (with_reference fs process c)
      there = keeps-one_more fs process c whole (child-there fs d name c whole found.live found.leads) within free

  -- the same, of states
  pub finds-here : (s t : State S) (v : View) (k : Lock) (one : HasOneLock v k) (process d : ℕ) (name : List ℕ) (c : ℕ) (full : Bool)
      (e : Entry) → FindsAll v process d name c → Each (λ p. p.process ≡ process) v.procs
      → full ≡ ((slice_index s.references.counts.items c == 0) && (s.references.taken == s.references.places))
      → e ≡ record { process = process; op = Look d name; reply = found_reply full c }
      → t.history.entries.items ≡ s.history.entries.items ++ e ∷ [] → t.table ≡ s.table → t.rest ≡ s.rest
      → IsNoted s.references t.references s.history.owed t.history.owed full c → (fs : Fs) → Sees v fs
      → Counts fs s.references.counts.items s.references.taken s.references.places → LeadsTo fs (guarded s) (guarded t) one.proc e
  finds-here s t v k one process d name c full e finds mine is entry added table rest noted fs sees shared =
      subst (λ x. LeadsTo fs (guarded s) (guarded t) one.proc x) (sym entry)
      (finds-one fs (guarded s) (guarded t) s.references t.references one.proc process d name c full sees.whole shared (finds fs sees)
      (subst (λ r. (i : ℕ) → references_of fs r i ≡ times i one.proc.references)
      (subst (λ (w : View). Each (λ p. p.process ≡ process) w.procs) one.is mine).0 (subst (λ w. Sees w fs) one.is sees).references.0)
      is (added ∙ ap (λ x. s.history.entries.items ++ x ∷ []) entry) (ap (λ q i. get nat_eq q i) table) (ap (λ q. q.stake) rest)
      (refl, refl, refl) (refl, refl, refl) noted)

  pub found-inside : (seen : S → Seen) (s : State S) (v : View) (us : List View) (k : Lock) (process d : ℕ) (name : List ℕ) (c : ℕ)
      → HasOneLock v k → FindsAll v process d name c → Holds seen s (v ∷ us) → c < length s.references.counts.items
  found-inside seen s v us k process d name c one finds h =
      let inside = child-inside h.fs process d name c h.parts.follows.whole (finds h.fs (sees-one seen s v us k one h)) in
      let size = h.parts.shared.size in
      omega (arith, inside, size)
