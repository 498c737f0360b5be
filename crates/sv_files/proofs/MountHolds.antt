-- What is guarded as an image is mounted meets the rule.
use Rattle.std.proofs.Common.{◌≡◌, ◌≢◌, ◌<◌, ◌≤◌, ◌+◌, ◌*◌, ◌==◌, not, ℕ, zero, suc, false, cond, List, [], ◌∷◌, length}
use Rattle.std.proofs.Common.{Some, None, slice_index, replicate, set, refl, sym, ap, subst, ◌∙◌, arith, if◌then◌else◌}
use Rattle.std.proofs.lemmas.Bool.{cases_eq}
use Rattle.std.proofs.lemmas.Bool.Decides.{nat_tests}
use Rattle.std.proofs.Math.Nat.{min-le_left}
use Rattle.std.proofs.lemmas.List.{length-replicate}
use Rattle.std.specs.FinMap as map
use Rattle.std.specs.Ordering.{nat_cmp}
use mathlib.Core.Logic.{inl, inr}
use Rattle.sv_dev.specs.Causes.{last_count}
use Rattle.sv_form.specs.Geometry.{inode_count}
use Rattle.sv_form.specs.Image.{geometry_of}
use Rattle.sv_form.specs.PagePath.{greatest_size}
use Rattle.sv_form.specs.declared.geometry.Geometry.{Geometry}
use Rattle.sv_plain.specs.declared.fs.opening.Opening.{Opening}
use Rattle.sv_form.specs.Pair.{pair_cmp, pair_cmp_total, pair_cmp-IsAntisymmetric}
use Rattle.sv_form.specs.declared.owners.Mounted.{Mounted}
use Rattle.sv_turn.specs.Turning.{total}
use Rattle.sv_check.specs.Loaded.{loaded}
use Rattle.sv_plain.specs.Fs.{Fs, begun, first_references, holders, places_taken}
use Rattle.sv_plain.specs.Names.{references_of}
use Rattle.sv_plain.specs.Shares.{shares}
use Rattle.sv_plain.specs.Totals.{at_or_0, one_if}
use Rattle.sv_plain.specs.Whole.{IsWhole}
use Rattle.sv_plain.proofs.BegunWhole.{begun-whole}
use Rattle.sv_plain.proofs.Beginnings.{no_holders, no_places_taken}
use Rattle.sv_plain.proofs.FirstReferences.{none_yet}
use Rattle.sv_plain.proofs.ShareLaws.{nothing-shared}
use Rattle.sv_plain.proofs.Holders.{holders-insert_apart, places-changed}
use Rattle.sv_plain.proofs.Totals.{total-insert, total-empty}
use Rattle.sv_files.specs.Beginning.{first_proc, first_procs, mount_of}
use Rattle.sv_files.specs.FileRule.{Agrees, Counts, Follows, Guarded, Homes, IsAgreed, Parts, faulty, names, owes, proc_faults}
use Rattle.sv_files.specs.Mounting.{IsReady}
use Rattle.sv_files.specs.View.{Mount, Seen, Each, times}
use Rattle.sv_files.proofs.Moves.{one-if-apart, one-if-same}
use Rattle.sv_files.proofs.Finding.{got-apart, got-same, no-zero}
use Rattle.sv_files.proofs.TableSet.{index-other, index-set, length-table}

-- ---- the references with which processes begin

-- process q has two references to the root where it is one of the first n
first-refers : (n q : ℕ) → 0 < q → q ≤ n → map.get (first_references n) (q, 2) ≡ Some 2
first-refers zero q some most = absurd (omega (arith, some, most))
first-refers (suc n) q some most = elim (cases_eq q (suc n)) [
  | inl e ↦ subst (λ p. map.get (map.insert (first_references n) (suc n, 2) 2) (p, 2) ≡ Some 2) (sym e)
      (got-same (first_references n) (suc n, 2) 2)
  | inr apart ↦
      got-apart (first_references n) (suc n, 2) (q, 2) 2 (λ e. apart (ap (λ (p : ℕ × ℕ). p.0) e))
      ∙ first-refers n q some (omega (arith, most, apart))
]

-- nobody has one to another inode, and process 0 has none
no-other : (n q i : ℕ) → i ≢ 2 → map.get (first_references n) (q, i) ≡ None
no-other zero q i other = map.get-empty pair_cmp (q, i)
no-other (suc n) q i other =
    got-apart (first_references n) (suc n, 2) (q, i) 2 (λ e. other (ap (λ (p : ℕ × ℕ). p.1) e)) ∙ no-other n q i other

no-zero-refers : (n i : ℕ) → map.get (first_references n) (0, i) ≡ None
no-zero-refers zero i = map.get-empty pair_cmp (0, i)
no-zero-refers (suc n) i =
    got-apart (first_references n) (suc n, 2) (0, i) 2 (λ e. let no : 0 ≡ suc n = ap (λ (p : ℕ × ℕ). p.0) e in absurd (omega (arith, no)))
    ∙ no-zero-refers n i

times-root : (i : ℕ) → times i (2 ∷ 2 ∷ []) ≡ (if i == 2 then 2 else 0)
times-root i = elim (cases_eq i 2) [
  | inl e ↦ subst (λ j. times j (2 ∷ 2 ∷ []) ≡ (if j == 2 then 2 else 0)) (sym e) refl
  | inr apart ↦
      let none = one-if-apart 2 i (λ e. apart (sym e)) in
      let off : (i == 2) ≡ false = other i apart in
      (let sum : times i (2 ∷ 2 ∷ []) ≡ 0 = omega (arith, none) in sum) ∙ sym (ap (λ b. cond b 2 0) off)
]
  where
    other : (i : ℕ) → i ≢ 2 → (i == 2) ≡ false
    other i ne = grind (arith, nat_tests)

begin-refers : (n q i : ℕ) → q ≤ n → at_or_0 (λ m. m) (map.get (first_references n) (q, i)) ≡ times i (first_proc q).references
begin-refers n zero i most = ap (at_or_0 (λ m. m)) (no-zero-refers n i)
begin-refers n (suc q) i most = elim (cases_eq i 2) [
  | inl e ↦ subst (λ j. at_or_0 (λ m. m) (map.get (first_references n) (suc q, j)) ≡ times j (first_proc (suc q)).references) (sym e)
      (ap (at_or_0 (λ m. m)) (first-refers n (suc q) (omega arith) most) ∙ sym (had 2 q))
  | inr apart ↦
      ap (at_or_0 (λ m. m)) (no-other n (suc q) i apart)
      ∙ sym (had' i q ∙ times-root i ∙ ap (λ b. cond b 2 0) (off i apart))
]
  where
    off : (i : ℕ) → i ≢ 2 → (i == 2) ≡ false
    off i ne = grind (arith, nat_tests)

    had' : (i q : ℕ) → times i (first_proc (suc q)).references ≡ times i (2 ∷ 2 ∷ [])
    had' i q = ap (λ b. times i (cond b [] (2 ∷ 2 ∷ []))) (no-zero (suc q) (λ e. absurd (omega (arith, e))))

    had : (i q : ℕ) → times 2 (first_proc (suc q)).references ≡ 2
    had i q = had' 2 q

-- ---- shares and places

shares-none : (i : ℕ) → shares map.empty map.empty i ≡ 0
unfolding shares
shares-none i =
    let first = total-empty pair_cmp (λ (p : ℕ × ℕ) (m : ℕ). cond (p.1 == i) m 0) in
    let second = total-empty nat_cmp (λ (n : ℕ) (f : Opening). one_if (f.inode == i)) in
    omega (arith, first, second)

shares-more : (n i : ℕ) → shares (first_references (suc n)) map.empty i ≡ shares (first_references n) map.empty i + cond (2 == i) 2 0
unfolding shares
shares-more n i =
    let more = total-insert pair_cmp_total pair_cmp-IsAntisymmetric (λ (p : ℕ × ℕ) (m : ℕ). cond (p.1 == i) m 0) (first_references n)
    (suc n, 2) 2 in
    let none : at_or_0 (λ (m : ℕ). cond (2 == i) m 0) (map.get (first_references n) (suc n, 2)) ≡ 0 =
    ap (at_or_0 (λ m. cond (2 == i) m 0)) (none_yet n (suc n) (omega arith)) in
    omega (arith, more, none)

shares-root : (n : ℕ) → shares (first_references n) map.empty 2 ≡ 2 * n
shares-root zero = shares-none 2
shares-root (suc n) = let more = shares-more n 2 in let rest = shares-root n in omega (arith, more, rest)

shares-other : (n i : ℕ) → i ≢ 2 → shares (first_references n) map.empty i ≡ 0
shares-other zero i other = shares-none i
shares-other (suc n) i other =
    let more = shares-more n i in
    let rest = shares-other n i other in
    let none : cond {A = ℕ} (2 == i) 2 0 ≡ 0 = ap (λ b. cond {A = ℕ} b 2 0) (off i other) in
    omega (arith, more, rest, none)
  where
    off : (i : ℕ) → i ≢ 2 → (2 == i) ≡ false
    off i ne = grind (arith, nat_tests)

none-else : (k j : ℕ) → j ≢ 2 → holders (first_references k) map.empty j ≡ holders map.empty map.empty j
none-else zero j ne = refl
none-else (suc k) j ne = holders-insert_apart (first_references k) map.empty (suc k) 2 2 j ne ∙ none-else k j ne

-- only the root takes a place
one-place : (fs : Fs) (n places : ℕ) → 1 ≤ n → 2 ≤ fs.inodes → IsWhole (begun fs n places)
    → places_taken fs.inodes (first_references n) map.empty ≡ 1
one-place fs n places some within whole =
    let changed = places-changed fs.inodes 2 map.empty (first_references n) map.empty map.empty within (none-else n) in
    let first = no_places_taken fs.inodes in
    let before : one_if (not (holders map.empty map.empty 2 == 0)) ≡ 0 = ap (λ h. one_if (not (h == 0))) (no_holders 2) in
    let now : one_if (not (holders (first_references n) map.empty 2 == 0)) ≡ 1 = ap (λ b. one_if (not b)) (no-zero _ held) in
    omega (arith, changed, first, before, now)
  where
    held : holders (first_references n) map.empty 2 ≢ 0
    held none =
        let no = (nothing-shared (begun fs n places) whole 2).unshared none in
        let root = shares-root n in
        omega (arith, no, root, some)

zeros-at : (k i : ℕ) → slice_index (replicate k 0) i ≡ 0
zeros-at zero i = refl
zeros-at (suc k) zero = refl
zeros-at (suc k) (suc i) = zeros-at k i

begin-counts : (fs : Fs) (n places taken : ℕ) (counts : List ℕ) → 1 ≤ n → 2 ≤ fs.inodes → IsWhole (begun fs n places)
    → counts ≡ set (replicate (fs.inodes + 1) 0) 2 (2 * n) → taken ≡ 1 → Counts (begun fs n places) counts taken places
begin-counts fs n places taken counts some within whole counted took = record {
  size = ap length counted ∙ length-table (replicate (fs.inodes + 1) 0) 2 (2 * n) ∙ length-replicate (fs.inodes + 1) 0;
  each = λ i most. elim (cases_eq i 2) [
    | inl e ↦ subst (λ j. slice_index counts j ≡ shares (first_references n) map.empty j) (sym e)
        (ap (λ xs. slice_index xs 2) counted ∙ index-set (replicate (fs.inodes + 1) 0) 2 (2 * n) inside ∙ sym (shares-root n))
    | inr apart ↦
        ap (λ xs. slice_index xs i) counted ∙ index-other (replicate (fs.inodes + 1) 0) 2 i (2 * n) apart
        ∙ zeros-at (fs.inodes + 1) i ∙ sym (shares-other n i apart)
  ];
  all = took ∙ sym (one-place fs n places some within whole);
  room = refl;
}
  where
    inside : 2 < length (replicate {A = ℕ} (fs.inodes + 1) 0)
    inside = let size = length-replicate {A = ℕ} (fs.inodes + 1) 0 in omega (arith, size, within)

-- ---- the processes

names-none : (q k n : ℕ) → 0 < q → q < k → total (names q) (first_procs k n) ≡ 0
names-none q k zero some less = let none = one-if-apart 0 q (λ e. absurd (omega (arith, e, some))) in omega (arith, none)
names-none q k (suc n) some less =
    let none = one-if-apart k q (λ e. absurd (omega (arith, e, less))) in
    let rest = names-none q (k + 1) n some (omega (arith, less)) in
    omega (arith, none, rest)

names-zero : (k n : ℕ) → 0 < k → total (names 0) (first_procs k n) ≤ 1
names-zero k zero some = omega arith
names-zero k (suc n) some =
    let none = one-if-apart k 0 (λ e. absurd (omega (arith, e, some))) in
    let rest = names-zero (k + 1) n (omega arith) in
    omega (arith, none, rest)

names-some : (q k n : ℕ) → 0 < q → 0 < k → total (names q) (first_procs k n) ≤ 1
names-some q k zero some first = let none = one-if-apart 0 q (λ e. absurd (omega (arith, e, some))) in omega (arith, none)
names-some q k (suc n) some first = elim (cases_eq k q) [
  | inl e ↦
      let one = one-if-same k q e in
      let rest = names-none q (k + 1) n some (omega (arith, e)) in
      omega (arith, one, rest)
  | inr apart ↦
      let none = one-if-apart k q apart in
      let rest = names-some q (k + 1) n some (omega arith) in
      omega (arith, none, rest)
]

names-once : (q k n : ℕ) → 0 < k → total (names q) (first_procs k n) ≤ 1
names-once zero k n first = names-zero k n first
names-once (suc q) k n first = names-some (suc q) k n (omega arith) first

agreed-one : (m : Mount) (fs : Fs) (q : ℕ) → q ≤ m.processes
    → ((r i : ℕ) → r ≤ m.processes → references_of fs r i ≡ times i (first_proc r).references) → IsAgreed m fs [] (first_proc q)
agreed-one m fs q most same = record { most = most; references = λ i. same q i most; entries = refl }

agreed-each : (m : Mount) (fs : Fs) (k n : ℕ) → k + n ≤ m.processes + 1
    → ((r i : ℕ) → r ≤ m.processes → references_of fs r i ≡ times i (first_proc r).references)
    → Each (IsAgreed m fs []) (first_procs k n)
agreed-each m fs k zero most same = (agreed-one m fs 0 (omega arith) same, tt)
agreed-each m fs k (suc n) most same =
    (agreed-one m fs k (omega (arith, most)) same, agreed-each m fs (k + 1) n (omega (arith, most)) same)

owes-one : (q : ℕ) → 0 < q → owes (first_proc q) ≡ 2
owes-one q some = ap (λ b. length (cond {A = List ℕ} b [] (2 ∷ 2 ∷ []))) (no-zero q (λ e. absurd (omega (arith, e, some))))

owes-all : (k n : ℕ) → 0 < k → total owes (first_procs k n) ≡ 2 * n
owes-all k zero some = refl
owes-all k (suc n) some =
    let one = owes-one k some in
    let rest = owes-all (k + 1) n (omega arith) in
    omega (arith, one, rest)

faults-each : (k n : ℕ) → Each (λ p. total faulty p.entries ≤ p.faults) (first_procs k n)
faults-each k zero = (omega arith, tt)
faults-each k (suc n) = (omega arith, faults-each (k + 1) n)

faults-all : (k n : ℕ) → total proc_faults (first_procs k n) ≡ 0
faults-all k zero = refl
faults-all k (suc n) = let rest = faults-all (k + 1) n in omega (arith, rest)

-- ---- the rule

pub mounted-holds : {S : Type 0} (seen : S → Seen) (image : List ℕ) (m : Mounted) (whole : Seen) (g : Guarded S) (n places : ℕ)
    → 1 ≤ n → 1 ≤ places → whole.origin.sizes ≡ geometry_of image → IsReady seen image m whole g.rest g.stakes
    → g.history ≡ [] → g.owed ≡ 2 * n → g.core ≡ (λ _. None)
    → g.counts ≡ set (replicate (inode_count (geometry_of image) + 1) 0) 2 (2 * n) → g.taken ≡ 1 → g.places ≡ places
    → Parts seen (mount_of image whole n places) (begun (loaded image) n places) g (first_procs 1 n) []
mounted-holds seen image m whole g n places some room sizes ready history owed core counts taken table = record {
  follows = subst (λ h. Follows (mount_of image whole n places) h (begun (loaded image) n places)) (sym history) (record {
    leads = refl;
    whole = begins;
    block = ap (λ (q : Geometry). q.block_size) (sym sizes);
    inodes = ap inode_count (sym sizes);
    greatest = ap greatest_size (sym sizes);
  });
  homes = subst (λ f. Homes seen whole.origin (loaded image).nodes g.stakes f []) (sym core) ready.homes;
  agrees = subst (λ h. Agrees (mount_of image whole n places) (begun (loaded image) n places) h (first_procs 1 n)) (sym history) (record {
    once = λ q. names-once q 1 n (omega arith);
    each = agreed-each (mount_of image whole n places) (begun (loaded image) n places) 1 n (omega arith)
        (λ r i most. begin-refers n r i most);
  });
  shared = subst (λ p. Counts (begun (loaded image) n places) g.counts g.taken p) (sym table)
      (begin-counts (loaded image) n places g.taken g.counts some within begins counts taken);
  owed = owed ∙ sym (owes-all 1 n (omega arith));
  lines = ready.lines;
  counted = record {
    each = faults-each 1 n;
    all =
        let none = faults-all 1 n in
        let most = min-le_left (total proc_faults (first_procs 1 n)) last_count in
        omega (arith, none, most);
  };
  unforced = record { none = λ calm first. ready.unforced first };
}
  where
    begins : IsWhole (begun (loaded image) n places)
    begins = begun-whole (loaded image) n places ready.at_rest.whole refl refl refl refl room

    within : 2 ≤ (loaded image).inodes
    within = let root = ready.at_rest.whole.root.there in (ready.at_rest.whole.nodes 2 root.0 root.1).most
