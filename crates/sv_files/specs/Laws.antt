-- The laws of the rule: views in any order, blank views, and cuts.
use Rattle.std.proofs.Common.{◌≡◌, ◌+◌, ◌<◌, ◌≤◌, ◌++◌, ℕ, List, [], ◌∷◌, Option, refl, sym, subst, ◌∙◌, arith}
use Rattle.std.specs.List.{sum_by, All}
use Rattle.std.specs.List.Sorted.{IsPermutation}
use Rattle.std.proofs.lemmas.List.Sums.{sum_by-cons}
use Rattle.std.proofs.lemmas.List.Sorted.{sum_by-IsPermutation, All-permutation}
use Rattle.std.proofs.lemmas.List.{length-append, append_assoc}
use Rattle.std.proofs.lemmas.List.Elements.{All-nil, All-cons, All-head, All-tail}
use Rattle.sv_turn.specs.Turning.{total}
use Rattle.sv_files.specs.declared.state.State.{State}
use Rattle.sv_files.specs.View.{View, Mount, Proc, Lock, Seen, Each, blank, weight, lock_seen, all_procs, all_locks}
use Rattle.sv_files.specs.FileRule.{Guarded, IsAgreed, IsCut, IsLocked, IsMountOf, Holds, Parts}
use Rattle.sv_files.specs.FileRule.{faulty, forcings, guarded, has_line, locks_on, names, over_all, owes, proc_faults}
use Rattle.sv_plain.specs.Fs.{Fs}

module _ {A : Type 0} where
  pub total-append : (f : A → ℕ) (xs ys : List A) → total f (xs ++ ys) ≡ total f xs + total f ys
  total-append f [] ys = omega arith
  total-append f (x ∷ xs) ys = let rest = total-append f xs ys in omega arith

  total-sum_by : (f : A → ℕ) (xs : List A) → total f xs ≡ sum_by f xs
  total-sum_by f [] = refl
  total-sum_by f (x ∷ xs) = let rest = total-sum_by f xs in omega (arith, sum_by-cons f x xs)

  pub total-permutation : (f : A → ℕ) (xs ys : List A) → IsPermutation xs ys → total f ys ≡ total f xs
  total-permutation f xs ys p = total-sum_by f ys ∙ sum_by-IsPermutation f xs ys p ∙ sym (total-sum_by f xs)

  all-each : (P : A → Type 0) (xs : List A) → All P xs → Each P xs
  all-each P [] all = tt
  all-each P (x ∷ xs) all = (All-head P x xs all, all-each P xs (All-tail P x xs all))

  each-all : (P : A → Type 0) (xs : List A) → Each P xs → All P xs
  each-all P [] each = All-nil P
  each-all P (x ∷ xs) each = All-cons P x xs each.0 (each-all P xs each.1)

  pub each-permutation : (P : A → Type 0) (xs ys : List A) → IsPermutation xs ys → Each P xs → Each P ys
  each-permutation P xs ys p each = all-each P ys (All-permutation P xs ys p (each-all P xs each))

  pub each-append : (P : A → Type 0) (xs ys : List A) → Each P xs → Each P ys → Each P (xs ++ ys)
  each-append P [] ys each more = more
  each-append P (x ∷ xs) ys each more = (each.0, each-append P xs ys each.1 more)

  pub each-left : (P : A → Type 0) (xs ys : List A) → Each P (xs ++ ys) → Each P xs
  each-left P [] ys each = tt
  each-left P (x ∷ xs) ys each = (each.0, each-left P xs ys each.1)

  pub each-right : (P : A → Type 0) (xs ys : List A) → Each P (xs ++ ys) → Each P ys
  each-right P [] ys each = each
  each-right P (x ∷ xs) ys each = each-right P xs ys each.1

-- what is summed up over all processes is summed up view by view, and so is what holds of each
total-procs : (f : Proc → ℕ) (vs : List View) → total f (all_procs vs) ≡ total (λ v. total f v.procs) vs
total-procs f [] = refl
total-procs f (v ∷ vs) = let rest = total-procs f vs in omega (arith, total-append f v.procs (all_procs vs))

total-locks : (f : Lock → ℕ) (vs : List View) → total f (all_locks vs) ≡ total (λ v. total f v.locks) vs
total-locks f [] = refl
total-locks f (v ∷ vs) = let rest = total-locks f vs in omega (arith, total-append f v.locks (all_locks vs))

procs-each : (P : Proc → Type 0) (vs : List View) → Each P (all_procs vs) → Each (λ v. Each P v.procs) vs
procs-each P [] each = tt
procs-each P (v ∷ vs) each = (each-left P v.procs (all_procs vs) each, procs-each P vs (each-right P v.procs (all_procs vs) each))

each-procs : (P : Proc → Type 0) (vs : List View) → Each (λ v. Each P v.procs) vs → Each P (all_procs vs)
each-procs P [] each = tt
each-procs P (v ∷ vs) each = each-append P v.procs (all_procs vs) each.0 (each-procs P vs each.1)

locks-each : (P : Lock → Type 0) (vs : List View) → Each P (all_locks vs) → Each (λ v. Each P v.locks) vs
locks-each P [] each = tt
locks-each P (v ∷ vs) each = (each-left P v.locks (all_locks vs) each, locks-each P vs (each-right P v.locks (all_locks vs) each))

each-locks : (P : Lock → Type 0) (vs : List View) → Each (λ v. Each P v.locks) vs → Each P (all_locks vs)
each-locks P [] each = tt
each-locks P (v ∷ vs) each = each-append P v.locks (all_locks vs) each.0 (each-locks P vs each.1)

-- the same processes and the same locks, in whatever order
record SameTotals (ps qs : List Proc) (ks ls : List Lock) : Type 1 where
  procs : (f : Proc → ℕ) → total f qs ≡ total f ps
  locks : (f : Lock → ℕ) → total f ls ≡ total f ks
  each_proc : (P : Proc → Type 0) → Each P ps → Each P qs
  each_lock : (P : Lock → Type 0) → Each P ks → Each P ls

same-order : (xs ys : List View) → IsPermutation xs ys → SameTotals (all_procs xs) (all_procs ys) (all_locks xs) (all_locks ys)
same-order xs ys p = record {
  procs = λ f. total-procs f ys ∙ total-permutation (λ v. total f v.procs) xs ys p ∙ sym (total-procs f xs);
  locks = λ f. total-locks f ys ∙ total-permutation (λ v. total f v.locks) xs ys p ∙ sym (total-locks f xs);
  each_proc = λ P each. each-procs P ys (each-permutation (λ v. Each P v.procs) xs ys p (procs-each P xs each));
  each_lock = λ P each. each-locks P ys (each-permutation (λ v. Each P v.locks) xs ys p (locks-each P xs each));
}

-- the parts of a cut have the processes of the whole, and neither has a lock
cut-procs : (v a b : View) (xs : List View) → IsCut v a b → all_procs (a ∷ b ∷ xs) ≡ all_procs (v ∷ xs)
cut-procs v a b xs cut = rw cut.procs (sym (append_assoc a.procs b.procs (all_procs xs)))

cut-locks : (v a b : View) (xs : List View) → IsCut v a b → all_locks (a ∷ b ∷ xs) ≡ all_locks (v ∷ xs)
cut-locks v a b xs cut = rw (cut.locks.0, cut.locks.1, cut.locks.2) refl

module _ {S : Type 0} where
  over-same : (seen : S → Seen) (f : Seen → ℕ) (rest : S) (stakes : List (Option S)) (ks ls : List Lock)
      → ((g : Lock → ℕ) → total g ls ≡ total g ks) → over_all seen f rest stakes ls ≡ over_all seen f rest stakes ks
  over-same seen f rest stakes ks ls same = let e = same (λ k. f (lock_seen k)) in omega arith

  same-parts : (seen : S → Seen) (m : Mount) (fs : Fs) (g : Guarded S) (ps qs : List Proc) (ks ls : List Lock) → SameTotals ps qs ks ls
      → Parts seen m fs g ps ks → Parts seen m fs g qs ls
  same-parts seen m fs g ps qs ks ls same h = record {
    follows = h.follows;
    homes = record {
      size = h.homes.size;
      once = λ n. let e = same.locks (locks_on n) in let once = h.homes.once n in omega arith;
      home = h.homes.home;
      away = same.each_lock (IsLocked m.origin fs.nodes g.core) h.homes.away;
    };
    agrees = record {
      once = λ q. let e = same.procs (names q) in let once = h.agrees.once q in omega arith;
      each = same.each_proc (IsAgreed m fs g.history) h.agrees.each;
    };
    shared = h.shared;
    owed = h.owed ∙ sym (same.procs owes);
    lines = record {
      origin = h.lines.origin;
      once = λ b l. over-same seen (has_line b l) g.rest g.stakes ks ls same.locks ∙ h.lines.once b l;
    };
    counted = record {
      each = same.each_proc (λ p. total faulty p.entries ≤ p.faults) h.counted.each;
      all = rw (same.procs proc_faults, over-same seen (λ z. z.faults) g.rest g.stakes ks ls same.locks) h.counted.all;
    };
    unforced = record {
      none = λ calm first. over-same seen forcings g.rest g.stakes ks ls same.locks ∙ h.unforced.none calm first;
    };
  }

  pub in_any_order : (seen : S → Seen) (s : State S) (xs ys : List View) → IsPermutation xs ys → Holds seen s xs → Holds seen s ys
  in_any_order seen s xs ys p h = record {
    mount = h.mount;
    fs = h.fs;
    same = each-permutation (IsMountOf h.mount) xs ys p h.same;
    parts = same-parts seen h.mount h.fs (guarded s) (all_procs xs) (all_procs ys) (all_locks xs) (all_locks ys) (same-order xs ys p)
        h.parts;
  }

  pub with_blank : (seen : S → Seen) (s : State S) (xs : List View) → Holds seen s xs → Holds seen s (blank ∷ xs)
  with_blank seen s xs h = record { mount = h.mount; fs = h.fs; same = (λ some. absurd (omega arith), h.same); parts = h.parts }

  pub without_blank : (seen : S → Seen) (s : State S) (xs : List View) → Holds seen s (blank ∷ xs) → Holds seen s xs
  without_blank seen s xs h = record { mount = h.mount; fs = h.fs; same = h.same.1; parts = h.parts }

  pub in_two : (seen : S → Seen) (s : State S) (v a b : View) (xs : List View) → IsCut v a b → Holds seen s (v ∷ xs)
      → Holds seen s (a ∷ b ∷ xs)
  in_two seen s v a b xs cut h = record {
    mount = h.mount;
    fs = h.fs;
    same = (
      λ some. cut.mount.0 ∙ h.same.0 (rw cut.procs (omega (arith, length-append a.procs b.procs, some))),
      (λ some. cut.mount.1 ∙ h.same.0 (rw cut.procs (omega (arith, length-append a.procs b.procs, some))), h.same.1),
    );
    parts = subst (λ ps. Parts seen h.mount h.fs (guarded s) ps (all_locks (a ∷ b ∷ xs))) (sym
        (cut-procs v a b xs cut))
        (subst (λ ks. Parts seen h.mount h.fs (guarded s) (all_procs (v ∷ xs)) ks) (sym (cut-locks
        v a b xs cut)) h.parts);
  }

  pub in_one : (seen : S → Seen) (s : State S) (v a b : View) (xs : List View) → IsCut v a b → Holds seen s (a ∷ b ∷ xs)
      → Holds seen s (v ∷ xs)
  in_one seen s v a b xs cut h = record {
    mount = h.mount;
    fs = h.fs;
    same = (λ some. sym cut.mount.0 ∙ h.same.0 cut.some.0, h.same.1.1);
    parts = subst (λ ps. Parts seen h.mount h.fs (guarded s) ps (all_locks (v ∷ xs))) (cut-procs v
        a b xs cut)
        (subst (λ ks. Parts seen h.mount h.fs (guarded s) (all_procs (a ∷ b ∷ xs)) ks) (cut-locks
        v a b xs cut) h.parts);
  }

pub weighs_both : (v a b : View) → IsCut v a b → (weight v ≡ weight a + weight b) × (0 < weight a) × (0 < weight b)
weighs_both v a b cut = (rw cut.procs (length-append a.procs b.procs), cut.some.0, cut.some.1)
