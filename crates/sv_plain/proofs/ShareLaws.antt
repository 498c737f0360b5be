-- How shares change with one reference or one file, and where there are none.
use Rattle.std.proofs.Common.{◌≡◌, ◌≢◌, ◌≤◌, T, ℕ, ◌+◌, ◌-◌, ◌==◌, ◌&&◌, Bool, true, false, cond, leb, List, [], ◌∷◌, Option, Some, None, sym, refl, ap, subst, ◌∙◌, arith}
use Rattle.std.proofs.lemmas.Bool.{eqb-true, eq-eqb}
use Rattle.std.proofs.lemmas.Bool.Decides.{nat_tests}
use Rattle.std.proofs.lemmas.List.Sums.{sum_by-cons}
use Rattle.std.specs.declared.cmp.Ordering.{Ordering}
use Rattle.std.specs.declared.cmp.Ordering.TheVariants.{Less, Equal, Greater}
use Rattle.std.specs.List.{sum_by}
use Rattle.std.specs.Ordering.{nat_cmp, eq_by_cmp, is_eq, is_lt}
use Rattle.std.specs.Cmp.{IsTotalOrder, Equal-is, nat_cmp_total, tied_itself}
use Rattle.std.specs.FinMap as map
use Rattle.std.specs.FinMap.{FinMap, IsAntisymmetric, nat_cmp-IsAntisymmetric, find, is_sorted}
use Rattle.std.specs.FinMap.Entries.{below_all}
use Rattle.sv_form.specs.Pair.{pair_cmp, pair_cmp_total, pair_cmp-IsAntisymmetric}
use Rattle.sv_plain.specs.declared.fs.opening.Opening.{Opening}
use Rattle.sv_plain.specs.Change.{one_more, one_less}
use Rattle.sv_plain.specs.Fs.{Fs, holders}
use Rattle.sv_plain.specs.Names.{references_of}
use Rattle.sv_plain.specs.Shares.{CountsFiles, CountsReferences, HasNoShares, shares, shares_of}
use Rattle.sv_plain.specs.Totals.{total, at_or_0, one_if}
use Rattle.sv_plain.specs.Whole.{IsWhole}
use Rattle.sv_plain.proofs.Holders.{Files, References}
use Rattle.sv_plain.proofs.KeepsRemoval.{total-at}
use Rattle.sv_plain.proofs.Totals.{total-insert, total-remove}

-- ---- a sum of zeros, whatever the keys

first : (a b : Bool) → T (a && b) → T a
first true b p = tt
first false b p = absurd p

second : (a b : Bool) → T (a && b) → T b
second true b p = p
second false b p = absurd p

is_less : (r : Ordering) → T (is_lt r) → r ≡ Less
is_less Less p = refl
is_less Equal p = absurd p
is_less Greater p = absurd p

module _ {K X : Type 0} {R : K → K → Ordering} (o : IsTotalOrder R) (same : IsAntisymmetric R) (f : K → X → ℕ) where
  none_after : (j : K) (es : List (K × X)) → T (below_all R j es) → find R j es ≡ None
  none_after j [] h = refl
  none_after j (e ∷ es) h = ap (λ r. cond (is_eq r) (Some e.1) (find R j es)) (is_less (R j e.0) (first (is_lt (R j e.0)) (below_all R j es) h)) ∙ none_after j es (second (is_lt (R j e.0)) (below_all R j es) h)

  found_later : (e : K × X) (es : List (K × X)) → T (is_sorted R (e ∷ es)) → (k : K) (v : X) → find R k es ≡ Some v → find R k (e ∷ es) ≡ Some v
  found_later e es s k v h =
      elim (eq_by_cmp R k e.0) as (λ b. eq_by_cmp R k e.0 ≡ b → cond b (Some e.1) (find R k es) ≡ Some v) [
        | true ↦ λ t.
            (let tied : k ≡ e.0 = same k e.0 ((Equal-is (R k e.0)).0 t) in
            let clash : None ≡ Some v = sym (none_after e.0 es (first (below_all R e.0 es) (is_sorted R es) s)) ∙ ap (λ n. find R n es) (sym tied) ∙ h in
            cc)
        | false ↦ λ _. h
      ] refl

  sum_zero : (es : List (K × X)) → T (is_sorted R es) → ((k : K) (v : X) → find R k es ≡ Some v → f k v ≡ 0) → sum_by (λ e. f e.0 e.1) es ≡ 0
  sum_zero [] s h = refl
  sum_zero (e ∷ es) s h =
      let here : f e.0 e.1 ≡ 0 = h e.0 e.1 (ap (λ r. cond (is_eq r) (Some e.1) (find R e.0 es)) (tied_itself o e.0)) in
      let rest : sum_by (λ (e : K × X). f e.0 e.1) es ≡ 0 = sum_zero es (second (below_all R e.0 es) (is_sorted R es) s) (λ k v g. h k v (found_later e es s k v g)) in
      omega (arith, here, rest, sum_by-cons (λ (e : K × X). f e.0 e.1) e es)

  zero_total : (m : FinMap R X) → ((k : K) (v : X) → map.get m k ≡ Some v → f k v ≡ 0) → total f m ≡ 0
  unfolding total
  zero_total m h = sum_zero (map.entries m) (map.entries_sorted m) (λ k v g. h k v (map.get-entries m k ∙ g))

-- ---- references

abbrev weight : ℕ → ℕ × ℕ → ℕ → ℕ
weight j q n = cond (q.1 == j) n 0

more_one : (t : Bool) (o : Option ℕ) → cond t (at_or_0 (λ n. n) o + 1) 0 ≡ at_or_0 (λ n. cond t n 0) o + one_if t
more_one true None = omega arith
more_one true (Some n) = omega arith
more_one false None = omega arith
more_one false (Some n) = omega arith

weighed : (t : Bool) (o : Option ℕ) → at_or_0 (λ n. cond t n 0) o ≡ cond t (at_or_0 (λ n. n) o) 0
weighed true None = refl
weighed true (Some n) = refl
weighed false None = refl
weighed false (Some n) = refl

last_one : (t : Bool) (r : ℕ) → r ≡ 1 → cond t r 0 ≡ one_if t
last_one true r e = e
last_one false r e = refl

less_one : (t : Bool) (r : ℕ) → 1 ≤ r → cond t r 0 ≡ cond t (r - 1) 0 + one_if t
less_one true r h = omega (arith, h)
less_one false r h = refl

few : (r : ℕ) → leb r 1 ≡ true → 1 ≤ r → r ≡ 1
few r e h = (let low : r ≤ 1 = grind (nat_tests, arith) in omega (arith, low, h))

more_shares : (fs : Fs) (p i j : ℕ) → shares (one_more fs p i) fs.files j ≡ shares_of fs j + one_if (i == j)
unfolding shares
more_shares fs p i j =
    let changed = total-insert pair_cmp_total pair_cmp-IsAntisymmetric (weight j) fs.references (p, i) (references_of fs p i + 1) in
    omega (arith, changed, more_one (i == j) (map.get fs.references (p, i)))

less_by : (fs : Fs) (p i j : ℕ) → 1 ≤ references_of fs p i → (b : Bool) → leb (references_of fs p i) 1 ≡ b
    → total (weight j) (cond b (map.remove fs.references (p, i)) (map.insert fs.references (p, i) (references_of fs p i - 1))) + one_if (i == j) ≡ total (weight j) fs.references
less_by fs p i j some true e =
    let changed = total-remove pair_cmp_total pair_cmp-IsAntisymmetric (weight j) fs.references (p, i) in
    omega (arith, changed, weighed (i == j) (map.get fs.references (p, i)), last_one (i == j) (references_of fs p i) (few (references_of fs p i) e some))
less_by fs p i j some false e =
    let changed = total-insert pair_cmp_total pair_cmp-IsAntisymmetric (weight j) fs.references (p, i) (references_of fs p i - 1) in
    omega (arith, changed, weighed (i == j) (map.get fs.references (p, i)), less_one (i == j) (references_of fs p i) some)

less_shares : (fs : Fs) (p i j : ℕ) → 1 ≤ references_of fs p i → shares (one_less fs p i) fs.files j + one_if (i == j) ≡ shares_of fs j
unfolding shares
less_shares fs p i j some = omega (arith, less_by fs p i j some (leb (references_of fs p i) 1) refl)

pub references-counted : (fs : Fs) (p i : ℕ) → CountsReferences fs p i
references-counted fs p i = record { more = more_shares fs p i; less = λ some j. less_shares fs p i j some }

-- ---- files

abbrev uses : ℕ → ℕ → Opening → ℕ
uses j _ f = one_if (f.inode == j)

more_files : (fs : Fs) (f : ℕ) (file : Opening) (j : ℕ) → map.get fs.files f ≡ None → shares fs.references (map.insert fs.files f file) j ≡ shares_of fs j + one_if (file.inode == j)
unfolding shares
more_files fs f file j none =
    let changed = total-insert nat_cmp_total nat_cmp-IsAntisymmetric (uses j) fs.files f file in
    let before : at_or_0 (uses j f) (map.get fs.files f) ≡ 0 = ap (at_or_0 (uses j f)) none in
    omega (arith, changed, before)

less_files : (fs : Fs) (f : ℕ) (file : Opening) (j : ℕ) → map.get fs.files f ≡ Some file → shares fs.references (map.remove fs.files f) j + one_if (file.inode == j) ≡ shares_of fs j
unfolding shares
less_files fs f file j there =
    let changed = total-remove nat_cmp_total nat_cmp-IsAntisymmetric (uses j) fs.files f in
    let before : at_or_0 (uses j f) (map.get fs.files f) ≡ one_if (file.inode == j) = ap (at_or_0 (uses j f)) there in
    omega (arith, changed, before)

pub files-counted : (fs : Fs) (f : ℕ) (file : Opening) → CountsFiles fs f file
files-counted fs f file = record { more = λ none j. more_files fs f file j none; less = λ there j. less_files fs f file j there }

-- ---- none

abbrev refers : ℕ → ℕ × ℕ → ℕ → ℕ
refers j q _ = one_if (q.1 == j)

none_by : (t : Bool) (n : ℕ) → 1 ≤ n → cond t n 0 ≤ 0 → one_if t ≡ 0
none_by true n some low = absurd (omega (arith, some, low))
none_by false n some low = refl

nothing_by : (t : Bool) (n : ℕ) → one_if t ≤ 0 → cond t n 0 ≡ 0
nothing_by true n low = absurd (omega (arith, low))
nothing_by false n low = refl

none_refers : (fs : Fs) → IsWhole fs → (i : ℕ) → total (weight i) fs.references ≡ 0 → total (refers i) fs.references ≡ 0
none_refers fs w i none =
    zero_total pair_cmp_total pair_cmp-IsAntisymmetric (refers i) fs.references
    (λ q n there.
    (let part = total-at pair_cmp_total pair_cmp-IsAntisymmetric (weight i) fs.references q n there in
    let some = (w.references q.0 q.1 n there).0 in
    none_by (q.1 == i) n some (omega (arith, part, none))))

none_weighs : (fs : Fs) (i : ℕ) → total (refers i) fs.references ≡ 0 → total (weight i) fs.references ≡ 0
none_weighs fs i none =
    zero_total pair_cmp_total pair_cmp-IsAntisymmetric (weight i) fs.references
    (λ q n there.
    (let part = total-at pair_cmp_total pair_cmp-IsAntisymmetric (refers i) fs.references q n there in
    nothing_by (q.1 == i) n (omega (arith, part, none))))

unreferenced : (fs : Fs) → IsWhole fs → (i : ℕ) → shares_of fs i ≡ 0 → holders fs.references fs.files i ≡ 0
unfolding shares holders
unreferenced fs w i none =
    let refs : total (weight i) fs.references ≡ 0 = omega (arith, none) in
    let nobody : total (refers i) fs.references ≡ 0 = none_refers fs w i refs in
    omega (arith, none, nobody)

unshared : (fs : Fs) (i : ℕ) → holders fs.references fs.files i ≡ 0 → shares_of fs i ≡ 0
unfolding shares holders
unshared fs i none =
    let refs : total (refers i) fs.references ≡ 0 = omega (arith, none) in
    let nobody : total (weight i) fs.references ≡ 0 = none_weighs fs i refs in
    omega (arith, none, nobody)

pub nothing-shared : (fs : Fs) → IsWhole fs → (i : ℕ) → HasNoShares fs i
nothing-shared fs w i = record { unreferenced = unreferenced fs w i; unshared = unshared fs i }
