-- Whether some file of a tree has an inode, as the count of such files.
use Rattle.std.proofs.Common.{◌≡◌, ◌≤◌, ℕ, ◌+◌, ◌==◌, ◌||◌, Bool, true, false, not, List, [], ◌∷◌, None, sym, refl, ap, ◌∙◌, arith}
use Rattle.std.proofs.lemmas.Bool.Decides.{nat_tests}
use Rattle.std.proofs.lemmas.List.Sums.{sum_by-cons}
use Rattle.std.specs.declared.cmp.Ordering.{Ordering}
use Rattle.std.specs.Cmp.{IsTotalOrder}
use Rattle.std.specs.List.{sum_by, list_any}
use Rattle.std.specs.List.Sorted.{IsStrictlySortedBy}
use Rattle.std.specs.Map.{keys_of, values_of}
use Rattle.std.specs.FinMap as map
use Rattle.std.specs.FinMap.{IsAntisymmetric}
use Rattle.sv_plain.specs.declared.fs.opening.Opening.{Opening}
use Rattle.sv_plain.specs.Totals.{total, at_or_0, one_if}
use Rattle.sv_plain.proofs.Totals.{total-empty, total-insert}
use Rattle.sv_plain.proofs.Shown.{not_after}

module _ {K X : Type 0} {R : K → K → Ordering} (o : IsTotalOrder R) (same : IsAntisymmetric R) (f : K → X → ℕ) where
  -- the sum over the map of sorted entries
  pub total-sorted : (es : List (K × X)) → IsStrictlySortedBy R (keys_of es) → total f (map.from_entries {R = R} es) ≡ sum_by (λ e. f e.0 e.1) es
  unfolding IsStrictlySortedBy
  total-sorted [] s = total-empty R f
  total-sorted (e ∷ es) s =
      let none : at_or_0 (f e.0) (map.get (map.from_entries {R = R} es) e.0) ≡ 0 = ap (at_or_0 (f e.0)) (map.get-from_entries o es e.0 ∙ not_after o e.0 es s.0) in
      let rest = total-sorted es s.1 in
      omega (arith, none, rest, total-insert o same f (map.from_entries es) e.0 e.1, sum_by-cons (λ (e : K × X). f e.0 e.1) e es)

found_one : (n : ℕ) → true ≡ not (1 + n == 0)
found_one n = grind (arith, nat_tests)

counted : (t : Bool) (rest : Bool) (n : ℕ) → rest ≡ not (n == 0) → (t || rest) ≡ not (one_if t + n == 0)
counted true rest n e = found_one n
counted false rest n e = (let none : n ≡ 0 + n = omega arith in e ∙ ap (λ m. not (m == 0)) none)

pub some_file : (i : ℕ) (es : List (ℕ × Opening)) → list_any (λ (f : Opening). f.inode == i) (values_of es) ≡ not (sum_by (λ (e : ℕ × Opening). one_if (e.1.inode == i)) es == 0)
some_file i [] = refl
some_file i (e ∷ es) =
    counted (e.1.inode == i) (list_any (λ (f : Opening). f.inode == i) (values_of es)) (sum_by (λ (e : ℕ × Opening). one_if (e.1.inode == i)) es) (some_file i es)
    ∙ ap (λ m. not (m == 0)) (sym (sum_by-cons (λ (e : ℕ × Opening). one_if (e.1.inode == i)) e es))
