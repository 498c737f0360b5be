-- How the sum over a map changes with one entry. No subtraction occurs, so each step is arithmetic over such equations.
use Rattle.std.proofs.Common.{◌≡◌, ℕ, ◌+◌, Bool, true, false, cond, ◌&&◌, T, List, [], ◌∷◌, length, Some, None, sym, refl, ap, ◌∙◌, arith}
use Rattle.std.specs.List.{sum_by}
use Rattle.std.proofs.lemmas.List.Sums.{sum_by-cons}
use Rattle.std.specs.declared.cmp.Ordering.{Ordering}
use Rattle.std.specs.declared.cmp.Ordering.TheVariants.{Less, Equal, Greater}
use Rattle.std.specs.Ordering.{is_eq, is_lt}
use Rattle.std.specs.Cmp.{IsTotalOrder, tied_itself}
use Rattle.std.specs.FinMap as map
use Rattle.std.specs.FinMap.{FinMap, IsAntisymmetric, find, put, is_sorted}
use Rattle.std.specs.FinMap.Entries.{by_order, below_all}
use Rattle.sv_plain.specs.Totals.{total, at_or_0}
use Rattle.sv_plain.proofs.Undone.{insert-remove, remove-none}

left : (a b : Bool) → T (a && b) → T a
left true b p = tt
left false b p = p

right : (a b : Bool) → T (a && b) → T b
right true b p = p
right false b p = absurd p

is_less : (r : Ordering) → T (is_lt r) → r ≡ Less
is_less Less p = refl
is_less Equal p = absurd p
is_less Greater p = absurd p

none_left : {A : Type 0} (es : List A) → length es ≡ 0 → es ≡ []
none_left [] e = refl
none_left (e ∷ es) h = absurd (omega arith)

module _ {K X : Type 0} (R : K → K → Ordering) (f : K → X → ℕ) where
  pub total-empty : total f (map.empty {R = R}) ≡ 0
  unfolding total
  total-empty = ap (sum_by (λ e. f e.0 e.1)) (none_left (map.entries (map.empty {R = R})) (sym (map.len-entries (map.empty {R = R})) ∙ map.len-empty R X))

module _ {K X : Type 0} {R : K → K → Ordering} (o : IsTotalOrder R) (same : IsAntisymmetric R) (f : K → X → ℕ) where
  -- below the first of sorted entries, nothing is found
  none_below : (k j : K) (es : List (K × X)) → R k j ≡ Less → T (below_all R j es) → find R k es ≡ None
  none_below k j [] p h = refl
  none_below k j (e ∷ es) p h =
      (λ i. cond (is_eq (o.trans k j e.0 p (is_less _ (left _ _ h)) i)) (Some e.1) (find R k es)) ∙ none_below k j es p (right _ _ h)

  sum_by-put : (k : K) (v : X) (es : List (K × X)) → T (is_sorted R es)
      → sum_by (λ e. f e.0 e.1) (put R k v es) + at_or_0 (f k) (find R k es) ≡ sum_by (λ e. f e.0 e.1) es + f k v
  sum_by-put k v [] s = omega (arith, sum_by-cons (λ (e : K × X). f e.0 e.1) (k, v) [])
  sum_by-put k v (e ∷ es) s =
      let g : K × X → ℕ = λ e. f e.0 e.1 in
      elim (R k e.0) as (λ r. R k e.0 ≡ r → sum_by g (by_order r ((k, v) ∷ e ∷ es) ((e.0, v) ∷ es) (e ∷ put R k v es)) + at_or_0 (f k) (cond (is_eq r) (Some e.1) (find R k es)) ≡ sum_by g (e ∷ es) + f k v) [
        | Less ↦ λ p.
            let none : at_or_0 (f k) (find R k es) ≡ 0 = ap (at_or_0 (f k)) (none_below k e.0 es p (left _ _ s)) in
            omega (arith, none, sum_by-cons g (k, v) (e ∷ es))
        | Equal ↦ λ p.
            let tied : f k ≡ f e.0 = ap f (same k e.0 p) in
            let here : f k v ≡ f e.0 v = ap (λ h. h v) tied in
            let there : f k e.1 ≡ f e.0 e.1 = ap (λ h. h e.1) tied in
            omega (arith, here, there, sum_by-cons g (e.0, v) es, sum_by-cons g e es)
        | Greater ↦ λ p. omega (arith, sum_by-put k v es (right _ _ s), sum_by-cons g e es, sum_by-cons g e (put R k v es))
      ] refl

  pub total-insert : (m : FinMap R X) (k : K) (v : X) → total f (map.insert m k v) + at_or_0 (f k) (map.get m k) ≡ total f m + f k v
  unfolding total
  total-insert m k v =
      (λ i. sum_by (λ e. f e.0 e.1) (map.entries-insert o m k v i) + at_or_0 (f k) (map.get-entries m k i))
      ∙ sum_by-put k v (map.entries m) (map.entries_sorted m)

  pub total-remove : (m : FinMap R X) (k : K) → total f (map.remove m k) + at_or_0 (f k) (map.get m k) ≡ total f m
  total-remove m k =
      elim (map.get m k) as (λ x. map.get m k ≡ x → total f (map.remove m k) + at_or_0 (f k) x ≡ total f m) [
        | None ↦ λ none. (let e : total f (map.remove m k) ≡ total f m = ap (total f) (remove-none o same m k none) in omega (arith, e))
        | Some v ↦ λ there.
            let e : total f (map.insert (map.remove m k) k v) ≡ total f m = ap (total f) (insert-remove o same m k v there) in
            let gone : at_or_0 (f k) (map.get (map.remove m k) k) ≡ 0 =
            ap (at_or_0 (f k)) (map.get-remove o m k k ∙ (λ i. cond (is_eq (tied_itself o k i)) None (map.get m k))) in
            omega (arith, e, gone, total-insert (map.remove m k) k v)
      ] refl
