-- What is found after an insertion or a removal was put in, or was there.
use Rattle.std.proofs.Common.{◌≡◌, ◌≢◌, ◌⊎◌, inl, inr, Bool, true, false, cond, not, ◌&&◌, Option, Some, None, sym, refl, ap, ◌∙◌}
use Rattle.std.specs.declared.cmp.Ordering.{Ordering}
use Rattle.std.specs.Ordering.{eq_by_cmp}
use Rattle.std.specs.Cmp.{IsTotalOrder, Equal-is, tied_itself}
use Rattle.std.specs.Ordering.{is_eq}
use Rattle.std.specs.FinMap as map
use Rattle.std.specs.FinMap.{FinMap, IsAntisymmetric}

-- ---- tests

pub and_left : (a b : Bool) → (a && b) ≡ true → a ≡ true
and_left true b e = refl
and_left false b e = e

pub and_right : (a b : Bool) → (a && b) ≡ true → b ≡ true
and_right true b e = e
and_right false b e = cc

pub not_true : (a : Bool) → not a ≡ true → a ≡ false
not_true true e = cc
not_true false e = refl

-- ---- maps

chosen : {A : Type 0} (b : Bool) (v x : A) (o : Option A) → cond b (Some v) o ≡ Some x → ((b ≡ true) × (x ≡ v)) ⊎ ((b ≡ false) × (o ≡ Some x))
chosen true v x o e = inl (refl, cc)
chosen false v x o e = inr (refl, e)

passed : {A : Type 0} (b : Bool) (x : A) (o : Option A) → cond b None o ≡ Some x → (b ≡ false) × (o ≡ Some x)
passed true x o e = cc
passed false x o e = (refl, e)

module _ {K X : Type 0} {R : K → K → Ordering} (o : IsTotalOrder R) (same : IsAntisymmetric R) where
  pub got : (m : FinMap R X) (k : K) (v : X) (q : K) (x : X) → map.get (map.insert m k v) q ≡ Some x → ((q ≡ k) × (x ≡ v)) ⊎ (map.get m q ≡ Some x)
  got m k v q x e =
      elim (chosen (eq_by_cmp R q k) v x (map.get m q) (sym (map.get-insert o m k v q) ∙ e)) [
        | inl h ↦ inl (same q k ((Equal-is (R q k)).0 h.0), h.1)
        | inr h ↦ inr h.1
      ]

  pub left : (m : FinMap R X) (k q : K) (x : X) → map.get (map.remove m k) q ≡ Some x → map.get m q ≡ Some x
  left m k q x e = (passed (eq_by_cmp R q k) x (map.get m q) (sym (map.get-remove o m k q) ∙ e)).1

  pub left_apart : (m : FinMap R X) (k q : K) (x : X) → map.get (map.remove m k) q ≡ Some x → q ≢ k
  left_apart m k q x e s =
      let not_tied = (passed (eq_by_cmp R q k) x (map.get m q) (sym (map.get-remove o m k q) ∙ e)).0 in
      let tied : eq_by_cmp R q k ≡ true = ap (λ j. eq_by_cmp R j k) s ∙ ap is_eq (tied_itself o k) in
      cc

  pub get_apart : (m : FinMap R X) (k q : K) → q ≢ k → map.get (map.remove m k) q ≡ map.get m q
  get_apart m k q ne =
      map.get-remove o m k q
      ∙ elim (eq_by_cmp R q k) as (λ b. eq_by_cmp R q k ≡ b → cond b None (map.get m q) ≡ map.get m q) [
        | true ↦ λ e. absurd (ne (same q k ((Equal-is (R q k)).0 e)))
        | false ↦ λ _. refl
      ] refl
