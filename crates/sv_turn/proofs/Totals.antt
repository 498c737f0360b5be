-- Sums over a list after one element changes, and the element brought to the front.
use Rattle.std.proofs.Common.{◌≡◌, ℕ, zero, suc, ◌+◌, ◌≤◌, List, [], ◌∷◌, ◌++◌, set, sym, refl, ap, subst, arith}
use mathlib.Core.Option.{some, some-injective, some-ne-none}
use lib.ListN.{get_elem?}
use Rattle.std.specs.List.Sorted.{IsPermutation}
use Rattle.std.proofs.lemmas.List.Sorted.{IsPermutation-refl, IsPermutation-middle, IsPermutation-cons, IsPermutation-trans, IsPermutation-sym}
use Rattle.sv_turn.specs.Turning.{total}

module _ {A : Type 0} where
  pub total-set : (f : A → ℕ) (l : List A) (i : ℕ) (a b : A) → get_elem? l i ≡ some a → total f (set l i b) + f a ≡ total f l + f b
  total-set f [] i a b at = absurd (some-ne-none a (sym at))
  total-set f (x ∷ xs) zero a b at = let same : f x ≡ f a = ap f (some-injective x a at) in omega arith
  total-set f (x ∷ xs) (suc i) a b at = let rest = total-set f xs i a b at in omega arith

  pub total-snoc : (f : A → ℕ) (l : List A) (a : A) → total f (l ++ a ∷ []) ≡ total f l + f a
  total-snoc f [] a = omega arith
  total-snoc f (x ∷ xs) a = let rest = total-snoc f xs a in omega arith

  -- an element counts for no more than all
  pub in_total : (f : A → ℕ) (l : List A) (i : ℕ) (a : A) → get_elem? l i ≡ some a → f a ≤ total f l
  in_total f [] i a at = absurd (some-ne-none a (sym at))
  in_total f (x ∷ xs) zero a at = let same : f x ≡ f a = ap f (some-injective x a at) in omega arith
  in_total f (x ∷ xs) (suc i) a at = let rest = in_total f xs i a at in omega arith

  pub total-le : (f g : A → ℕ) (l : List A) → ((j : ℕ) (a : A) → get_elem? l j ≡ some a → f a ≤ g a) → total f l ≤ total g l
  total-le f g [] each = omega arith
  total-le f g (x ∷ xs) each = let here = each 0 x refl in let rest = total-le f g xs (λ j a at. each (suc j) a at) in omega arith

  pub total-none : (f : A → ℕ) (l : List A) → ((j : ℕ) (a : A) → get_elem? l j ≡ some a → f a ≡ 0) → total f l ≡ 0
  total-none f [] each = refl
  total-none f (x ∷ xs) each = let here = each 0 x refl in let rest = total-none f xs (λ j a at. each (suc j) a at) in omega arith

  -- where two elements lie at different places, they count for no more than all
  pub two_in_total : (f : A → ℕ) (l : List A) (i j : ℕ) (a b : A) → get_elem? l i ≡ some a → get_elem? l j ≡ some b → (i ≡ j → ⊥) → f a + f b ≤ total f l
  two_in_total f [] i j a b at to apart = absurd (some-ne-none a (sym at))
  two_in_total f (x ∷ xs) zero zero a b at to apart = absurd (apart refl)
  two_in_total f (x ∷ xs) zero (suc j) a b at to apart = let same : f x ≡ f a = ap f (some-injective x a at) in let rest = in_total f xs j b to in omega arith
  two_in_total f (x ∷ xs) (suc i) zero a b at to apart = let same : f x ≡ f b = ap f (some-injective x b to) in let rest = in_total f xs i a at in omega arith
  two_in_total f (x ∷ xs) (suc i) (suc j) a b at to apart = let rest = two_in_total f xs i j a b at to (λ e. apart (ap suc e)) in omega arith

  -- the list is an element and others, in some order, and stays so where that element changes
  pub fronted : (l : List A) (i : ℕ) (a : A) → get_elem? l i ≡ some a → (others : List A) × IsPermutation l (a ∷ others) × ((b : A) → IsPermutation (set l i b) (b ∷ others))
  fronted [] i a at = absurd (some-ne-none a (sym at))
  fronted (x ∷ xs) zero a at = (xs, subst (λ (y : A). IsPermutation (x ∷ xs) (y ∷ xs)) (some-injective x a at) (IsPermutation-refl (x ∷ xs)), λ b. IsPermutation-refl (b ∷ xs))
  fronted (x ∷ xs) (suc i) a at = let rest = fronted xs i a at in (
    x ∷ rest.0,
    IsPermutation-trans (x ∷ xs) (x ∷ a ∷ rest.0) (a ∷ x ∷ rest.0) (IsPermutation-cons x xs (a ∷ rest.0) rest.1) (IsPermutation-middle (x ∷ []) a rest.0),
    λ b. IsPermutation-trans (x ∷ set xs i b) (x ∷ b ∷ rest.0) (b ∷ x ∷ rest.0) (IsPermutation-cons x (set xs i b) (b ∷ rest.0) (rest.2 b)) (IsPermutation-middle (x ∷ []) b rest.0),
  )

  -- the same for two elements at different places
  pub paired : (l : List A) (i j : ℕ) (a b : A) → get_elem? l i ≡ some a → get_elem? l j ≡ some b → (j ≡ i → ⊥)
      → (others : List A) × IsPermutation l (a ∷ b ∷ others) × ((c d : A) → IsPermutation (set (set l i c) j d) (c ∷ d ∷ others))
  paired [] i j a b at to apart = absurd (some-ne-none a (sym at))
  paired (x ∷ xs) zero zero a b at to apart = absurd (apart refl)
  paired (x ∷ xs) zero (suc j) a b at to apart = let rest = fronted xs j b to in (
    rest.0,
    subst (λ (y : A). IsPermutation (x ∷ xs) (y ∷ b ∷ rest.0)) (some-injective x a at) (IsPermutation-cons x xs (b ∷ rest.0) rest.1),
    λ c d. IsPermutation-cons c (set xs j d) (d ∷ rest.0) (rest.2 d),
  )
  paired (x ∷ xs) (suc i) zero a b at to apart = let rest = fronted xs i a at in (
    rest.0,
    subst (λ (y : A). IsPermutation (x ∷ xs) (a ∷ y ∷ rest.0)) (some-injective x b to)
        (IsPermutation-trans (x ∷ xs) (x ∷ a ∷ rest.0) (a ∷ x ∷ rest.0) (IsPermutation-cons x xs (a ∷ rest.0) rest.1) (IsPermutation-middle (x ∷ []) a rest.0)),
    λ c d. IsPermutation-trans (d ∷ set xs i c) (d ∷ c ∷ rest.0) (c ∷ d ∷ rest.0) (IsPermutation-cons d (set xs i c) (c ∷ rest.0) (rest.2 c)) (IsPermutation-middle (d ∷ []) c rest.0),
  )
  paired (x ∷ xs) (suc i) (suc j) a b at to apart = let rest = paired xs i j a b at to (λ e. apart (ap suc e)) in (
    x ∷ rest.0,
    IsPermutation-trans (x ∷ xs) (x ∷ a ∷ b ∷ rest.0) (a ∷ b ∷ x ∷ rest.0) (IsPermutation-cons x xs (a ∷ b ∷ rest.0) rest.1)
        (IsPermutation-sym (a ∷ b ∷ x ∷ rest.0) (x ∷ a ∷ b ∷ rest.0) (IsPermutation-middle (a ∷ b ∷ []) x rest.0)),
    λ c d. IsPermutation-trans (x ∷ set (set xs i c) j d) (x ∷ c ∷ d ∷ rest.0) (c ∷ d ∷ x ∷ rest.0) (IsPermutation-cons x (set (set xs i c) j d) (c ∷ d ∷ rest.0) (rest.2 c d))
        (IsPermutation-sym (c ∷ d ∷ x ∷ rest.0) (x ∷ c ∷ d ∷ rest.0) (IsPermutation-middle (c ∷ d ∷ []) x rest.0)),
  )
