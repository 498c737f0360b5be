-- The stakes at home, after one of them changes.
use Rattle.std.proofs.Common.{◌≡◌, ◌≢◌, ◌+◌, ◌<◌, ℕ, zero, suc, List, [], ◌∷◌, length, set, Option, Some, None, refl, ap, arith}
use Rattle.std.specs.List.{slice_index_or}
use Rattle.sv_turn.specs.Turning.{total}
use Rattle.sv_files.specs.FileRule.{home_at}

module _ {S : Type 0} where
  pub home-set : (xs : List (Option S)) (n : ℕ) (y : Option S) → n < length xs → home_at (set xs n y) n ≡ y
  home-set [] n y inside = absurd (omega arith)
  home-set (x ∷ xs) zero y inside = refl
  home-set (x ∷ xs) (suc n) y inside = home-set xs n y (omega arith)

  pub home-others : (xs : List (Option S)) (n m : ℕ) (y : Option S) → m ≢ n → home_at (set xs n y) m ≡ home_at xs m
  home-others [] n m y apart = refl
  home-others (x ∷ xs) zero zero y apart = absurd (apart refl)
  home-others (x ∷ xs) zero (suc m) y apart = refl
  home-others (x ∷ xs) (suc n) zero y apart = refl
  home-others (x ∷ xs) (suc n) (suc m) y apart = home-others xs n m y (λ e. apart (ap suc e))

  pub home-total : (f : Option S → ℕ) (xs : List (Option S)) (n : ℕ) (y : Option S) → n < length xs
      → total f (set xs n y) + f (home_at xs n) ≡ total f xs + f y
  home-total f [] n y inside = absurd (omega arith)
  home-total f (x ∷ xs) zero y inside = omega arith
  home-total f (x ∷ xs) (suc n) y inside = let rest = home-total f xs n y (omega arith) in omega arith

  pub home-inside : (xs : List (Option S)) (n : ℕ) (s : S) → home_at xs n ≡ Some s → n < length xs
  home-inside [] n s at = absurd (cc at)
  home-inside (x ∷ xs) zero s at = omega arith
  home-inside (x ∷ xs) (suc n) s at = let rest = home-inside xs n s at in omega arith

  pub home-past : (xs : List (Option S)) (n : ℕ) → (n < length xs → ⊥) → home_at xs n ≡ None
  home-past [] n past = refl
  home-past (x ∷ xs) zero past = absurd (past (omega arith))
  home-past (x ∷ xs) (suc n) past = home-past xs n (λ inside. past (omega arith))

  pub set-past : (xs : List (Option S)) (n : ℕ) (y : Option S) → (n < length xs → ⊥) → set xs n y ≡ xs
  set-past [] n y past = refl
  set-past (x ∷ xs) zero y past = absurd (past (omega arith))
  set-past (x ∷ xs) (suc n) y past = ap (λ ys. x ∷ ys) (set-past xs n y (λ inside. past (omega arith)))

  pub set-same : (xs : List (Option S)) (n : ℕ) (y : Option S) → home_at xs n ≡ y → y ≡ None → set xs n None ≡ xs
  set-same [] n y at none = refl
  set-same (x ∷ xs) zero y at none = cc (at, none)
  set-same (x ∷ xs) (suc n) y at none = ap (λ ys. x ∷ ys) (set-same xs n y at none)

  pub home-index : (xs : List (Option S)) (n : ℕ) (d : Option S) → n < length xs → slice_index_or xs n d ≡ home_at xs n
  home-index [] n d inside = absurd (omega arith)
  home-index (x ∷ xs) zero d inside = refl
  home-index (x ∷ xs) (suc n) d inside = home-index xs n d (omega arith)

  pub length-placed : (xs : List (Option S)) (n : ℕ) (y : Option S) → length (set xs n y) ≡ length xs
  length-placed [] n y = refl
  length-placed (x ∷ xs) zero y = refl
  length-placed (x ∷ xs) (suc n) y = ap suc (length-placed xs n y)
