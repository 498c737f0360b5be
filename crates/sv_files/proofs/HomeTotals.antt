-- What is added up over the stakes at home, where at most one of them counts.
use Rattle.std.proofs.Common.{◌≡◌, ◌≢◌, ℕ, zero, suc, List, [], ◌∷◌, Option, None, refl, arith}
use Rattle.sv_turn.specs.Turning.{total}
use Rattle.sv_files.specs.FileRule.{home_at}

module _ {S : Type 0} (f : Option S → ℕ) (none : f None ≡ 0) where
  -- none of them counts
  pub none-total : (xs : List (Option S)) → ((n : ℕ) → f (home_at xs n) ≡ 0) → total f xs ≡ 0
  none-total [] each = refl
  none-total (x ∷ xs) each =
      let first : f x ≡ 0 = each 0 in
      let rest = none-total xs (λ n. each (suc n)) in
      omega (arith, first, rest)

  -- that at place k alone counts
  pub one-total : (xs : List (Option S)) (k : ℕ) → ((n : ℕ) → n ≢ k → f (home_at xs n) ≡ 0) → total f xs ≡ f (home_at xs k)
  one-total [] k each = omega (arith, none)
  one-total (x ∷ xs) zero each =
      let rest = none-total xs (λ n. each (suc n) (λ e. (let no : ⊥ = omega (arith, e) in no))) in
      omega (arith, rest)
  one-total (x ∷ xs) (suc k) each =
      let first : f x ≡ 0 = each 0 (λ e. (let no : ⊥ = omega (arith, e) in no)) in
      let rest = one-total xs k (λ n ne. each (suc n) (λ e. ne (omega (arith, e)))) in
      omega (arith, first, rest)
