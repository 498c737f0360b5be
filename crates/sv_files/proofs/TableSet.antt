-- A table of numbers, after one of them changes.
use Rattle.std.proofs.Common.{◌≡◌, ◌≢◌, ◌<◌, ℕ, zero, suc, List, [], ◌∷◌, length, set, slice_index, refl, ap, arith}

pub index-set : (xs : List ℕ) (n y : ℕ) → n < length xs → slice_index (set xs n y) n ≡ y
index-set [] n y inside = absurd (omega arith)
index-set (x ∷ xs) zero y inside = refl
index-set (x ∷ xs) (suc n) y inside = index-set xs n y (omega arith)

pub index-other : (xs : List ℕ) (n m y : ℕ) → m ≢ n → slice_index (set xs n y) m ≡ slice_index xs m
index-other [] n m y apart = refl
index-other (x ∷ xs) zero zero y apart = absurd (apart refl)
index-other (x ∷ xs) zero (suc m) y apart = refl
index-other (x ∷ xs) (suc n) zero y apart = refl
index-other (x ∷ xs) (suc n) (suc m) y apart = index-other xs n m y (λ e. apart (ap suc e))

pub length-table : (xs : List ℕ) (n y : ℕ) → length (set xs n y) ≡ length xs
length-table [] n y = refl
length-table (x ∷ xs) zero y = refl
length-table (x ∷ xs) (suc n) y = ap suc (length-table xs n y)
