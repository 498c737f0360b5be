-- What it means that a test of two tests, or of two numbers, holds or fails.
use Rattle.std.proofs.Common.{◌≡◌, ◌≤◌, ◌<◌, ◌&&◌, ◌||◌, ℕ, Bool, not, true, false, refl, sym, nat_le, nat_lt, arith}

pub and_left : (a b : Bool) → (a && b) ≡ true → a ≡ true
and_left true b e = refl
and_left false b e = e

pub and_right : (a b : Bool) → (a && b) ≡ true → b ≡ true
and_right true b e = e
and_right false b e = let bad : ⊥ = cc e in absurd bad

pub or_left : (a b : Bool) → (a || b) ≡ false → a ≡ false
or_left false b e = refl
or_left true b e = e

pub or_right : (a b : Bool) → (a || b) ≡ false → b ≡ false
or_right false b e = e
or_right true b e = let bad : ⊥ = cc e in absurd bad

pub or_none : (t : Bool) → (t || false) ≡ true → t ≡ true
or_none true e = refl
or_none false e = e

pub or_true : (t : Bool) → (t || true) ≡ true
or_true true = refl
or_true false = refl

pub not_true : (a : Bool) → not a ≡ true → a ≡ false
not_true false e = refl
not_true true e = let bad : ⊥ = cc e in absurd bad

pub not_false : (a : Bool) → not a ≡ false → a ≡ true
not_false true e = refl
not_false false e = sym e

pub at_most : (m n : ℕ) → nat_le m n ≡ true → m ≤ n
at_most m n e = grind (arith, e)

pub at_most-test : (m n : ℕ) → m ≤ n → nat_le m n ≡ true
at_most-test m n e = grind (arith, e)

pub not_at_most : (m n : ℕ) → nat_le m n ≡ false → n < m
not_at_most m n e = grind (arith, e)

pub below : (m n : ℕ) → nat_lt m n ≡ true → m < n
below m n e = grind (arith, e)

pub below-test : (m n : ℕ) → m < n → nat_lt m n ≡ true
below-test m n e = grind (arith, e)

pub not_below : (m n : ℕ) → nat_lt m n ≡ false → n ≤ m
not_below m n e = grind (arith, e)

pub not_below-test : (m n : ℕ) → n ≤ m → nat_lt m n ≡ false
not_below-test m n e = grind (arith, e)
