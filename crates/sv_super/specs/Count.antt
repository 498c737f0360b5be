-- How often a number stands in a list, and sums over the numbers below another.
use Rattle.std.specs.Prelude.{◌+◌, ◌==◌, ℕ, zero, suc, Bool, List, [], ◌∷◌, if◌then◌else◌}

-- one where it is so, else none
abbrev pub one_if : Bool → ℕ
one_if t = if t then 1 else 0

-- how often b stands in the list
unfoldable pub times : ℕ → List ℕ → ℕ
times b [] = 0
times b (x ∷ xs) = one_if (x == b) + times b xs

-- the sum of f over the numbers below n
unfoldable pub sum_below : ℕ → (ℕ → ℕ) → ℕ
sum_below zero f = 0
sum_below (suc n) f = sum_below n f + f n
