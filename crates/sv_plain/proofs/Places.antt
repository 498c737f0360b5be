-- The first place of a range that passes a test.
use Rattle.std.proofs.Common.{◌≡◌, ◌≤◌, ◌<◌, ℕ, ◌+◌, ◌-◌, Bool, true, false, cond, not, ◌==◌, List, [], ◌∷◌, length, Some, None, Option, get_or, nat_lt, nat_eq, drop, sym, refl, ap, ◌∙◌, arith, ◌&&◌, ◌*◌, suc}
use Rattle.std.proofs.lemmas.Bool.Decides.{nat_tests}
use Rattle.std.proofs.lemmas.List.Sums.{position_or_len_is}
use Rattle.std.proofs.lemmas.List.FromFn.{length-range_with_len, get_or-range_with_len}
use Rattle.std.proofs.lemmas.List.Quantifiers.{position-Some}
use Rattle.std.specs.List.{range_with_len, position, position_or_len, count_by}
use Rattle.sv_plain.proofs.Counts.{count_alike, count_none, count_some}

module _ (p : ℕ → Bool) (n : ℕ) where
  its_own : (k : ℕ) → k < n → get_or (range_with_len 0 n) k 0 ≡ k
  its_own k h = omega (arith, get_or-range_with_len 0 n k 0 h)

  at_range : (i : ℕ) → i ≤ n → ((k : ℕ) → k < i → p k ≡ false) → (i < n → p i ≡ true) → position_or_len p (range_with_len 0 n) ≡ i
  at_range i within before here =
      let long = length-range_with_len 0 n in
      position_or_len_is p (range_with_len 0 n) i 0 (omega arith)
      (λ k below. ap p (its_own k (omega arith)) ∙ before k below)
      (λ inside. let short : i < n = omega arith in ap p (its_own i short) ∙ here short)

  pub first_place : (i : ℕ) → i < n → ((k : ℕ) → k < i → p k ≡ false) → p i ≡ true → position p (range_with_len 0 n) ≡ Some i
  first_place i within before here =
      let long = length-range_with_len 0 n in
      let test : nat_lt i (length (range_with_len 0 n)) ≡ true = grind (arith, nat_tests) in
      ap (λ j. cond (nat_lt j (length (range_with_len 0 n))) (Some j) None) (at_range i (omega arith) before (λ _. here))
      ∙ ap (λ b. cond b (Some i) None) test

  pub no_place : ((k : ℕ) → k < n → p k ≡ false) → position p (range_with_len 0 n) ≡ None
  no_place before =
      let long = length-range_with_len 0 n in
      let test : nat_lt n (length (range_with_len 0 n)) ≡ false = grind (arith, nat_tests) in
      ap (λ j. cond (nat_lt j (length (range_with_len 0 n))) (Some j) None) (at_range n (omega arith) before (λ inside. absurd (omega arith)))
      ∙ ap (λ b. cond b (Some n) None) test

  pub place_within : (i : ℕ) → position p (range_with_len 0 n) ≡ Some i → i < n
  place_within i e = let at = position-Some p (range_with_len 0 n) i 0 e in omega (arith, at.0, length-range_with_len 0 n)

-- a test that fails on a range, and one that passes somewhere there
pub none_from : (p : ℕ → Bool) (a n : ℕ) → ((k : ℕ) → a ≤ k → k < a + n → p k ≡ false) → not (count_by p (range_with_len a n) == 0) ≡ false
none_from p a n h =
    let none : count_by p (range_with_len a n) ≡ 0 = count_alike p (λ _. false) a n h ∙ count_none (λ _. false) a n (λ _. refl) in
    ap (λ m. not (m == 0)) none

not_none : (n : ℕ) → 1 ≤ n → not (n == 0) ≡ true
not_none n h = grind (arith, nat_tests)

pub some_from : (p : ℕ → Bool) (x a n : ℕ) → a ≤ x → x < a + n → p x ≡ true → not (count_by p (range_with_len a n) == 0) ≡ true
some_from p x a n low high here = not_none _ (count_some p x a n low high here)
