-- Of two tests, the second of which holds wherever the first does, the first counts no more, and as much only where both agree.
use Rattle.std.proofs.Common.{◌≡◌, ◌≤◌, ◌<◌, ◌+◌, ◌∙◌, ℕ, zero, suc, Bool, true, false, inl, inr, ap, sym, refl, arith}
use Rattle.std.specs.List.{count_by, range_with_len}
use Rattle.std.proofs.lemmas.Bool.{cases_eq}
use Rattle.sv_plain.specs.Totals.{one_if}
use Rattle.sv_plain.proofs.Counts.{count-cons}

module _ (p q : ℕ → Bool) (wider : (i : ℕ) → p i ≡ true → q i ≡ true) where
  one_by : (i : ℕ) (t : Bool) → p i ≡ t → one_if t ≤ one_if (q i)
  one_by i false is = omega arith
  one_by i true is =
      let one : one_if (q i) ≡ 1 = ap one_if (wider i is) in
      omega (arith, one)

  one_most : (i : ℕ) → one_if (p i) ≤ one_if (q i)
  one_most i = one_by i (p i) refl

  pub count_most : (n a : ℕ) → count_by p (range_with_len a n) ≤ count_by q (range_with_len a n)
  count_most zero a = omega arith
  count_most (suc n) a =
      let first = one_most a in
      let rest = count_most n (a + 1) in
      omega (arith, first, rest, count-cons p a (range_with_len (a + 1) n), count-cons q a (range_with_len (a + 1) n))

  counted : (t : Bool) → 1 ≤ one_if t → t ≡ true
  counted true some = refl
  counted false some = absurd (omega (arith, some))

  pub count_same : (n a x : ℕ) → count_by q (range_with_len a n) ≤ count_by p (range_with_len a n) → a ≤ x → x < a + n → q x ≡ true
      → p x ≡ true
  count_same zero a x few low high so = absurd (omega (arith, low, high))
  count_same (suc n) a x few low high so =
      let first = one_most a in
      let rest = count_most n (a + 1) in
      let left = count-cons p a (range_with_len (a + 1) n) in
      let right = count-cons q a (range_with_len (a + 1) n) in
      elim (cases_eq a x) [
        | inl e ↦
            let one : one_if (q a) ≡ 1 = ap (λ (y : ℕ). one_if (q y)) e ∙ ap one_if so in
            let some : 1 ≤ one_if (p a) = omega (arith, one, rest, few, left, right) in
            ap p (sym e) ∙ counted (p a) some
        | inr ne ↦
            count_same n (a + 1) x (omega (arith, first, few, left, right)) (omega (arith, low, ne)) (omega (arith, high)) so
      ]
