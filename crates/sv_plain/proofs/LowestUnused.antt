-- That a range has no number that passes a test.
use Rattle.std.proofs.Common.{◌≡◌, ◌≤◌, ◌<◌, ℕ, ◌==◌, Bool, true, false, not, ap, sym, refl, ◌∙◌, arith, eqb}
use Rattle.std.proofs.lemmas.Bool.{eq-eqb}
use Rattle.std.proofs.lemmas.Bool.Decides.{nat_tests}
use Rattle.std.specs.List.{count_by, range_with_len}
use Rattle.sv_plain.proofs.Counts.{count_alike, count_none, count_some}

pub none_passes : (p : ℕ → Bool) (n : ℕ) → ((k : ℕ) → k < n → p k ≡ true) → (count_by (λ k. not (p k)) (range_with_len 0 n) == 0) ≡ true
none_passes p n h =
    eq-eqb _ 0 (count_alike (λ k. not (p k)) (λ _. false) 0 n (λ k _ below. ap not (h k (omega arith))) ∙ count_none (λ _. false) 0 n (λ _. refl))

not_zero : (n : ℕ) → 1 ≤ n → (n == 0) ≡ false
not_zero n h = grind (arith, nat_tests)

pub some_passes : (p : ℕ → Bool) (x n : ℕ) → x < n → p x ≡ false → (count_by (λ k. not (p k)) (range_with_len 0 n) == 0) ≡ false
some_passes p x n below fails = not_zero _ (count_some (λ k. not (p k)) x 0 n (omega arith) (omega arith) (ap not fails))
