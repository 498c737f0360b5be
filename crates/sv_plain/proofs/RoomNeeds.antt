-- What a promise takes, where there is room for it.
use Rattle.std.proofs.Common.{◌≡◌, ◌≤◌, ◌<◌, ◌+◌, ◌-◌, ◌==◌, ◌&&◌, ◌∙◌, ℕ, zero, suc, Bool, true, false, not, Some, None, ap, sym, refl, arith, nat_le, nat_lt, if◌then◌else◌}
use Rattle.std.proofs.lemmas.Bool.Decides.{nat_tests}
use Rattle.std.specs.List.{range_with_len}
use Rattle.std.specs.FinSet as set
use Rattle.sv_form.specs.Pair.{pair_cmp}
use Rattle.sv_plain.specs.Missing.{added}
use Rattle.sv_plain.specs.NeedsWithin.{within}
use Rattle.sv_plain.proofs.BlocksAdded.{added-more}

-- ---- more pages take no less

module _ (s : set.FinSet pair_cmp) (per first : ℕ) where
  pub added-upto : (k m : ℕ) → 1 ≤ per → added s per (range_with_len first k) ≤ added s per (range_with_len first (k + m))
  added-upto k zero some =
      let same : k ≡ k + 0 = omega arith in
      let is : added s per (range_with_len first k) ≡ added s per (range_with_len first (k + 0)) = ap (λ n. added s per (range_with_len first n)) same in
      omega (arith, is)
  added-upto k (suc m) some =
      let at : k + suc m ≡ (k + m) + 1 = omega arith in
      let is : added s per (range_with_len first (k + suc m)) ≡ added s per (range_with_len first ((k + m) + 1)) = ap (λ n. added s per (range_with_len first n)) at in
      omega (arith, added-upto k m some, added-more s per first (k + m) some, is)

  pub added-below : (k n : ℕ) → k ≤ n → 1 ≤ per → added s per (range_with_len first k) ≤ added s per (range_with_len first n)
  added-below k n le some =
      let at : k + (n - k) ≡ n = omega (arith, le) in
      let is : added s per (range_with_len first (k + (n - k))) ≡ added s per (range_with_len first n) = ap (λ i. added s per (range_with_len first i)) at in
      omega (arith, added-upto k (n - k) some, is)

-- ---- within

le-true : (need most : ℕ) → need ≤ most → nat_le need most ≡ true
le-true need most = grind (arith, nat_tests)

le-false : (need most : ℕ) → most < need → nat_le need most ≡ false
le-false need most = grind (arith, nat_tests)

lt-not-le : (most need : ℕ) → nat_lt most need ≡ not (nat_le need most)
lt-not-le most need = grind (arith, nat_tests)

pub held : (most need : ℕ) → need ≤ most → Some need ≡ within most need
held most need le = sym (ap (λ t. if t then Some need else None) (le-true need most le))

pub none_held : (most need : ℕ) → most < need → None ≡ within most need
none_held most need lt = sym (ap (λ t. if t then Some need else None) (le-false need most lt))

-- ---- what a need that is told says

none_case : (t : Bool) (need : ℕ) → None ≡ (if t then Some need else None) → t ≡ false
none_case true need e = let no : ⊥ = cc e in absurd no
none_case false need e = refl

some_case : (t : Bool) (need told : ℕ) → Some told ≡ (if t then Some need else None) → (t ≡ true) × (told ≡ need)
some_case true need told e = (refl, cc e)
some_case false need told e = let no : ⊥ = cc e in absurd no

pub exceeds : (most need : ℕ) → None ≡ within most need → true ≡ nat_lt most need
exceeds most need e = sym (lt-not-le most need ∙ ap not (none_case (nat_le need most) need e))

pub exceeds_not : (most need told : ℕ) → Some told ≡ within most need → false ≡ nat_lt most need
exceeds_not most need told e = sym (lt-not-le most need ∙ ap not ((some_case (nat_le need most) need told e).0))

pub takes : (most need told blocks : ℕ) → Some told ≡ within most need → (blocks == told) ≡ (nat_le need most && (blocks == need))
takes most need told blocks e =
    let both = some_case (nat_le need most) need told e in
    ap (λ n. blocks == n) both.1 ∙ sym (ap (λ t. t && (blocks == need)) both.0)

pub takes_not : (most need blocks : ℕ) → None ≡ within most need → false ≡ (nat_le need most && (blocks == need))
takes_not most need blocks e = sym (ap (λ t. t && (blocks == need)) (none_case (nat_le need most) need e))
