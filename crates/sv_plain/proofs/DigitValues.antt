-- The value of a word that is read digit by digit.
use Rattle.std.proofs.Common.{◌≡◌, ◌<◌, ◌≤◌, ◌+◌, ◌*◌, ◌&&◌, ◌∙◌, ℕ, List, length, take, get_or, Bool, true, false, cond, nat_lt, nat_le, Option, Some, None, sym, ap, refl, arith}
use Rattle.std.proofs.lemmas.Bool.{false≢true, lt-ltb, le-leb, lt-leb}
use Rattle.std.proofs.lemmas.Int.Digits.{digits_value_more}
use Rattle.std.proofs.lemmas.Str.Parse.{digits_value-take-le}
use Rattle.std.proofs.lemmas.List.{take_all, get_or_default}
use Rattle.std.proofs.lemmas.List.Sums.{list_all-from_AllPass}
use Rattle.std.specs.Char.{digit_value}
use Rattle.std.specs.Str.Parse.{digits_value}
use Rattle.std.specs.List.{list_all}
use Rattle.sv_plain.specs.Digits.{are_digits, value_of}

pub and_false : (a b : Bool) → b ≡ false → (a && b) ≡ false
and_false true b h = h
and_false false b h = refl

pub and_true : (a b : Bool) → a ≡ true → b ≡ true → (a && b) ≡ true
and_true true b ha hb = hb
and_true false b ha hb = absurd (false≢true ha)

pub value_more : (base : ℕ) (word : List ℕ) (i value digit : ℕ) → i < length word → value ≡ digits_value base (take i word) → digit ≡ digit_value (get_or word i 0) → value * base + digit ≡ digits_value base (take (i + 1) word)
value_more base word i value digit lt is at = sym (digits_value_more base word i lt ∙ ap (λ (v : ℕ). v * base + digit_value (get_or word i 0)) (sym is) ∙ ap (λ (d : ℕ). value * base + d) (sym at))

pub value_step : (base : ℕ) (word : List ℕ) (i value ch digit b d : ℕ) → i < length word → value ≡ digits_value base (take i word) → ch ≡ get_or word i 0 → digit ≡ digit_value ch → b ≡ base → d ≡ digit → value * b + d ≡ digits_value base (take (i + 1) word)
value_step base word i value ch digit b d lt is at of same_base same =
    ap (λ (x : ℕ). value * x + d) same_base ∙ value_more base word i value d lt is (same ∙ of ∙ ap digit_value at)

-- the front of a word is too large already
pub too_large : (base most : ℕ) (word : List ℕ) (n : ℕ) → 1 ≤ base → most < digits_value base (take n word) → value_of base most word ≡ None
too_large base most word n some large =
    let above : most < digits_value base word = omega (arith, digits_value-take-le base word n some) in
    ap (λ (b : Bool). cond b (Some (digits_value base word)) (None)) (and_false (are_digits base word) (nat_le (digits_value base word) most) (lt-leb (digits_value base word) most above))

-- a word of digits whose value is not too large
pub value_read : (base most : ℕ) (word : List ℕ) (n value : ℕ) → 0 < length word → length word ≤ n → ((k : ℕ) → k < n → digit_value (get_or word k 0) < base) → value ≡ digits_value base (take n word) → value ≤ most → Some value ≡ value_of base most word
value_read base most word n value some all digits is fits =
    let whole : digits_value base (take n word) ≡ digits_value base word = ap (digits_value base) (take_all n word all) in
    let each : list_all (λ c. nat_lt (digit_value c) base) word ≡ true =
    list_all-from_AllPass (λ c. nat_lt (digit_value c) base) word (λ k d lt. ap (λ (c : ℕ). nat_lt (digit_value c) base) (get_or_default word k d 0 lt) ∙ lt-ltb (digit_value (get_or word k 0)) base (digits k (omega arith))) in
    let tested : are_digits base word ≡ true = and_true (nat_lt 0 (length word)) (list_all (λ c. nat_lt (digit_value c) base) word) (lt-ltb 0 (length word) some) each in
    let small : nat_le (digits_value base word) most ≡ true = le-leb (digits_value base word) most (omega arith) in
    let chosen : Bool → Option ℕ = λ b. cond b (Some (digits_value base word)) None in
    ap (λ (v : ℕ). Some v) (is ∙ whole) ∙ sym (ap chosen (and_true (are_digits base word) (nat_le (digits_value base word) most) tested small))
