-- Numbers without sign or leading zero, decimal and octal, read and spelled.
use Rattle.std.proofs.Common.{◌≡◌, ◌≤◌, ◌<◌, ◌^◌, ◌==◌, ◌&&◌, ◌∙◌, ℕ, List, [], ◌∷◌, length, get_or, Bool, true, false, cond, nat_lt, nat_le, Option, Some, None, IfSome, sym, ap, refl, arith, inl, inr}
use Rattle.std.specs.Char.{digit_value}
use Rattle.std.specs.Fmt.{decimal}
use Rattle.std.specs.List.{list_all}
use Rattle.std.specs.Str.Parse.{AllDigits, digits_value}
use Rattle.std.proofs.lemmas.Bool.{cases_lt, false≢true, true≢false, lt-ltb, le-leb, ltb-true, leb-true, eqb-true}
use Rattle.std.proofs.lemmas.Fmt.{decimal-digits_value, decimal_digit, decimal_is_IsNumeral, first_decimal}
use Rattle.std.proofs.lemmas.Str.Parse.{IsNumeralModel, numerals_by_value, tells_digits}
use Rattle.sv_journal.specs.Word.{are_digits, has_leading_zero, number_of, value_of}
use Rattle.sv_plain.proofs.DigitValues.{and_true}

own : IsNumeralModel (AllDigits 10) (digits_value 10)
own = numerals_by_value (AllDigits 10) tells_digits

abbrev is_digit : ℕ → ℕ → Bool
is_digit base c = nat_lt (digit_value c) base

pub and_parts : (a b : Bool) → (a && b) ≡ true → (a ≡ true) × (b ≡ true)
and_parts true b h = (refl, h)
and_parts false b h = absurd (false≢true h)

to_digits : (base : ℕ) (word : List ℕ) → list_all (is_digit base) word ≡ true → AllDigits base word
to_digits base [] h = tt
to_digits base (c ∷ cs) h = let k = and_parts (is_digit base c) (list_all (is_digit base) cs) h in (ltb-true (digit_value c) base k.0, to_digits base cs k.1)

from_digits : (base : ℕ) (word : List ℕ) → AllDigits base word → list_all (is_digit base) word ≡ true
from_digits base [] d = refl
from_digits base (c ∷ cs) d = and_true (is_digit base c) (list_all (is_digit base) cs) (lt-ltb (digit_value c) base d.0) (from_digits base cs d.1)

-- digits without leading zero, of this value
pub record IsNumeralOf (base : ℕ) (word : List ℕ) (n : ℕ) : Type 0 where
  pub some : 0 < length word
  pub all : AllDigits base word
  pub plain : get_or word 0 0 ≡ 48 → length word ≡ 1
  pub value : digits_value base word ≡ n

chosen : Bool → ℕ → Option ℕ
chosen b n = cond b (Some n) None

pub read_number : (base most : ℕ) (word : List ℕ) → IfSome (number_of base most word) (λ n. (n ≤ most) × IsNumeralOf base word n)
read_number base most word = by_zero (has_leading_zero word) refl
  where
    plain_first : has_leading_zero word ≡ false → get_or word 0 0 ≡ 48 → 0 < length word → length word ≡ 1
    plain_first plain first some =
        elim (cases_lt 1 (length word)) as (λ _. length word ≡ 1) [
          | inl more ↦ absurd (true≢false (sym (and_true (nat_lt 1 (length word)) (get_or word 0 0 == 48) (lt-ltb 1 (length word) more) (ap (λ (c : ℕ). c == 48) first)) ∙ plain))
          | inr one ↦ omega arith
        ]

    by_test : has_leading_zero word ≡ false → (b : Bool) → (are_digits base word && nat_le (digits_value base word) most) ≡ b → IfSome (cond b (Some (digits_value base word)) None) (λ n. (n ≤ most) × IsNumeralOf base word n)
    by_test plain true h =
        let parts = and_parts (are_digits base word) (nat_le (digits_value base word) most) h in
        let shape = and_parts (nat_lt 0 (length word)) (list_all (is_digit base) word) parts.0 in
        let some = ltb-true 0 (length word) shape.0 in
        (leb-true (digits_value base word) most parts.1, record { some = some; all = to_digits base word shape.1; plain = λ first. plain_first plain first some; value = refl })
    by_test plain false h = tt

    by_zero : (b : Bool) → has_leading_zero word ≡ b → IfSome (cond b None (value_of base most word)) (λ n. (n ≤ most) × IsNumeralOf base word n)
    by_zero true h = tt
    by_zero false h = by_test h (are_digits base word && nat_le (digits_value base word) most) refl

pub number_read : (base most : ℕ) (word : List ℕ) (n : ℕ) → n ≤ most → IsNumeralOf base word n → number_of base most word ≡ Some n
number_read base most word n fits numeral =
    by_zero (has_leading_zero word) refl
  where
    tested : (are_digits base word && nat_le (digits_value base word) most) ≡ true
    tested =
        let value = numeral.value in
        and_true (are_digits base word) (nat_le (digits_value base word) most)
        (and_true (nat_lt 0 (length word)) (list_all (is_digit base) word) (lt-ltb 0 (length word) numeral.some) (from_digits base word numeral.all)) (le-leb (digits_value base word) most (omega arith))

    by_zero : (b : Bool) → has_leading_zero word ≡ b → cond b None (value_of base most word) ≡ Some n
    by_zero true h =
        let parts = and_parts (nat_lt 1 (length word)) (get_or word 0 0 == 48) h in
        let long = ltb-true 1 (length word) parts.0 in
        let one = numeral.plain (eqb-true (get_or word 0 0) 48 parts.1) in
        absurd (omega arith)
    by_zero false h = ap (λ (b : Bool). cond b (Some (digits_value base word)) None) tested ∙ ap (λ (v : ℕ). Some v) numeral.value

-- ---- decimal

pub decimal_of : (word : List ℕ) (n : ℕ) → n < 2 ^ 64 → IsNumeralOf 10 word n → word ≡ decimal n
decimal_of word n small numeral =
    let value = numeral.value in
    sym (decimal-digits_value own word numeral.all numeral.some numeral.plain (omega arith)) ∙ ap decimal value

pub decimal_numeral : (n : ℕ) → n < 2 ^ 64 → IsNumeralOf 10 (decimal n) n
decimal_numeral n small =
    let is = decimal_is_IsNumeral n small in
    record { some = is.0.0; all = is.0.1; plain = plain; value = is.1 }
  where
    plain : get_or (decimal n) 0 0 ≡ 48 → length (decimal n) ≡ 1
    plain first =
        elim (cases_lt 0 n) as (λ _. length (decimal n) ≡ 1) [
          | inl some ↦ absurd (let above = first_decimal n some small in omega arith)
          | inr none ↦ let zero_is : n ≡ 0 = omega arith in ap (λ (m : ℕ). length (decimal m)) zero_is ∙ ap length (decimal_digit 0 (omega arith))
        ]

pub decimal_read : (most n : ℕ) → most < 2 ^ 64 → n ≤ most → number_of 10 most (decimal n) ≡ Some n
decimal_read most n small fits = number_read 10 most (decimal n) n fits (decimal_numeral n (omega arith))

pub read_decimal : (most : ℕ) (word : List ℕ) → most < 2 ^ 64 → IfSome (number_of 10 most word) (λ n. (n ≤ most) × (word ≡ decimal n))
read_decimal most word small = by (number_of 10 most word) (read_number 10 most word)
  where
    by : (o : Option ℕ) → IfSome o (λ n. (n ≤ most) × IsNumeralOf 10 word n) → IfSome o (λ n. (n ≤ most) × (word ≡ decimal n))
    by None h = tt
    by (Some n) h = (h.0, decimal_of word n (omega (arith, h.0)) h.1)
