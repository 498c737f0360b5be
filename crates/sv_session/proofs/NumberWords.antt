-- Words that are numbers: decimal digits, without sign or leading zero.
use Rattle.std.proofs.Common.{◌≡◌, ◌≢◌, ◌^◌, ◌<◌, ◌≤◌, ◌⊎◌, ℕ, List, [], ◌∷◌, length, get_or, true, Result, Ok, Err, IfSome, IfNone, arith, rules, sym, ◌∙◌, ap, subst, inl, inr}
use Rattle.std.specs.Fmt.{decimal}
use Rattle.std.specs.Result.{result_ok}
use Rattle.std.specs.Str.{all_ascii_digits}
use Rattle.std.specs.Str.Parse.{ParsesUnsigned, digits_value}
use Rattle.std.proofs.lemmas.Str.Parse.{IsNumeralModel, numerals_by_value, parse_plain}
use Rattle.std.proofs.lemmas.Fmt.{digits_decimal, digits_value-decimal, decimal-digits_value, decimal_nonempty, first_decimal, decimal_digit}
use Rattle.std.proofs.lemmas.Bool.{cases_lt}

own : IsNumeralModel (λ ds. all_ascii_digits ds ≡ true) (digits_value 10)
own = numerals_by_value (λ ds. all_ascii_digits ds ≡ true) (search rules)

-- the first byte of a number's word is a digit, and 0 only in `0` itself
first_of : (word : List ℕ) (n : ℕ) → n < 2 ^ 32 → word ≡ decimal n → (48 < get_or word 0 0) ⊎ (word ≡ 48 ∷ [])
first_of word n fits is =
    elim (cases_lt 0 n) as (λ _. (48 < get_or word 0 0) ⊎ (word ≡ 48 ∷ [])) [
      | inl pos ↦ inl (subst (λ (w : List ℕ). 48 < get_or w 0 0) (sym is) (first_decimal n pos (omega arith)))
      | inr none ↦ let zero_is : n ≡ 0 = omega arith in inr (is ∙ ap decimal zero_is ∙ decimal_digit 0 (omega arith))
    ]

-- a number that was read from a word without sign or leading zero is written as that word
pub read_decimal : (E : Type 0) (word : List ℕ) (r : Result ℕ E) → ParsesUnsigned 32 10 word r → get_or word 0 0 ≢ 43
    → (get_or word 0 0 ≡ 48 → length word ≤ 1) → IfSome (result_ok r) (λ n. word ≡ decimal n)
read_decimal E word (Ok n) parsed plain zeros =
    let read = parse_plain own {E = E} 32 word (Ok n) parsed plain in
    sym (decimal-digits_value own word read.0.0 read.0.1 (λ first. omega (arith, zeros first, read.0.1)) (omega (arith, read.0.2)))
    ∙ ap decimal (sym read.1)
read_decimal E word (Err e) parsed plain zeros = tt

-- a word of which no number was read is no number's
pub no_decimal : (E : Type 0) (word : List ℕ) (r : Result ℕ E) → ParsesUnsigned 32 10 word r → get_or word 0 0 ≢ 43
    → IfNone (result_ok r) ((n : ℕ) → n < 2 ^ 32 → word ≡ decimal n → ⊥)
no_decimal E word (Ok n) parsed plain = tt
no_decimal E word (Err e) parsed plain = λ n fits is.
    let none = parse_plain own {E = E} 32 word (Err e) parsed plain in
    let big : n < 2 ^ 64 = omega arith in
    let value : digits_value 10 word ≡ n = ap (digits_value 10) is ∙ digits_value-decimal own n big in
    none (
      subst (λ (w : List ℕ). all_ascii_digits w ≡ true) (sym is) (digits_decimal own n big),
      subst (λ (w : List ℕ). 0 < length w) (sym is) (decimal_nonempty n big),
      omega arith,
    )

-- a number's word has no sign
pub no_sign : (word : List ℕ) (n : ℕ) → n < 2 ^ 32 → word ≡ decimal n → get_or word 0 0 ≡ 43 → ⊥
no_sign word n fits is sign =
    elim (first_of word n fits is) as (λ _. ⊥) [ inl digit ↦ omega arith | inr zero_is ↦ let e : get_or word 0 0 ≡ 48 = ap (λ (w : List ℕ). get_or w 0 0) zero_is in omega arith ]

-- nor a leading zero
pub no_zero : (word : List ℕ) (n : ℕ) → n < 2 ^ 32 → word ≡ decimal n → get_or word 0 0 ≡ 48 → length word ≤ 1
no_zero word n fits is first =
    elim (first_of word n fits is) as (λ _. length word ≤ 1) [ inl digit ↦ absurd (omega arith) | inr zero_is ↦ let e : length word ≡ 1 = ap length zero_is in omega arith ]
