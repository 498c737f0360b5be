-- Octal numbers without leading zero, read and spelled.
use Rattle.std.proofs.Common.{◌≡◌, ◌≤◌, ◌<◌, ◌+◌, ◌-◌, ◌*◌, ◌^◌, ◌/◌, ◌%◌, ◌++◌, ◌∙◌, ℕ, zero, suc, List, [], ◌∷◌, length, get_or, false, cond, Bool, lt_of_lt_of_le, append-nil, subst, sym, ap, refl, arith, lit≤, inl, inr}
use Rattle.std.specs.Char.{digit_value}
use Rattle.std.specs.Fmt.{digit_glyph, digits, digits_onto}
use Rattle.std.specs.Str.Parse.{AllDigits, digits_value_after}
use Rattle.std.proofs.lemmas.Bool.{cases_eq, cases_lt, eq-eqb, lt-ltb, ne_eqb}
use Rattle.std.proofs.lemmas.Fmt.{digits_is_IsNumeral}
use Rattle.std.proofs.lemmas.Str.{digit_value_digit}
use Rattle.std.proofs.lemmas.Str.Parse.{digit_from_value}
use Rattle.sv_journal.specs.Spelling.{octal}
use Rattle.sv_journal.proofs.NumberWords.{IsNumeralOf}

onto_last : (n : ℕ) (acc : List ℕ) (i : ℕ) → 0 < i → n / 8 ≡ 0 → digits_onto i 8 false n acc ≡ digit_glyph false (n % 8) ∷ acc
onto_last n acc zero h e = absurd (omega arith)
onto_last n acc (suc k) h e = ap (λ (b : Bool). cond b (digit_glyph false (n % 8) ∷ acc) (digits_onto k 8 false (n / 8) (digit_glyph false (n % 8) ∷ acc))) (eq-eqb (n / 8) 0 e)

onto_next : (n : ℕ) (acc : List ℕ) (k : ℕ) → (n / 8 ≡ 0 → ⊥) → digits_onto (suc k) 8 false n acc ≡ digits_onto k 8 false (n / 8) (digit_glyph false (n % 8) ∷ acc)
onto_next n acc k e = ap (λ (b : Bool). cond b (digit_glyph false (n % 8) ∷ acc) (digits_onto k 8 false (n / 8) (digit_glyph false (n % 8) ∷ acc))) (ne_eqb (n / 8) 0 e)

onto_step : (n : ℕ) (acc : List ℕ) (i : ℕ) → 0 < i → (n / 8 ≡ 0 → ⊥) → digits_onto i 8 false n acc ≡ digits_onto (i - 1) 8 false (n / 8) (digit_glyph false (n % 8) ∷ acc)
onto_step n acc zero h e = absurd (omega arith)
onto_step n acc (suc k) h e =
    let one : k ≡ suc k - 1 = omega arith in
    onto_next n acc k e ∙ ap (λ (j : ℕ). digits_onto j 8 false (n / 8) (digit_glyph false (n % 8) ∷ acc)) one

glyph_of : (c : ℕ) → digit_value c < 8 → digit_glyph false (digit_value c) ≡ c
glyph_of c small =
    let is = digit_value_digit c (digit_from_value c (omega arith)) in
    let shown : digit_glyph false (digit_value c) ≡ 48 + digit_value c = ap (λ (b : Bool). cond b (48 + digit_value c) (87 + digit_value c)) (lt-ltb (digit_value c) 10 (omega arith)) in
    omega (arith, digit_from_value c (omega arith))

-- the digits behind a number that is not zero are the last ones of what they make
onto_after : (k n : ℕ) (ds acc : List ℕ) → 0 < n → AllDigits 8 ds → length ds < k → digits_onto k 8 false (digits_value_after 8 n ds) acc ≡ digits_onto (k - length ds) 8 false n (ds ++ acc)
onto_after k n [] acc some d small = let same : k ≡ k - length {A = ℕ} [] = omega arith in ap (λ (j : ℕ). digits_onto j 8 false n acc) same
onto_after k n (c ∷ cs) acc some d small =
    let m : ℕ = n * 8 + digit_value c in
    let back : m / 8 ≡ n = omega (arith, d.0) in
    let last : m % 8 ≡ digit_value c = omega (arith, d.0) in
    let glyph : digit_glyph false (m % 8) ≡ c = ap (digit_glyph false) last ∙ glyph_of c d.0 in
    let fewer : k - length cs - 1 ≡ k - suc (length cs) = omega arith in
    onto_after k m cs acc (omega arith) d.1 (omega arith)
    ∙ onto_step m (cs ++ acc) (k - length cs) (omega arith) (λ none. omega arith)
    ∙ ap (λ (q : ℕ). digits_onto (k - length cs - 1) 8 false q (digit_glyph false (m % 8) ∷ (cs ++ acc))) back
    ∙ ap (λ (g : ℕ). digits_onto (k - length cs - 1) 8 false n (g ∷ (cs ++ acc))) glyph
    ∙ ap (λ (j : ℕ). digits_onto j 8 false n (c ∷ (cs ++ acc))) fewer

grows : (n : ℕ) (ds : List ℕ) → n ≤ digits_value_after 8 n ds
grows n [] = omega arith
grows n (c ∷ cs) = omega (arith, grows (n * 8 + digit_value c) cs)

-- seven digits, the first of them no zero, are over 16 bits
long_is_large : (n : ℕ) (ds : List ℕ) → 0 < n → 6 ≤ length ds → 65535 < digits_value_after 8 n ds
long_is_large n (a ∷ b ∷ c ∷ d ∷ e ∷ f ∷ ds) some long =
    omega (arith, grows ((((((n * 8 + digit_value a) * 8 + digit_value b) * 8 + digit_value c) * 8 + digit_value d) * 8 + digit_value e) * 8 + digit_value f) ds)
long_is_large n [] some long = absurd (omega arith)
long_is_large n (a ∷ []) some long = absurd (omega arith)
long_is_large n (a ∷ b ∷ []) some long = absurd (omega arith)
long_is_large n (a ∷ b ∷ c ∷ []) some long = absurd (omega arith)
long_is_large n (a ∷ b ∷ c ∷ d ∷ []) some long = absurd (omega arith)
long_is_large n (a ∷ b ∷ c ∷ d ∷ e ∷ []) some long = absurd (omega arith)

first_value : (c : ℕ) → digit_value c < 8 → (c ≡ 48 → ⊥) → 0 < digit_value c
first_value c small other = let is = digit_value_digit c (digit_from_value c (omega arith)) in let at = digit_from_value c (omega arith) in omega (arith, other)

pub octal_of : (word : List ℕ) (n : ℕ) → n ≤ 65535 → IsNumeralOf 8 word n → word ≡ octal n
unfolding digits
octal_of [] n small numeral = absurd (omega (arith, numeral.some))
octal_of (c ∷ []) n small numeral =
    let one : 0 * 8 + digit_value c ≡ n = numeral.value in
    let d = numeral.all.0 in
    sym (
    ap (λ (m : ℕ). digits_onto 64 8 false m []) (sym one)
    ∙ onto_last (0 * 8 + digit_value c) [] 64 (omega arith) (omega arith)
    ∙ ap (λ (g : ℕ). g ∷ []) (ap (digit_glyph false) (omega arith) ∙ glyph_of c d)
    )
octal_of (c ∷ e ∷ cs) n small numeral =
    let d = numeral.all.0 in
    let some : 0 < digit_value c = first_value c d (λ z. omega (arith, numeral.plain z)) in
    let value : digits_value_after 8 (0 * 8 + digit_value c) (e ∷ cs) ≡ n = numeral.value in
    elim (cases_lt (length cs) 5) as (λ _. c ∷ e ∷ cs ≡ digits_onto 64 8 false n []) [
      | inl short ↦ sym (
          ap (λ (m : ℕ). digits_onto 64 8 false m []) (sym value)
          ∙ onto_after 64 (0 * 8 + digit_value c) (e ∷ cs) [] (omega arith) numeral.all.1 (omega arith)
          ∙ onto_last (0 * 8 + digit_value c) ((e ∷ cs) ++ []) (64 - length (e ∷ cs)) (omega arith) (omega arith)
          ∙ ap (λ (g : ℕ). g ∷ ((e ∷ cs) ++ [])) (ap (digit_glyph false) (omega arith) ∙ glyph_of c d)
          ∙ ap (λ (t : List ℕ). c ∷ t) (append-nil (e ∷ cs))
          )
      | inr long ↦ absurd (let large = long_is_large (0 * 8 + digit_value c) (e ∷ cs) (omega arith) (omega arith) in omega arith)
    ]

-- ---- what is written is a numeral

-- what so many digits can write
abbrev room : ℕ → ℕ
room zero = 1
room (suc k) = 8 * room k

small_glyph : (d : ℕ) → d < 8 → digit_glyph false d ≡ 48 + d
small_glyph d small = ap (λ (b : Bool). cond b (48 + d) (87 + d)) (lt-ltb d 10 (omega arith))

first_onto : (k n : ℕ) (acc : List ℕ) → 0 < n → n < room k → 48 < get_or (digits_onto k 8 false n acc) 0 0
first_onto zero n acc some small = let one : room zero ≡ 1 = refl in absurd (omega arith)
first_onto (suc k) n acc some small =
    let more_room : room (suc k) ≡ 8 * room k = refl in
    elim (cases_eq (n / 8) 0) as (λ _. 48 < get_or (digits_onto (suc k) 8 false n acc) 0 0) [
      | inl last ↦
          let shown : get_or (digits_onto (suc k) 8 false n acc) 0 0 ≡ 48 + n % 8 = ap (λ (xs : List ℕ). get_or xs 0 0) (onto_last n acc (suc k) (omega arith) last) ∙ small_glyph (n % 8) (omega arith) in
          omega arith
      | inr more ↦
          subst (λ (xs : List ℕ). 48 < get_or xs 0 0) (sym (onto_next n acc k more)) (first_onto k (n / 8) (digit_glyph false (n % 8) ∷ acc) (omega arith) (omega arith))
    ]

first_octal : (n : ℕ) → n < 2 ^ 16 → get_or (octal n) 0 0 ≡ 48 → length (octal n) ≡ 1
unfolding digits
first_octal n small first =
    elim (cases_lt 0 n) as (λ _. length (digits_onto 64 8 false n []) ≡ 1) [
      | inl some ↦ absurd (let above = first_onto 64 n [] some (lt_of_lt_of_le small (lit≤ tt)) in omega arith)
      | inr none ↦ let zero_is : n ≡ 0 = omega arith in ap (λ (m : ℕ). length (digits_onto 64 8 false m [])) zero_is
    ]

pub octal_numeral : (n : ℕ) → n < 2 ^ 16 → IsNumeralOf 8 (octal n) n
octal_numeral n small =
    let is = digits_is_IsNumeral 8 false (lit≤ tt) (lit≤ tt) n (lt_of_lt_of_le small (lit≤ tt)) in
    record { some = is.0.0; all = is.0.1; plain = first_octal n small; value = is.1 }
