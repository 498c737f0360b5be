-- Pairs of lower case hexadecimal digits.
use Rattle.std.proofs.Common.{◌≡◌, ◌≤◌, ◌<◌, ◌+◌, ◌*◌, ◌/◌, ◌%◌, ◌==◌, ◌&&◌, ◌||◌, ◌∙◌, not, ℕ, zero, suc, List, [], ◌∷◌, get_or, Bool, true, false, unwrap_or, Option, Some, None, Result, Ok, Err, sym, ap, refl, arith, inl, inr}
use Rattle.std.specs.List.{list_all}
use Rattle.std.specs.Result.{result_unwrap_or}
use Rattle.std.proofs.lemmas.Bool.{and_parts, cases_lt, eqb-true, false≢true}
use Rattle.hex.specs.Hex.{decode_pairs, digit_or_error, encode_lower, encode_with, hex_digit_value, lower_digits, pair_value, value_at, ◌>>=◌}
use Rattle.hex.specs.declared.error.FromHexError.{FromHexError}
use Rattle.sv_form.specs.Number.{AreBytes}
use Rattle.sv_journal.specs.Word.{is_lower_hex}
use Rattle.sv_plain.proofs.DigitValues.{and_true}

-- ---- digits

-- a lower case digit is the one in the table at its value; a test of each byte, which computes
abbrev comes_back : ℕ → Bool
comes_back c = not (is_lower_hex c) || (get_or lower_digits (unwrap_or (hex_digit_value c) 99) 0 == c)

abbrev all_come_back : ℕ → Bool
all_come_back zero = true
all_come_back (suc n) = comes_back n && all_come_back n

come_back-at : (n c : ℕ) → all_come_back n ≡ true → c < n → comes_back c ≡ true
come_back-at zero c h lt = absurd (omega arith)
come_back-at (suc n) c h lt =
    let parts = and_parts (comes_back n) (all_come_back n) h in
    elim (cases_lt c n) [
      | inl below ↦ come_back-at n c parts.1 below
      | inr top ↦ let e : c ≡ n = omega arith in rw e parts.0
    ]

or_other : (a b : Bool) → (not a || b) ≡ true → a ≡ true → b ≡ true
or_other true b h is = h
or_other false b h is = absurd (false≢true is)

lower_small : (c : ℕ) → is_lower_hex c ≡ true → c < 103
lower_small c h = grind (arith)

pub lower_large : (c : ℕ) → is_lower_hex c ≡ true → 33 ≤ c
lower_large c h = grind (arith)

digit_back : (c v : ℕ) → is_lower_hex c ≡ true → hex_digit_value c ≡ Some v → get_or lower_digits v 0 ≡ c
digit_back c v lower value =
    ap (λ (o : Option ℕ). get_or lower_digits (unwrap_or o 99) 0) (sym value)
    ∙ eqb-true _ c (or_other (is_lower_hex c) _ (come_back-at 103 c refl (lower_small c lower)) lower)

-- the digits of the table are lower case
abbrev all_lower : ℕ → Bool
all_lower zero = true
all_lower (suc n) = is_lower_hex (get_or lower_digits n 0) && all_lower n

all_lower-at : (n k : ℕ) → all_lower n ≡ true → k < n → is_lower_hex (get_or lower_digits k 0) ≡ true
all_lower-at zero k h lt = absurd (omega arith)
all_lower-at (suc n) k h lt =
    let parts = and_parts (is_lower_hex (get_or lower_digits n 0)) (all_lower n) h in
    elim (cases_lt k n) [
      | inl below ↦ all_lower-at n k parts.1 below
      | inr top ↦ let e : k ≡ n = omega arith in rw e parts.0
    ]

-- ---- pairs of digits

bind_ok : {A B : Type 0} (r : Result A FromHexError) (f : A → Result B FromHexError) (y : B) → (r >>= f) ≡ Ok y → (x : A) × (r ≡ Ok x) × (f x ≡ Ok y)
bind_ok (Ok x) f y h = (x, refl, h)
bind_ok (Err e) f y h = cc h

digit_read : (c i : ℕ) (o : Option ℕ) (v : ℕ) → digit_or_error c i o ≡ Ok v → o ≡ Some v
digit_read c i (Some w) v h = ap Some (ap (λ (r : Result ℕ FromHexError). result_unwrap_or r 0) h)
digit_read c i None v h = cc h

digit_small : (c v : ℕ) → hex_digit_value c ≡ Some v → v < 16
digit_small c v h = grind (arith)

pub pairs_spelled : (i : ℕ) (s bytes : List ℕ) → list_all is_lower_hex s ≡ true → decode_pairs i s ≡ Ok bytes → s ≡ encode_lower bytes
unfolding decode_pairs encode_with
pairs_spelled i [] bytes lower h = ap encode_lower (ap (λ (r : Result (List ℕ) FromHexError). result_unwrap_or r []) h)
pairs_spelled i (a ∷ []) bytes lower h = cc h
pairs_spelled i (a ∷ b ∷ rest) bytes lower h =
    let la = and_parts (is_lower_hex a) (is_lower_hex b && list_all is_lower_hex rest) lower in
    let lb = and_parts (is_lower_hex b) (list_all is_lower_hex rest) la.1 in
    let p0 = bind_ok (pair_value a b i) _ bytes h in
    let p1 = bind_ok (value_at a i) _ p0.0 p0.1 in
    let p2 = bind_ok (value_at b (i + 1)) _ p0.0 p1.2 in
    let p3 = bind_ok (decode_pairs (i + 2) rest) _ bytes p0.2 in
    let ih = pairs_spelled (i + 2) rest p3.0 lb.1 p3.1 in
    let e : p0.0 ∷ p3.0 ≡ bytes = ap (λ (r : Result (List ℕ) FromHexError). result_unwrap_or r []) p3.2 in
    let ra = digit_read a i (hex_digit_value a) p1.0 p1.1 in
    let rb = digit_read b (i + 1) (hex_digit_value b) p2.0 p2.1 in
    let va = digit_small a p1.0 ra in
    let vb = digit_small b p2.0 rb in
    let byte : p1.0 * 16 + p2.0 ≡ p0.0 = ap (λ (r : Result ℕ FromHexError). result_unwrap_or r 0) p2.2 in
    let high : p0.0 / 16 ≡ p1.0 = omega arith in
    let low : p0.0 % 16 ≡ p2.0 = omega arith in
    let da : a ≡ get_or lower_digits (p0.0 / 16) 0 = sym (ap (λ (k : ℕ). get_or lower_digits k 0) high ∙ digit_back a p1.0 la.0 ra) in
    let db : b ≡ get_or lower_digits (p0.0 % 16) 0 = sym (ap (λ (k : ℕ). get_or lower_digits k 0) low ∙ digit_back b p2.0 lb.0 rb) in
    ap (λ (c : ℕ). c ∷ b ∷ rest) da ∙ ap (λ (c : ℕ). get_or lower_digits (p0.0 / 16) 0 ∷ c ∷ rest) db
    ∙ ap (λ (t : List ℕ). get_or lower_digits (p0.0 / 16) 0 ∷ get_or lower_digits (p0.0 % 16) 0 ∷ t) ih ∙ ap encode_lower e

pub spelled_lower : (bytes : List ℕ) → AreBytes bytes → list_all is_lower_hex (encode_lower bytes) ≡ true
unfolding encode_with
spelled_lower [] fits = refl
spelled_lower (b ∷ rest) fits =
    let small : b < 256 = fits 0 in
    and_true (is_lower_hex (get_or lower_digits (b / 16) 0)) (is_lower_hex (get_or lower_digits (b % 16) 0) && list_all is_lower_hex (encode_lower rest)) (all_lower-at 16 (b / 16) refl (omega arith))
    (and_true (is_lower_hex (get_or lower_digits (b % 16) 0)) (list_all is_lower_hex (encode_lower rest)) (all_lower-at 16 (b % 16) refl (omega arith)) (spelled_lower rest (λ k. fits (suc k))))
