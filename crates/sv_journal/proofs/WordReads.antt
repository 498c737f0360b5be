-- What single words are read as, and how that is spelled.
use Rattle.std.proofs.Common.{◌≡◌, ◌≤◌, ◌<◌, ◌^◌, ◌==◌, ◌∙◌, ℕ, zero, suc, ℤ, pos, negsuc, List, [], ◌∷◌, get_or, drop, Bool, true, false, cond, codes, nat_eq, Option, Some, None, IfSome, subst, sym, ap, refl, arith}
use Rattle.std.specs.Cmp.Lexicographic.{pointwise}
use Rattle.std.specs.Fmt.{decimal, signed_decimal}
use Rattle.std.specs.Int.{w64}
use Rattle.std.specs.Prelude.{FitsSigned}
use Rattle.std.specs.Str.Parse.{AllDigits}
use Rattle.std.proofs.lemmas.Bool.{eqb-true, ne_eqb}
use Rattle.std.proofs.lemmas.Str.Parse.{digit_at}
use Rattle.std.proofs.Math.Dec.{eqb-suc-zero}
use Rattle.sv_form.specs.declared.kind.Kind.{Kind}
use Rattle.sv_form.specs.declared.kind.Kind.TheVariants as kinds
use Rattle.sv_plain.specs.declared.fs.mode.Mode.{Mode}
use Rattle.sv_plain.specs.declared.fs.mode.Mode.TheVariants as modes
use Rattle.sv_journal.specs.Fits.{IsByte, IsLong, IsShort}
use Rattle.sv_journal.specs.Outcome.{◌>>=◌}
use Rattle.sv_journal.specs.Spelling.{kind_text, mode_text, octal}
use Rattle.sv_journal.specs.Word.{below_zero, kind_of, mode_of, number_of, offset_of}
use Rattle.sv_journal.proofs.NumberWords.{IsNumeralOf, decimal_numeral, decimal_read, number_read, read_decimal, read_number}
use Rattle.sv_journal.proofs.OctalWords.{octal_numeral, octal_of}
use Rattle.sv_journal.proofs.WordCuts.{IsWord, Reads, literal_word, reads_as, same_text, step}

-- ---- numbers

decimal-word : (n : ℕ) → n < 2 ^ 64 → IsWord (decimal n)
decimal-word n small k lt = let numeral = decimal_numeral n small in omega (arith, digit_at (decimal n) k numeral.all lt)

pub number-reads : (most : ℕ) → most < 2 ^ 64 → Reads (number_of 10 most) decimal (λ n. n ≤ most)
number-reads most small = record {
  sound = λ w. read_decimal most w small;
  back = λ n fits. decimal_read most n small fits;
  word = λ n fits. decimal-word n (omega arith);
}

pub byte-reads : Reads (number_of 10 255) decimal IsByte
byte-reads = reads_as (number-reads 255 (omega arith)) IsByte (λ n h. omega arith) (λ n h. omega arith)

pub short-reads : Reads (number_of 10 65535) decimal IsShort
short-reads = reads_as (number-reads 65535 (omega arith)) IsShort (λ n h. omega arith) (λ n h. omega arith)

pub long-reads : Reads (number_of 10 4294967295) decimal IsLong
long-reads = reads_as (number-reads 4294967295 (omega arith)) IsLong (λ n h. omega arith) (λ n h. omega arith)

more_digits : (ds : List ℕ) → AllDigits 8 ds → AllDigits 10 ds
more_digits [] h = tt
more_digits (c ∷ cs) h = (omega arith, more_digits cs h.1)

pub mode_bits-reads : Reads (number_of 8 65535) octal IsShort
mode_bits-reads = record {
  sound = λ w. by w (number_of 8 65535 w) (read_number 8 65535 w);
  back = λ n fits. number_read 8 65535 (octal n) n (omega arith) (octal_numeral n (omega arith));
  word = λ n fits k lt. let numeral = octal_numeral n (omega arith) in omega (arith, digit_at (octal n) k (more_digits (octal n) numeral.all) lt);
}
  where
    by : (w : List ℕ) (o : Option ℕ) → IfSome o (λ n. (n ≤ 65535) × IsNumeralOf 8 w n) → IfSome o (λ n. IsShort n × (w ≡ octal n))
    by w None h = tt
    by w (Some n) h = (omega (arith, h.0), octal_of w n h.0 h.1)

-- ---- offsets

no_minus : (n : ℕ) → n < 2 ^ 64 → (get_or (decimal n) 0 0 == 45) ≡ false
no_minus n small = let numeral = decimal_numeral n small in ne_eqb (get_or (decimal n) 0 0) 45 (λ e. omega (arith, digit_at (decimal n) 0 numeral.all numeral.some))

begins : (w : List ℕ) → get_or w 0 0 ≡ 45 → w ≡ 45 ∷ drop 1 w
begins [] h = absurd (omega arith)
begins (c ∷ cs) h = ap (λ (x : ℕ). x ∷ cs) h

below-sound : (w : List ℕ) (n : ℕ) → w ≡ 45 ∷ decimal n → n ≤ 9223372036854775808 → IfSome (below_zero n) (λ z. FitsSigned w64 z × (w ≡ signed_decimal z))
below-sound w zero is fits = tt
below-sound w (suc m) is fits = subst (λ (b : Bool). IfSome (cond b None (Some (negsuc m))) (λ z. FitsSigned w64 z × (w ≡ signed_decimal z))) (sym (eqb-suc-zero m)) (record { sfits = omega arith }, is)

offset-sound : (w : List ℕ) → IfSome (offset_of w) (λ z. FitsSigned w64 z × (w ≡ signed_decimal z))
offset-sound w = by (get_or w 0 0 == 45) refl
  where
    by : (b : Bool) → (get_or w 0 0 == 45) ≡ b → IfSome (cond b (number_of 10 9223372036854775808 (drop 1 w) >>= below_zero) (number_of 10 9223372036854775807 w >>= λ n. Some (pos n))) (λ z. FitsSigned w64 z × (w ≡ signed_decimal z))
    by true h = step (number_of 10 9223372036854775808 (drop 1 w)) below_zero (λ n. (n ≤ 9223372036854775808) × (drop 1 w ≡ decimal n)) _ (read_decimal 9223372036854775808 (drop 1 w) (omega arith))
        (λ n is. below-sound w n (begins w (eqb-true (get_or w 0 0) 45 h) ∙ ap (λ (t : List ℕ). 45 ∷ t) is.1) is.0)
    by false h = step (number_of 10 9223372036854775807 w) (λ n. Some (pos n)) (λ n. (n ≤ 9223372036854775807) × (w ≡ decimal n)) _ (read_decimal 9223372036854775807 w (omega arith))
        (λ n is. (record { sfits = omega (arith, is.0) }, is.1))

offset-back : (z : ℤ) → FitsSigned w64 z → offset_of (signed_decimal z) ≡ Some z
offset-back (pos n) fits =
    let small = fits.sfits in
    ap (λ (b : Bool). cond b (number_of 10 9223372036854775808 (drop 1 (decimal n)) >>= below_zero) (number_of 10 9223372036854775807 (decimal n) >>= λ m. Some (pos m))) (no_minus n (omega arith))
    ∙ ap (λ (o : Option ℕ). o >>= λ m. Some (pos m)) (decimal_read 9223372036854775807 n (omega arith) (omega arith))
offset-back (negsuc n) fits =
    let small = fits.sfits in
    ap (λ (o : Option ℕ). o >>= below_zero) (decimal_read 9223372036854775808 (suc n) (omega arith) (omega arith))
    ∙ ap (λ (b : Bool). cond b None (Some (negsuc n))) (eqb-suc-zero n)

offset-word : (z : ℤ) → FitsSigned w64 z → IsWord (signed_decimal z)
offset-word (pos n) fits = let small = fits.sfits in decimal-word n (omega arith)
offset-word (negsuc n) fits = let small = fits.sfits in with_minus (decimal (suc n)) (decimal-word (suc n) (omega arith))
  where
    with_minus : (w : List ℕ) → IsWord w → IsWord (45 ∷ w)
    with_minus w h zero lt = omega arith
    with_minus w h (suc k) lt = h k (omega arith)

pub offset-reads : Reads offset_of signed_decimal (FitsSigned w64)
offset-reads = record { sound = offset-sound; back = offset-back; word = offset-word }

-- ---- letters

kind-sound : (w : List ℕ) → IfSome (kind_of w) (λ k. Unit {0} × (w ≡ kind_text k))
kind-sound w = first (pointwise nat_eq w (codes "f")) refl
  where
    second : (b : Bool) → pointwise nat_eq w (codes "d") ≡ b → IfSome (cond b (Some kinds.Dir) None) (λ k. Unit {0} × (w ≡ kind_text k))
    second true h = (tt, same_text w (codes "d") h)
    second false h = tt

    first : (b : Bool) → pointwise nat_eq w (codes "f") ≡ b → IfSome (cond b (Some kinds.File) (cond (pointwise nat_eq w (codes "d")) (Some kinds.Dir) None)) (λ k. Unit {0} × (w ≡ kind_text k))
    first true h = (tt, same_text w (codes "f") h)
    first false h = second (pointwise nat_eq w (codes "d")) refl

kind-back : (k : Kind) → kind_of (kind_text k) ≡ Some k
kind-back kinds.File = refl
kind-back kinds.Dir = refl

kind-word : (k : Kind) → IsWord (kind_text k)
kind-word kinds.File = literal_word (codes "f") refl
kind-word kinds.Dir = literal_word (codes "d") refl

pub kind-reads : Reads kind_of kind_text (λ _. Unit {0})
kind-reads = record { sound = kind-sound; back = λ k _. kind-back k; word = λ k _. kind-word k }

mode-sound : (w : List ℕ) → IfSome (mode_of w) (λ m. Unit {0} × (w ≡ mode_text m))
mode-sound w = first (pointwise nat_eq w (codes "r")) refl
  where
    third : (b : Bool) → pointwise nat_eq w (codes "rw") ≡ b → IfSome (cond b (Some modes.RW) None) (λ m. Unit {0} × (w ≡ mode_text m))
    third true h = (tt, same_text w (codes "rw") h)
    third false h = tt

    second : (b : Bool) → pointwise nat_eq w (codes "w") ≡ b → IfSome (cond b (Some modes.W) (cond (pointwise nat_eq w (codes "rw")) (Some modes.RW) None)) (λ m. Unit {0} × (w ≡ mode_text m))
    second true h = (tt, same_text w (codes "w") h)
    second false h = third (pointwise nat_eq w (codes "rw")) refl

    first : (b : Bool) → pointwise nat_eq w (codes "r") ≡ b → IfSome (cond b (Some modes.R) (cond (pointwise nat_eq w (codes "w")) (Some modes.W) (cond (pointwise nat_eq w (codes "rw")) (Some modes.RW) None))) (λ m. Unit {0} × (w ≡ mode_text m))
    first true h = (tt, same_text w (codes "r") h)
    first false h = second (pointwise nat_eq w (codes "w")) refl

mode-back : (m : Mode) → mode_of (mode_text m) ≡ Some m
mode-back modes.R = refl
mode-back modes.W = refl
mode-back modes.RW = refl

mode-word : (m : Mode) → IsWord (mode_text m)
mode-word modes.R = literal_word (codes "r") refl
mode-word modes.W = literal_word (codes "w") refl
mode-word modes.RW = literal_word (codes "rw") refl

pub mode-reads : Reads mode_of mode_text (λ _. Unit {0})
mode-reads = record { sound = mode-sound; back = λ m _. mode-back m; word = λ m _. mode-word m }
