-- No two answers of a call have one text.
use Rattle.std.proofs.Common.{◌≡◌, ◌≢◌, ◌<◌, ◌+◌, ◌^◌, ◌==◌, ◌∷◌, ◌++◌, ◌∙◌, not, ℕ, suc, List, [], Option, Some, length, get_or, find, nat_eq, All, Bool, true, false, codes, sym, ap, refl, subst, arith, inl, inr, append_assoc, unwrap_or, drop, ◌/◌, ◌%◌, if◌then◌else◌, cond, lit≤}
use Rattle.std.specs.Cmp.Lexicographic.{pointwise}
use Rattle.std.specs.Fmt.{decimal}
use Rattle.std.specs.Str.Parse.{AllDigits, digits_value}
use Rattle.std.specs.List.{list_all, slice_split}
use Rattle.std.proofs.lemmas.Bool.{cases_lt, false≢true}
use Rattle.std.proofs.lemmas.Fmt.{decimal_injective, decimal_is_IsNumeral, digits_is_IsNumeral}
use Rattle.std.proofs.lemmas.Str.Parse.{digit_at}
use Rattle.std.proofs.lemmas.List.{append_cancel_left, get_or_append_left, get_or_at, get_or_default, get_or_past, length-append}
use Rattle.std.proofs.lemmas.List.Sums.{AllPass-from_list_all}
use Rattle.std.proofs.lemmas.List.Splits.{slice_split_at}
use Rattle.sv_form.specs.Number.{AreBytes}
use Rattle.sv_form.specs.declared.kind.Kind.{Kind}
use Rattle.sv_form.specs.declared.kind.Kind.TheVariants as kinds
use Rattle.std.proofs.lemmas.List.Elements.{All-cons, All-nil}
use Rattle.std.proofs.Math.Dec.{eqb-suc-zero}
use Rattle.hex.specs.Hex.{decode_of, encode_lower, encode_with, lower_digits}
use Rattle.hex.proofs.HexLemmas.{decode_of-encode_lower, decode_of-same}
use Rattle.sv_script.specs.declared.answer.Answer.{Answer}
use Rattle.sv_script.specs.declared.answer.Answer.TheVariants as answers
use Rattle.sv_script.specs.declared.answer.Errno.{Errno}
use Rattle.sv_script.specs.declared.answer.Errno.TheVariants as errors
use Rattle.sv_script.specs.declared.call.Call.{Call}
use Rattle.sv_script.specs.Answer.{IsAnswer, answer_text, errno_text, kind_text, octal, read_text, result_text}
use Rattle.sv_script.specs.Cut.{is_space}
use Rattle.sv_script.specs.Verb.{verb_of_call, verb_text}
use Rattle.sv_script.proofs.Words.{tested}

abbrev NoSpace : List ℕ → Type 0
NoSpace xs = All (λ b. b ≢ 32) xs

-- ---- parts between spaces

-- what stands before the first space, and after it
same_parts : (a b x y : List ℕ) → NoSpace a → NoSpace b → a ++ 32 ∷ x ≡ b ++ 32 ∷ y → (a ≡ b) × (x ≡ y)
same_parts a b x y pa pb h =
    let left = slice_split_at is_space a 32 x (λ k d lt. tested 32 _ (pa k d lt)) refl in
    let right = slice_split_at is_space b 32 y (λ k d lt. tested 32 _ (pb k d lt)) refl in
    let front : a ≡ b = ap (λ (ps : List (List ℕ)). get_or ps 0 []) (sym left ∙ ap (slice_split is_space) h ∙ right) in
    let rest = append_cancel_left b (32 ∷ x) (32 ∷ y) (ap (λ (p : List ℕ). p ++ 32 ∷ x) (sym front) ∙ h) in
    (front, ap (drop 1) rest)

-- bytes without a space are not cut by one
not_cut : (x a r : List ℕ) → NoSpace x → x ≡ a ++ 32 ∷ r → ⊥
not_cut x a r plain h =
    let size : length x ≡ length a + suc (length r) = ap length h ∙ length-append a (32 ∷ r) in
    plain (length a) 0 (omega arith) (ap (λ (xs : List ℕ). get_or xs (length a) 0) h ∙ get_or_at a 32 r 0 (length a) refl)

no_space-test : (xs : List ℕ) → list_all (λ b. not (b == 32)) xs ≡ true → NoSpace xs
no_space-test xs h k d lt same = false≢true (sym (ap (λ (b : ℕ). not (b == 32)) same) ∙ AllPass-from_list_all (λ b. not (b == 32)) xs h k d lt)

-- ---- numbers

first_digit : (n : ℕ) → n < 2 ^ 32 → get_or (decimal n) 0 0 ≢ 69
first_digit n small is =
    let numeral = (decimal_is_IsNumeral n (omega arith)).0 in
    omega (arith, digit_at (decimal n) 0 numeral.1 numeral.0)

decimal-no_space : (n : ℕ) → n < 2 ^ 32 → NoSpace (decimal n)
decimal-no_space n small k d lt is =
    let numeral = (decimal_is_IsNumeral n (omega arith)).0 in
    omega (arith, digit_at (decimal n) k numeral.1 lt, get_or_default (decimal n) k d 0 lt)

AllDigits-more : (ds : List ℕ) → AllDigits 8 ds → AllDigits 10 ds
AllDigits-more [] h = tt
AllDigits-more (c ∷ cs) h = (omega arith, AllDigits-more cs h.1)

octal_is : (n : ℕ) → n < 2 ^ 32 → AllDigits 8 (octal n) × (digits_value 8 (octal n) ≡ n)
octal_is n small = let h = digits_is_IsNumeral 8 false (lit≤ tt) (lit≤ tt) n (omega arith) in (h.0.1, h.1)

octal-no_space : (n : ℕ) → n < 2 ^ 32 → NoSpace (octal n)
octal-no_space n small k d lt is = omega (arith, digit_at (octal n) k (AllDigits-more (octal n) (octal_is n small).0) lt, get_or_default (octal n) k d 0 lt)

octal_injective : (m n : ℕ) → m < 2 ^ 32 → n < 2 ^ 32 → octal m ≡ octal n → m ≡ n
octal_injective m n hm hn h = sym (octal_is m hm).1 ∙ ap (digits_value 8) h ∙ (octal_is n hn).1

number_injective : (m n : ℕ) → m < 2 ^ 32 → n < 2 ^ 32 → decimal m ≡ decimal n → m ≡ n
number_injective m n hm hn h = decimal_injective m n (omega arith) (omega arith) h

-- ---- the names of errors

abbrev all_errors : List Errno
all_errors = errors.EIO ∷ errors.ENOSPC ∷ errors.ENOENT ∷ errors.EEXIST ∷ errors.ENOTDIR ∷ errors.EISDIR ∷ errors.ENFILE ∷ errors.EMFILE ∷ errors.EBADF ∷ errors.EINVAL ∷ errors.EMLINK ∷ errors.EFBIG ∷ errors.ENOTEMPTY ∷ errors.ENOMEM ∷ []

abbrev errno_in : List ℕ → Option Errno
errno_in text = find (λ e. pointwise nat_eq (errno_text e) text) all_errors

errno_back : (e : Errno) → errno_in (errno_text e) ≡ Some e
errno_back errors.EIO = refl
errno_back errors.ENOSPC = refl
errno_back errors.ENOENT = refl
errno_back errors.EEXIST = refl
errno_back errors.ENOTDIR = refl
errno_back errors.EISDIR = refl
errno_back errors.ENFILE = refl
errno_back errors.EMFILE = refl
errno_back errors.EBADF = refl
errno_back errors.EINVAL = refl
errno_back errors.EMLINK = refl
errno_back errors.EFBIG = refl
errno_back errors.ENOTEMPTY = refl
errno_back errors.ENOMEM = refl

errno_injective : (e f : Errno) → errno_text e ≡ errno_text f → e ≡ f
errno_injective e f h = ap (λ (o : Option Errno). unwrap_or o errors.EIO) (sym (errno_back e) ∙ ap errno_in h ∙ errno_back f)

errno_first : (e : Errno) → get_or (errno_text e) 0 0 ≡ 69
errno_first errors.EIO = refl
errno_first errors.ENOSPC = refl
errno_first errors.ENOENT = refl
errno_first errors.EEXIST = refl
errno_first errors.ENOTDIR = refl
errno_first errors.EISDIR = refl
errno_first errors.ENFILE = refl
errno_first errors.EMFILE = refl
errno_first errors.EBADF = refl
errno_first errors.EINVAL = refl
errno_first errors.EMLINK = refl
errno_first errors.EFBIG = refl
errno_first errors.ENOTEMPTY = refl
errno_first errors.ENOMEM = refl

errno_plain : (e : Errno) → list_all (λ b. not (b == 32)) (errno_text e) ≡ true
errno_plain errors.EIO = refl
errno_plain errors.ENOSPC = refl
errno_plain errors.ENOENT = refl
errno_plain errors.EEXIST = refl
errno_plain errors.ENOTDIR = refl
errno_plain errors.EISDIR = refl
errno_plain errors.ENFILE = refl
errno_plain errors.EMFILE = refl
errno_plain errors.EBADF = refl
errno_plain errors.EINVAL = refl
errno_plain errors.EMLINK = refl
errno_plain errors.EFBIG = refl
errno_plain errors.ENOTEMPTY = refl
errno_plain errors.ENOMEM = refl

-- ---- bytes that were read

zero_no_space : ◌≢◌ {A = ℕ} 0 32
zero_no_space is = absurd (omega (arith, is))

hex_digit-no_space : (k : ℕ) → get_or lower_digits k 0 ≢ 32
hex_digit-no_space k is = elim (cases_lt k 16) [
  | inl lt ↦ no_space-test lower_digits refl k 0 lt is
  | inr le ↦ zero_no_space (sym (get_or_past lower_digits k 0 le) ∙ is)
]

hex-no_space : (xs : List ℕ) → NoSpace (encode_lower xs)
unfolding encode_with
hex-no_space [] = All-nil (λ b. b ≢ 32)
hex-no_space (b ∷ rest) =
    All-cons (λ b. b ≢ 32) (get_or lower_digits (b / 16) 0) (get_or lower_digits (b % 16) 0 ∷ encode_lower rest) (hex_digit-no_space (b / 16))
    (All-cons (λ b. b ≢ 32) (get_or lower_digits (b % 16) 0) (encode_lower rest) (hex_digit-no_space (b % 16)) (hex-no_space rest))

abbrev shown : List ℕ → List ℕ
shown bytes = if length bytes == 0 then codes "-" else encode_lower bytes

shown-some : (b : ℕ) (bs : List ℕ) → shown (b ∷ bs) ≡ encode_lower (b ∷ bs)
shown-some b bs = ap (λ (t : Bool). cond t (codes "-") (encode_lower (b ∷ bs))) (eqb-suc-zero (length bs))

shown-no_space : (bytes : List ℕ) → NoSpace (shown bytes)
shown-no_space [] = no_space-test (codes "-") refl
shown-no_space (b ∷ bs) = subst (λ (t : List ℕ). NoSpace t) (sym (shown-some b bs)) (hex-no_space (b ∷ bs))

same_bytes : (a b : List ℕ) → AreBytes a → AreBytes b → length a ≡ length b → shown a ≡ shown b → a ≡ b
same_bytes [] [] ha hb len h = refl
same_bytes [] (y ∷ ys) ha hb len h = absurd (omega arith)
same_bytes (x ∷ xs) [] ha hb len h = absurd (omega arith)
same_bytes (x ∷ xs) (y ∷ ys) ha hb len h =
    let texts : encode_lower (y ∷ ys) ≡ encode_lower (x ∷ xs) = sym (shown-some y ys) ∙ sym h ∙ shown-some x xs in
    decode_of-same (encode_lower (x ∷ xs)) (x ∷ xs) (y ∷ ys) (decode_of-encode_lower (x ∷ xs) ha) (ap decode_of (sym texts) ∙ decode_of-encode_lower (y ∷ ys) hb)

read_cut : (bytes : List ℕ) → read_text bytes ≡ decimal (length bytes) ++ 32 ∷ shown bytes
read_cut bytes = append_assoc (decimal (length bytes)) (codes " ") (shown bytes)

same_read : (a b : List ℕ) → AreBytes a → AreBytes b → length a < 2 ^ 32 → length b < 2 ^ 32 → read_text a ≡ read_text b → a ≡ b
same_read a b ha hb la lb h =
    let parts = same_parts (decimal (length a)) (decimal (length b)) (shown a) (shown b) (decimal-no_space (length a) la) (decimal-no_space (length b) lb) (sym (read_cut a) ∙ h ∙ read_cut b) in
    same_bytes a b ha hb (number_injective (length a) (length b) la lb parts.0) parts.1

-- ---- a status

f_not_d : ◌≢◌ {A = ℕ} 102 100
f_not_d is = absurd (omega (arith, is))

kind_plain : (k : Kind) → list_all (λ b. not (b == 32)) (kind_text k) ≡ true
kind_plain kinds.File = refl
kind_plain kinds.Dir = refl

kind_injective : (k l : Kind) → kind_text k ≡ kind_text l → k ≡ l
kind_injective kinds.File kinds.File h = refl
kind_injective kinds.Dir kinds.Dir h = refl
kind_injective kinds.File kinds.Dir h = absurd (f_not_d (ap (λ (t : List ℕ). get_or t 0 0) h))
kind_injective kinds.Dir kinds.File h = absurd (f_not_d (sym (ap (λ (t : List ℕ). get_or t 0 0) h)))

regrouped : (i k m l s : List ℕ) → i ++ codes " " ++ k ++ codes " " ++ m ++ codes " " ++ l ++ codes " " ++ s ≡ i ++ 32 ∷ (k ++ 32 ∷ (m ++ 32 ∷ (l ++ 32 ∷ s)))
regrouped i k m l s = simp append_assoc

abbrev status : ℕ → Kind → ℕ → ℕ → ℕ → Answer
status ino kind mode links size = answers.Stat ino kind mode links size

same_status : (call : Call) (i j : ℕ) (k k' : Kind) (m m' l l' s s' : ℕ) → IsAnswer call (status i k m l s) → IsAnswer call (status j k' m' l' s') → result_text (status i k m l s) ≡ result_text (status j k' m' l' s') → status i k m l s ≡ status j k' m' l' s'
same_status call i j k k' m m' l l' s s' a b h =
    let cut = sym (regrouped (decimal i) (kind_text k) (octal m) (decimal l) (decimal s)) ∙ h ∙ regrouped (decimal j) (kind_text k') (octal m') (decimal l') (decimal s') in
    let one = same_parts (decimal i) (decimal j) _ _ (decimal-no_space i a.0) (decimal-no_space j b.0) cut in
    let two = same_parts (kind_text k) (kind_text k') _ _ (no_space-test (kind_text k) (kind_plain k)) (no_space-test (kind_text k') (kind_plain k')) one.1 in
    let three = same_parts (octal m) (octal m') _ _ (octal-no_space m a.1) (octal-no_space m' b.1) two.1 in
    let four = same_parts (decimal l) (decimal l') _ _ (decimal-no_space l a.2) (decimal-no_space l' b.2) three.1 in
    let ino : i ≡ j = number_injective i j a.0 b.0 one.0 in
    let kind : k ≡ k' = kind_injective k k' two.0 in
    let mode : m ≡ m' = octal_injective m m' a.1 b.1 three.0 in
    let links : l ≡ l' = number_injective l l' a.2 b.2 four.0 in
    let size : s ≡ s' = number_injective s s' a.3 b.3 four.1 in
    ap (λ (x : ℕ). status x k m l s) ino ∙ ap (λ (x : Kind). status j x m l s) kind ∙ ap (λ (x : ℕ). status j k' x l s) mode ∙ ap (λ (x : ℕ). status j k' m' x s) links ∙ ap (λ (x : ℕ). status j k' m' l' x) size

-- ---- answers of different forms

front_digit : (n : ℕ) (rest : List ℕ) → n < 2 ^ 32 → get_or (decimal n ++ 32 ∷ rest) 0 0 ≢ 69
front_digit n rest small is =
    let some : 0 < length (decimal n) = (decimal_is_IsNumeral n (omega arith)).0.0 in
    first_digit n small (sym (get_or_append_left (decimal n) (32 ∷ rest) 0 0 some) ∙ is)

read_no_error : (bytes : List ℕ) → length bytes < 2 ^ 32 → get_or (read_text bytes) 0 0 ≢ 69
read_no_error bytes small is = front_digit (length bytes) (shown bytes) small (ap (λ (t : List ℕ). get_or t 0 0) (sym (read_cut bytes)) ∙ is)

status_no_error : (call : Call) (i : ℕ) (k : Kind) (m l s : ℕ) → IsAnswer call (status i k m l s) → get_or (result_text (status i k m l s)) 0 0 ≢ 69
status_no_error call i k m l s h is = front_digit i _ h.0 (ap (λ (t : List ℕ). get_or t 0 0) (sym (regrouped (decimal i) (kind_text k) (octal m) (decimal l) (decimal s))) ∙ is)

zero_plain : NoSpace (codes "0")
zero_plain = no_space-test (codes "0") refl

read_is_cut : (t bytes : List ℕ) → NoSpace t → t ≡ read_text bytes → ⊥
read_is_cut t bytes plain h = not_cut t (decimal (length bytes)) (shown bytes) plain (h ∙ read_cut bytes)

status_is_cut : (call : Call) (t : List ℕ) (i : ℕ) (k : Kind) (m l s : ℕ) → NoSpace t → t ≡ result_text (status i k m l s) → ⊥
status_is_cut call t i k m l s plain h = not_cut t (decimal i) _ plain (h ∙ regrouped (decimal i) (kind_text k) (octal m) (decimal l) (decimal s))

read_is_no_status : (call : Call) (bytes : List ℕ) (i : ℕ) (k : Kind) (m l s : ℕ) → length bytes < 2 ^ 32 → i < 2 ^ 32 → read_text bytes ≡ result_text (status i k m l s) → ⊥
read_is_no_status call bytes i k m l s small hi h =
    let parts = same_parts (decimal (length bytes)) (decimal i) (shown bytes) _ (decimal-no_space (length bytes) small) (decimal-no_space i hi)
    (sym (read_cut bytes) ∙ h ∙ regrouped (decimal i) (kind_text k) (octal m) (decimal l) (decimal s)) in
    not_cut (shown bytes) (kind_text k) _ (shown-no_space bytes) parts.1

error_is_no_count : (e : Errno) (n : ℕ) → errno_text e ≡ codes "EIO " ++ decimal n → ⊥
error_is_no_count e n h = not_cut (errno_text e) (codes "EIO") (decimal n) (no_space-test (errno_text e) (errno_plain e)) h

first_byte : (a b : List ℕ) → get_or a 0 0 ≢ 69 → get_or b 0 0 ≡ 69 → a ≡ b → ⊥
first_byte a b other here h = other (ap (λ (t : List ℕ). get_or t 0 0) h ∙ here)

zero_no_error : get_or (codes "0") 0 0 ≢ 69
zero_no_error is = omega (arith, is)

pub same_answer : (call : Call) (a b : Answer) → IsAnswer call a → IsAnswer call b → result_text a ≡ result_text b → a ≡ b
same_answer call answers.Zero answers.Zero p q h = refl
same_answer call answers.Zero (answers.Number y) p q h = absurd (false≢true (sym p ∙ q.0))
same_answer call answers.Zero (answers.Read y) p q h = absurd (read_is_cut (codes "0") y zero_plain h)
same_answer call answers.Zero (answers.Stat yi yk ym yl ys) p q h = absurd (status_is_cut call (codes "0") yi yk ym yl ys zero_plain h)
same_answer call answers.Zero (answers.Error y) p q h = absurd (first_byte (codes "0") (errno_text y) zero_no_error (errno_first y) h)
same_answer call answers.Zero (answers.ErrorAfter y) p q h = absurd (first_byte (codes "0") (codes "EIO " ++ decimal y) zero_no_error refl h)
same_answer call (answers.Number x) answers.Zero p q h = absurd (false≢true (sym q ∙ p.0))
same_answer call (answers.Number x) (answers.Number y) p q h = ap (λ (n : ℕ). answers.Number n) (number_injective x y p.1 q.1 h)
same_answer call (answers.Number x) (answers.Read y) p q h = absurd (read_is_cut (decimal x) y (decimal-no_space x p.1) h)
same_answer call (answers.Number x) (answers.Stat yi yk ym yl ys) p q h = absurd (status_is_cut call (decimal x) yi yk ym yl ys (decimal-no_space x p.1) h)
same_answer call (answers.Number x) (answers.Error y) p q h = absurd (first_byte (decimal x) (errno_text y) (first_digit x p.1) (errno_first y) h)
same_answer call (answers.Number x) (answers.ErrorAfter y) p q h = absurd (first_byte (decimal x) (codes "EIO " ++ decimal y) (first_digit x p.1) refl h)
same_answer call (answers.Read x) answers.Zero p q h = absurd (read_is_cut (codes "0") x zero_plain (sym h))
same_answer call (answers.Read x) (answers.Number y) p q h = absurd (read_is_cut (decimal y) x (decimal-no_space y q.1) (sym h))
same_answer call (answers.Read x) (answers.Read y) p q h = ap (λ (v : List ℕ). answers.Read v) (same_read x y p.0 q.0 p.1 q.1 h)
same_answer call (answers.Read x) (answers.Stat yi yk ym yl ys) p q h = absurd (read_is_no_status call x yi yk ym yl ys p.1 q.0 h)
same_answer call (answers.Read x) (answers.Error y) p q h = absurd (first_byte (read_text x) (errno_text y) (read_no_error x p.1) (errno_first y) h)
same_answer call (answers.Read x) (answers.ErrorAfter y) p q h = absurd (first_byte (read_text x) (codes "EIO " ++ decimal y) (read_no_error x p.1) refl h)
same_answer call (answers.Stat xi xk xm xl xs) answers.Zero p q h = absurd (status_is_cut call (codes "0") xi xk xm xl xs zero_plain (sym h))
same_answer call (answers.Stat xi xk xm xl xs) (answers.Number y) p q h = absurd (status_is_cut call (decimal y) xi xk xm xl xs (decimal-no_space y q.1) (sym h))
same_answer call (answers.Stat xi xk xm xl xs) (answers.Read y) p q h = absurd (read_is_no_status call y xi xk xm xl xs q.1 p.0 (sym h))
same_answer call (answers.Stat xi xk xm xl xs) (answers.Stat yi yk ym yl ys) p q h = same_status call xi yi xk yk xm ym xl yl xs ys p q h
same_answer call (answers.Stat xi xk xm xl xs) (answers.Error y) p q h = absurd (first_byte (result_text (status xi xk xm xl xs)) (errno_text y) (status_no_error call xi xk xm xl xs p) (errno_first y) h)
same_answer call (answers.Stat xi xk xm xl xs) (answers.ErrorAfter y) p q h = absurd (first_byte (result_text (status xi xk xm xl xs)) (codes "EIO " ++ decimal y) (status_no_error call xi xk xm xl xs p) refl h)
same_answer call (answers.Error x) answers.Zero p q h = absurd (first_byte (codes "0") (errno_text x) zero_no_error (errno_first x) (sym h))
same_answer call (answers.Error x) (answers.Number y) p q h = absurd (first_byte (decimal y) (errno_text x) (first_digit y q.1) (errno_first x) (sym h))
same_answer call (answers.Error x) (answers.Read y) p q h = absurd (first_byte (read_text y) (errno_text x) (read_no_error y q.1) (errno_first x) (sym h))
same_answer call (answers.Error x) (answers.Stat yi yk ym yl ys) p q h = absurd (first_byte (result_text (status yi yk ym yl ys)) (errno_text x) (status_no_error call yi yk ym yl ys q) (errno_first x) (sym h))
same_answer call (answers.Error x) (answers.Error y) p q h = ap (λ (e : Errno). answers.Error e) (errno_injective x y h)
same_answer call (answers.Error x) (answers.ErrorAfter y) p q h = absurd (error_is_no_count x y h)
same_answer call (answers.ErrorAfter x) answers.Zero p q h = absurd (first_byte (codes "0") (codes "EIO " ++ decimal x) zero_no_error refl (sym h))
same_answer call (answers.ErrorAfter x) (answers.Number y) p q h = absurd (first_byte (decimal y) (codes "EIO " ++ decimal x) (first_digit y q.1) refl (sym h))
same_answer call (answers.ErrorAfter x) (answers.Read y) p q h = absurd (first_byte (read_text y) (codes "EIO " ++ decimal x) (read_no_error y q.1) refl (sym h))
same_answer call (answers.ErrorAfter x) (answers.Stat yi yk ym yl ys) p q h = absurd (first_byte (result_text (status yi yk ym yl ys)) (codes "EIO " ++ decimal x) (status_no_error call yi yk ym yl ys q) refl (sym h))
same_answer call (answers.ErrorAfter x) (answers.Error y) p q h = absurd (error_is_no_count y x (sym h))
same_answer call (answers.ErrorAfter x) (answers.ErrorAfter y) p q h = ap (λ (n : ℕ). answers.ErrorAfter n) (number_injective x y p q (append_cancel_left (codes "EIO ") (decimal x) (decimal y) h))

pub own_texts : (line : ℕ) (call : Call) (a b : Answer) → IsAnswer call a → IsAnswer call b → answer_text line call a ≡ answer_text line call b → a ≡ b
own_texts line call a b p q h = same_answer call a b p q (append_cancel_left (decimal line ++ codes " " ++ verb_text (verb_of_call call) ++ codes " = ") (result_text a) (result_text b) h)
