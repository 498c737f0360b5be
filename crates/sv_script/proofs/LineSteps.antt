-- How the lines of a text follow one another.
use Rattle.std.proofs.Common.{◌≡◌, ◌≢◌, ◌<◌, ◌≤◌, ◌-◌, ◌+◌, ◌∷◌, ◌∙◌, ℕ, List, [], length, take, drop, get_or, sym, ap, refl, arith}
use Rattle.std.proofs.lemmas.List.{length-take-le, length-drop, take_rest, get_or_default}
use Rattle.std.proofs.lemmas.List.Splits.{length-slice_split}
use Rattle.std.specs.List.{slice_split}
use Rattle.sv_script.specs.Cut.{is_newline, lines_of, with_last}
use Rattle.sv_script.specs.Progress.{BeginsWithLine}
use Rattle.sv_script.proofs.Words.{first_part, front_plain, last_part}

with_last_more : (piece : List ℕ) (pieces : List (List ℕ)) → 0 < length pieces → with_last (piece ∷ pieces) ≡ piece ∷ with_last pieces
with_last_more piece [] some = absurd (omega arith)
with_last_more [] (p ∷ ps) some = refl
with_last_more (b ∷ bs) (p ∷ ps) some = refl

with_last_one : (piece : List ℕ) → 0 < length piece → with_last (piece ∷ []) ≡ piece ∷ []
with_last_one [] some = absurd (omega arith)
with_last_one (b ∷ bs) some = refl

pub lines_of-nil : lines_of [] ≡ []
unfolding lines_of
lines_of-nil = refl

pub no_lines : (text : List ℕ) → length text ≡ 0 → lines_of text ≡ []
no_lines [] end = lines_of-nil
no_lines (b ∷ bs) end = absurd (omega arith)

lines_at : (text : List ℕ) (n : ℕ) → n < length text → ((k : ℕ) → k < n → get_or text k 0 ≢ 10) → (n < length text → get_or text n 0 ≡ 10) → lines_of text ≡ take n text ∷ lines_of (drop (n + 1) text)
unfolding lines_of
lines_at text n lt before at =
    ap with_last (first_part 10 text n lt before at) ∙ with_last_more (take n text) (slice_split is_newline (drop (n + 1) text)) (omega (arith, length-slice_split is_newline (drop (n + 1) text)))

lines_last : (text : List ℕ) (n : ℕ) → 0 < length text → length text ≤ n → n ≤ length text → ((k : ℕ) → k < n → get_or text k 0 ≢ 10) → lines_of text ≡ text ∷ []
unfolding lines_of
lines_last text n some le within before = ap with_last (last_part 10 text n le within before) ∙ with_last_one text some

pub last_line : (text : List ℕ) (n : ℕ) → 0 < length text → n ≡ length text → ((k : ℕ) → k < n → get_or text k 0 ≢ 10) → BeginsWithLine text text []
last_line text n some end before = record {
  cut = lines_last text n some (omega arith) (omega arith) before ∙ ap (λ (ls : List (List ℕ)). text ∷ ls) (sym lines_of-nil);
  part = λ most. record { most = most; no_newline = λ k d lt same. before k (omega arith) (get_or_default text k 0 d lt ∙ same) };
  shorter = some;
}

pub line_before : (text : List ℕ) (n : ℕ) → n ≤ length text → (n ≡ length text → ⊥) → ((k : ℕ) → k < n → get_or text k 0 ≢ 10) → (n < length text → get_or text n 0 ≡ 10) → BeginsWithLine text (take n text) (take (length text - (n + 1)) (drop (n + 1) text))
line_before text n within inside before at =
    let lt : n < length text = omega arith in
    record {
      cut = lines_at text n lt before at ∙ ap (λ (r : List ℕ). take n text ∷ lines_of r) (sym (take_rest text (n + 1)));
      part = λ most. record { most = omega (arith, length-take-le n text within); no_newline = front_plain 10 text n within before };
      shorter = omega (arith, ap length (take_rest text (n + 1)), length-drop (n + 1) text);
    }
