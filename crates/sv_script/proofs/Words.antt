-- How the words of a line follow one another.
use Rattle.std.proofs.Common.{◌≡◌, ◌≢◌, ◌<◌, ◌≤◌, ◌+◌, ◌-◌, ◌∷◌, ◌++◌, ◌∙◌, ℕ, List, [], length, take, drop, get_or, All, false, eqb, eq-eqb, Ok, Err, sym, ap, refl, subst, arith, inl, inr}
use Rattle.std.proofs.lemmas.Bool.{cases_lt}
use Rattle.std.proofs.lemmas.Bool.Decides.{eqb_tells}
use Rattle.std.proofs.lemmas.List.{drop_more, drop_all, take_all, take-append-drop, length-take-le, length-take, take_rest, length-drop, get_or-take, get_or_default}
use Rattle.std.proofs.lemmas.List.Elements.{All-take, All-drop}
use Rattle.std.proofs.lemmas.List.Splits.{slice_split_at, slice_split_none, length-slice_split}
use Rattle.std.specs.List.{slice_split}
use Rattle.sv_script.specs.Cut.{BeginsWith, IsPart, words_of, words_after, is_space, none}
use Rattle.sv_script.specs.declared.fault.ScriptFault.TheVariants as faults

-- what stands at the first byte of that value, where bytes are cut
pub cut_there : (stop : ℕ) (bytes : List ℕ) (n : ℕ) → n ≤ length bytes → n < length bytes → (n < length bytes → get_or bytes n 0 ≡ stop) → bytes ≡ take n bytes ++ stop ∷ drop (n + 1) bytes
cut_there stop bytes n within lt at = sym (take-append-drop n bytes) ∙ ap (λ (t : List ℕ). take n bytes ++ t) (drop_more bytes n 0 lt ∙ ap (λ (b : ℕ). b ∷ drop (n + 1) bytes) (at lt))

pub front_plain : (stop : ℕ) (bytes : List ℕ) (n : ℕ) → n ≤ length bytes → ((k : ℕ) → k < n → get_or bytes k 0 ≢ stop) → All (λ b. b ≢ stop) (take n bytes)
front_plain stop bytes n within before k d lt same =
    let size : length (take n bytes) ≡ n = length-take-le n bytes within in
    before k (omega arith) (get_or_default bytes k 0 d (omega arith) ∙ sym (get_or-take n bytes k d (omega arith)) ∙ same)

pub tested : (stop b : ℕ) → b ≢ stop → eqb b stop ≡ false
tested stop b ne = elim (eqb_tells b stop) [ inl same ↦ absurd (ne same.1) | inr other ↦ other.0 ]

-- the bytes before the first of that value are the first part
pub first_part : (stop : ℕ) (bytes : List ℕ) (n : ℕ) → n < length bytes → ((k : ℕ) → k < n → get_or bytes k 0 ≢ stop) → (n < length bytes → get_or bytes n 0 ≡ stop) → slice_split (λ b. eqb b stop) bytes ≡ take n bytes ∷ slice_split (λ b. eqb b stop) (drop (n + 1) bytes)
first_part stop bytes n lt before at =
    let plain = front_plain stop bytes n (omega arith) before in
    ap (slice_split (λ b. eqb b stop)) (cut_there stop bytes n (omega arith) lt at) ∙ slice_split_at (λ b. eqb b stop) (take n bytes) stop (drop (n + 1) bytes) (λ k d l. tested stop _ (plain k d l)) (eq-eqb stop stop refl)

pub last_part : (stop : ℕ) (bytes : List ℕ) (n : ℕ) → length bytes ≤ n → n ≤ length bytes → ((k : ℕ) → k < n → get_or bytes k 0 ≢ stop) → slice_split (λ b. eqb b stop) bytes ≡ bytes ∷ []
last_part stop bytes n le within before =
    let plain = front_plain stop bytes n within before in
    slice_split_none (λ b. eqb b stop) bytes (λ k d l. tested stop _ (subst (λ (xs : List ℕ). All (λ b. b ≢ stop) xs) (take_all n bytes le) plain k d l))

pub words_after-drop : (line : List ℕ) (n : ℕ) → n < length line → words_after (drop n line) ≡ words_of (drop (n + 1) line)
unfolding words_after
words_after-drop line n lt = ap words_after (drop_more line n 0 lt)

pub words_after-nil : words_after [] ≡ []
unfolding words_after
words_after-nil = refl

pub first_word_is : (line : List ℕ) (n : ℕ) → IsPart line → n ≤ length line → ((k : ℕ) → k < n → get_or line k 0 ≢ 32) → (n < length line → get_or line n 0 ≡ 32) → BeginsWith (words_of line) (take n line) (drop n line)
unfolding words_of
first_word_is line n part within before at =
    record {
      cut = elim (cases_lt n (length line)) [
        | inl lt ↦ first_part 32 line n lt before at ∙ ap (λ (ws : List (List ℕ)). take n line ∷ ws) (sym (words_after-drop line n lt))
        | inr le ↦ last_part 32 line n le within before ∙ ap (λ (w : List ℕ). w ∷ []) (sym (take_all n line le)) ∙ ap (λ (ws : List (List ℕ)). take n line ∷ ws) (sym (ap words_after (drop_all n line le) ∙ words_after-nil))
      ];
      first = record {
        most = omega (arith, part.most, length-take-le n line within);
        no_newline = All-take (λ b. b ≢ 10) n line part.no_newline;
        no_space = front_plain 32 line n within before;
      };
      others = record {
        most = omega (arith, part.most, length-drop n line);
        no_newline = All-drop (λ b. b ≢ 10) n line part.no_newline;
      };
    }

no_end : (ws : List (List ℕ)) → 0 < length ws → none ws ≡ Err faults.Count
no_end [] some = absurd (omega arith)
no_end (w ∷ ws) some = refl

pub none_at_end : (rest : List ℕ) → length rest ≡ 0 → none (words_after rest) ≡ Ok tt
none_at_end [] end = ap none words_after-nil
none_at_end (b ∷ bs) end = absurd (omega arith)

-- what follows a word begins with a space, and so has a further word
pub none_before_end : (rest : List ℕ) → (length rest ≡ 0 → ⊥) → none (words_after rest) ≡ Err faults.Count
unfolding words_after words_of
none_before_end [] some = absurd (some refl)
none_before_end (b ∷ bs) some = no_end (slice_split is_space bs) (omega (arith, length-slice_split is_space bs))

pub first_word_cut : (line word rest : List ℕ) (n : ℕ) → IsPart line → n ≤ length line → ((k : ℕ) → k < n → get_or line k 0 ≢ 32) → (n < length line → get_or line n 0 ≡ 32) → word ≡ take n line → rest ≡ drop n line → BeginsWith (words_of line) word rest
first_word_cut line word rest n part within before at front back =
    let there = first_word_is line n part within before at in
    let here : BeginsWith (words_of line) word (drop n line) = subst (λ (w : List ℕ). BeginsWith (words_of line) w (drop n line)) (sym front) there in
    subst (λ (r : List ℕ). BeginsWith (words_of line) word r) (sym back) here

pub no_words : (rest : List ℕ) → length rest ≡ 0 → words_after rest ≡ []
no_words [] end = words_after-nil
no_words (b ∷ bs) end = absurd (omega arith)

pub words_behind : (rest : List ℕ) → (length rest ≡ 0 → ⊥) → words_after rest ≡ words_of (drop 1 rest)
unfolding words_after
words_behind [] some = absurd (some refl)
words_behind (b ∷ bs) some = refl

pub IsPart-behind : (rest : List ℕ) → IsPart rest → IsPart (take (length rest - 1) (drop 1 rest))
IsPart-behind rest part = record {
  most = omega (arith, part.most, length-take (length rest - 1) (drop 1 rest));
  no_newline = All-take (λ b. b ≢ 10) (length rest - 1) (drop 1 rest) (All-drop (λ b. b ≢ 10) 1 rest part.no_newline);
}

pub begins_behind : (rest word others : List ℕ) → (length rest ≡ 0 → ⊥) → BeginsWith (words_of (take (length rest - 1) (drop 1 rest))) word others → BeginsWith (words_after rest) word others
begins_behind rest word others some h =
    subst (λ (ws : List (List ℕ)). BeginsWith ws word others) (ap words_of (take_rest rest 1) ∙ sym (words_behind rest some)) h
