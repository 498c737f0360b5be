-- How the pieces of a path follow one another.
use Rattle.std.proofs.Common.{◌≡◌, ◌≢◌, ◌<◌, ◌≤◌, ◌+◌, ◌∷◌, ◌++◌, ◌∙◌, ℕ, List, [], length, take, drop, get_or, All, false, sym, ap, refl, subst, arith, filter, inl, inr}
use Rattle.std.proofs.lemmas.Bool.{cases_lt}
use Rattle.std.proofs.lemmas.List.{get_or-take, get_or_default, drop_more, drop_all, take_all, take-append-drop, length-take-le, length-drop}
use Rattle.std.proofs.lemmas.Bool.Decides.{eqb_tells}
use Rattle.std.proofs.lemmas.List.Splits.{slice_split_at, slice_split_none}
use Rattle.std.specs.List.{slice_split}
use Rattle.sv_dir.specs.Path.{IsFirstPiece, pieces, is_slash, is_some_piece}

pub pieces-slash : (xs : List ℕ) → pieces (47 ∷ xs) ≡ pieces xs
unfolding pieces
pieces-slash xs = refl

pub pieces-nil : pieces [] ≡ []
unfolding pieces
pieces-nil = refl

-- a slash changes no piece of what follows it
pub skip_slash : (xs : List ℕ) (i : ℕ) → i < length xs → get_or xs i 0 ≡ 47 → pieces (drop (i + 1) xs) ≡ pieces (drop i xs)
skip_slash xs i lt slash = sym (ap pieces (drop_more xs i 0 lt) ∙ ap (λ (b : ℕ). pieces (b ∷ drop (i + 1) xs)) slash ∙ pieces-slash (drop (i + 1) xs))

kept : (piece : List ℕ) (others : List (List ℕ)) → 0 < length piece → filter is_some_piece (piece ∷ others) ≡ piece ∷ filter is_some_piece others
kept [] others some = absurd (omega arith)
kept (x ∷ xs) others some = refl

cut_at : (piece rest : List ℕ) → 0 < length piece → All (λ b. is_slash b ≡ false) piece → pieces (piece ++ 47 ∷ rest) ≡ piece ∷ pieces rest
unfolding pieces
cut_at piece rest some plain = ap (filter is_some_piece) (slice_split_at is_slash piece 47 rest plain refl) ∙ kept piece (slice_split is_slash rest) some

cut_whole : (piece : List ℕ) → 0 < length piece → All (λ b. is_slash b ≡ false) piece → pieces piece ≡ piece ∷ pieces []
unfolding pieces
cut_whole piece some plain = ap (filter is_some_piece) (slice_split_none is_slash piece plain) ∙ kept piece [] some

no_slash : (b : ℕ) → b ≢ 47 → is_slash b ≡ false
no_slash b ne = elim (eqb_tells b 47) [ inl same ↦ absurd (ne same.1) | inr other ↦ other.0 ]

-- the bytes up to the first slash are the first piece
pub first_piece : (rest : List ℕ) (n : ℕ) → 0 < length rest → (get_or rest 0 0 ≢ 47) → n ≤ length rest → ((k : ℕ) → k < n → get_or rest k 0 ≢ 47) → (n < length rest → get_or rest n 0 ≡ 47) → IsFirstPiece rest (take n rest) (drop n rest)
first_piece rest n some first within before slash =
    let long : 0 < n = elim (cases_lt 0 n) [ inl lt ↦ lt | inr le ↦ absurd (first (ap (λ (k : ℕ). get_or rest k 0) (omega arith) ∙ slash (omega arith))) ] in
    let size : length (take n rest) ≡ n = length-take-le n rest within in
    let plain : All (λ b. b ≢ 47) (take n rest) = λ k d lt same. before k (omega arith) (get_or_default rest k 0 d (omega arith) ∙ sym (get_or-take n rest k d (omega arith)) ∙ same) in
    let tested : All (λ b. is_slash b ≡ false) (take n rest) = λ k d lt. no_slash _ (plain k d lt) in
    record {
      cut = elim (cases_lt n (length rest)) [
        | inl lt ↦
            let split : rest ≡ take n rest ++ 47 ∷ drop (n + 1) rest = sym (take-append-drop n rest) ∙ ap (λ (t : List ℕ). take n rest ++ t) (drop_more rest n 0 lt ∙ ap (λ (b : ℕ). b ∷ drop (n + 1) rest) (slash lt)) in
            ap pieces split ∙ cut_at (take n rest) (drop (n + 1) rest) (omega arith) tested ∙ ap (λ (ps : List (List ℕ)). take n rest ∷ ps) (skip_slash rest n lt (slash lt))
        | inr le ↦
            let all : take n rest ≡ rest = take_all n rest le in
            let end : drop n rest ≡ [] = drop_all n rest le in
            ap pieces (sym all) ∙ cut_whole (take n rest) (omega arith) tested ∙ ap (λ (xs : List ℕ). take n rest ∷ pieces xs) (sym end)
      ];
      some = omega arith;
      plain = plain;
      shorter = omega (arith, length-drop n rest);
    }

-- the same behind slashes, of a path that was cut there
pub piece_after : (path rest piece after : List ℕ) (n : ℕ) → pieces rest ≡ pieces path → length rest ≤ length path → 0 < length rest → (get_or rest 0 0 ≢ 47) → n ≤ length rest → ((k : ℕ) → k < n → get_or rest k 0 ≢ 47) → (n < length rest → get_or rest n 0 ≡ 47) → piece ≡ take n rest → after ≡ drop n rest → IsFirstPiece path piece after
piece_after path rest piece after n same short some first within before slash front back =
    let h = first_piece rest n some first within before slash in
    let here : IsFirstPiece path (take n rest) (drop n rest) = record { cut = sym same ∙ h.cut; some = h.some; plain = h.plain; shorter = omega (arith, h.shorter) } in
    let there : IsFirstPiece path piece (drop n rest) = subst (λ (p : List ℕ). IsFirstPiece path p (drop n rest)) (sym front) here in
    subst (λ (a : List ℕ). IsFirstPiece path piece a) (sym back) there
