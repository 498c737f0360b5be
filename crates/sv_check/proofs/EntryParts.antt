-- The entries of a directory, page by page.
use Rattle.std.proofs.Common.{◌≡◌, ◌≤◌, ◌<◌, ◌+◌, ◌-◌, ◌*◌, ◌/◌, ◌%◌, ◌++◌, ◌∷◌, [], ◌∙◌, ℕ, zero, suc, List, ap, sym, refl, inl, inr, drop, take, length, flat_map, min, arith}
use Rattle.std.specs.List.{range_with_len}
use Rattle.std.proofs.Math.Seq.{take-append-add, take-length}
use Rattle.std.proofs.lemmas.Bool.{cases_lt}
use Rattle.std.proofs.lemmas.List.{append-nil, take-append-le, drop-append-le, length-drop}
use Rattle.sv_check.specs.Directories.{pieces}
use Rattle.sv_check.proofs.WalkSteps.{range_from}

no_bytes : (xs : List ℕ) → length xs ≡ 0 → xs ≡ []
no_bytes [] e = refl
no_bytes (x ∷ xs) e = absurd (omega (arith, e))

-- pieces of two parts, of which the first is whole pieces
pieces-append : (a b n : ℕ) (xs ys : List ℕ) → n ≡ a + b → length xs ≡ 16 * a → pieces n (xs ++ ys) ≡ pieces a xs ++ pieces b ys
pieces-append zero b n xs ys e len =
    let same : n ≡ b = omega (arith, e) in
    ap (λ (m : ℕ). pieces m (xs ++ ys)) same ∙ ap (λ (l : List ℕ). pieces b (l ++ ys)) (no_bytes xs (omega (arith, len)))
pieces-append (suc a) b zero xs ys e len = absurd (omega (arith, e))
pieces-append (suc a) b (suc n) xs ys e len =
    let enough : 16 ≤ length xs = omega (arith, len) in
    ap (λ (l : List ℕ). l ∷ pieces n (drop 16 (xs ++ ys))) (take-append-le 16 xs ys enough)
    ∙ ap (λ (l : List ℕ). take 16 xs ∷ pieces n l) (drop-append-le 16 xs ys enough)
    ∙ ap (λ (l : List (List ℕ)). take 16 xs ∷ l) (pieces-append a b n (drop 16 xs) ys (omega (arith, e)) (length-drop 16 xs ∙ omega (arith, len)))

-- a file of so many bytes in pages of 16 * per bytes; what lies in its pages from one on
module _ (size per m : ℕ) (page : ℕ → List ℕ) where
  abbrev pub bytes_from : ℕ → List ℕ
  bytes_from k = take (size - k * (16 * per)) (flat_map page (range_with_len k (m - k)))

  abbrev pub entries_from : ℕ → List (List ℕ)
  entries_from k = pieces (size / 16 - k * per) (bytes_from k)

  module _ (whole : size % 16 ≡ 0) (k c : ℕ) (below : k < m) (len : length (page k) ≡ 16 * per) where
    abbrev rest : List ℕ
    rest = flat_map page (range_with_len (k + 1) (m - (k + 1)))

    cut : bytes_from k ≡ take (size - k * (16 * per)) (page k ++ rest)
    cut = ap (λ (l : List ℕ). take (size - k * (16 * per)) (flat_map page l)) (range_from m k below)

    -- the page with the last entry
    last_part : size / 16 - k * per ≤ per → c ≡ size / 16 - k * per → entries_from k ≡ pieces c (take (16 * c) (page k)) ++ entries_from (k + 1)
    last_part least is =
        let bytes : size - k * (16 * per) ≡ 16 * c = omega (arith, whole, is) in
        let none : size / 16 - (k + 1) * per ≡ 0 = omega (arith, least) in
        ap (pieces (size / 16 - k * per)) (cut ∙ take-append-le (size - k * (16 * per)) (page k) rest (omega (arith, bytes, least, is, len)) ∙ ap (λ (n : ℕ). take n (page k)) bytes)
        ∙ ap (λ (n : ℕ). pieces n (take (16 * c) (page k))) (sym is) ∙ sym (append-nil (pieces c (take (16 * c) (page k))))
        ∙ ap (λ (n : ℕ). pieces c (take (16 * c) (page k)) ++ pieces n (bytes_from (k + 1))) (sym none)

    -- a page full of entries
    full_part : per ≤ size / 16 - k * per → c ≡ per → entries_from k ≡ pieces c (take (16 * c) (page k)) ++ entries_from (k + 1)
    full_part least is =
        let bytes : size - k * (16 * per) ≡ length (page k) + (size - (k + 1) * (16 * per)) = omega (arith, whole, least, len) in
        let number : size / 16 - k * per ≡ per + (size / 16 - (k + 1) * per) = omega (arith, least) in
        let all : take (16 * c) (page k) ≡ page k = ap (λ (n : ℕ). take n (page k)) (omega (arith, is, len)) ∙ take-length (page k) in
        ap (pieces (size / 16 - k * per)) (cut ∙ ap (λ (n : ℕ). take n (page k ++ rest)) bytes ∙ take-append-add (page k) rest (size - (k + 1) * (16 * per)))
        ∙ pieces-append per (size / 16 - (k + 1) * per) (size / 16 - k * per) (page k) (bytes_from (k + 1)) number len
        ∙ ap (λ (l : List ℕ). pieces per l ++ entries_from (k + 1)) (sym all) ∙ ap (λ (n : ℕ). pieces n (take (16 * c) (page k)) ++ entries_from (k + 1)) (sym is)

    pub one_part : c ≡ min (size / 16 - k * per) per → entries_from k ≡ pieces c (take (16 * c) (page k)) ++ entries_from (k + 1)
    one_part is =
        elim (cases_lt per (size / 16 - k * per)) as (λ _. entries_from k ≡ pieces c (take (16 * c) (page k)) ++ entries_from (k + 1)) [
          | inl full ↦ full_part (omega (arith, full)) (omega (arith, full, is))
          | inr last ↦ last_part last (omega (arith, last, is))
        ]

  pub first_part : pieces (size / 16) (take size (flat_map page (range_with_len 0 m))) ≡ entries_from 0
  first_part =
      let count : size / 16 ≡ size / 16 - 0 * per = omega arith in
      let bytes : size ≡ size - 0 * (16 * per) = omega arith in
      let pages : m ≡ m - 0 = omega arith in
      ap (λ (n : ℕ). pieces n (take size (flat_map page (range_with_len 0 m)))) count
      ∙ ap (λ (n : ℕ). pieces (size / 16 - 0 * per) (take n (flat_map page (range_with_len 0 m)))) bytes
      ∙ ap (λ (n : ℕ). pieces (size / 16 - 0 * per) (take (size - 0 * (16 * per)) (flat_map page (range_with_len 0 n)))) pages

  pub no_part : (k : ℕ) → size / 16 ≤ k * per → entries_from k ≡ []
  no_part k over =
      let none : size / 16 - k * per ≡ 0 = omega (arith, over) in
      ap (λ (n : ℕ). pieces n (bytes_from k)) none
