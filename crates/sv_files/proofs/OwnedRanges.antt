-- The ranges that an inode's lines are handed out in cover exactly them, each once.
use Rattle.std.proofs.Common.{◌≡◌, ◌≢◌, ◌<◌, ◌≤◌, ◌+◌, ◌*◌, ◌==◌, ◌&&◌, ◌||◌, not, ◌∙◌, ℕ, zero, suc, Bool, true, false, cond, List, [], ◌∷◌, ◌⊎◌, length}
use Rattle.std.proofs.Common.{nat_le, nat_lt, filter, flat_map, count_by, slice_index, refl, sym, ap, arith}
use Rattle.std.specs.List.{All, list_any, range_with_len}
use Rattle.std.proofs.lemmas.Bool.{cases_eq, cases_order, eq-eqb}
use Rattle.std.proofs.lemmas.Bool.Decides.{nat_tests}
use Rattle.std.proofs.lemmas.List.Elements.{All-head, All-tail}
use mathlib.Core.Logic.{inl, inr}
use Rattle.sv_form.specs.declared.geometry.Geometry.{Geometry}
use Rattle.sv_form.specs.declared.owners.LineRange.{LineRange}
use Rattle.sv_form.specs.Geometry.{IsPlace, block_lines}
use Rattle.sv_form.specs.OwnerTable.{IsOwnerTable, OwnerTable}
use Rattle.sv_form.specs.Owners.{AreLinesOf, IsRange, owner_of, range_lines}
use Rattle.sv_store.specs.Held.{covers, in_ranges}
use Rattle.sv_plain.specs.Totals.{one_if}
use Rattle.sv_plain.proofs.Got.{and_left, and_right}
use Rattle.sv_files.specs.View.{times}
use Rattle.sv_files.specs.Laws.{total-append}
use Rattle.sv_files.proofs.Moves.{one-if-apart}
use Rattle.sv_store.proofs.OwnLaws.{count-cons}
use Rattle.std.proofs.Math.Nat.{mul-le-mul_right}

-- how often a number stands in a range
times-range : (k from n : ℕ) → times k (range_with_len from n) ≡ one_if (nat_le from k && nat_lt k (from + n))
times-range k from zero = sym (ap one_if (none k from))
  where
    none : (k from : ℕ) → (nat_le from k && nat_lt k (from + 0)) ≡ false
    none k from = grind (nat_tests, arith)
times-range k from (suc n) =
    let rest = times-range k (from + 1) n in
    let both = step k from n in
    omega (arith, rest, both)
  where
    step : (k from n : ℕ) → one_if (from == k) + one_if (nat_le (from + 1) k && nat_lt k (from + 1 + n))
        ≡ one_if (nat_le from k && nat_lt k (from + suc n))
    step k from n = grind (nat_tests, arith)

-- a range covers a place of its block exactly where it has its number
same-block : (x f l c : ℕ) → (nat_le f l && nat_lt l (f + c)) ≡ (nat_le (x + f) (x + l) && nat_lt (x + l) (x + f + c))
same-block x f l c = grind (nat_tests, arith)

later-block : (x y f l c n : ℕ) → f + c ≤ n → x + n ≤ y → (nat_le (x + f) (y + l) && nat_lt (y + l) (x + f + c)) ≡ false
later-block x y f l c n fits above = grind (nat_tests, arith)

earlier-block : (x y f l c n : ℕ) → l < n → y + n ≤ x → (nat_le (x + f) (y + l) && nat_lt (y + l) (x + f + c)) ≡ false
earlier-block x y f l c n within below = grind (nat_tests, arith)

rows : (a b n : ℕ) → a < b → a * n + n ≤ b * n
rows a b n less =
    let more : (a + 1) * n ≤ b * n = mul-le-mul_right n (omega (arith, less)) in
    let row : (a + 1) * n ≡ a * n + n = grind arith in
    omega (arith, more, row)

no-block : (a b : ℕ) → a ≢ b → (a == b) ≡ false
no-block a b ne = grind (nat_tests, arith)

covers-number : (g : Geometry) (r : LineRange) (b l : ℕ) → IsRange g r → l < block_lines g
    → one_if (covers b l r) ≡ times (b * block_lines g + l) (range_lines g r)
unfolding covers
covers-number g r b l is within =
    (elim (cases_eq r.block b) [
      | inl e ↦
          ap (λ t. one_if (t && (nat_le r.first l && nat_lt l (r.first + r.count)))) (eq-eqb r.block b e)
          ∙ ap one_if (same-block (b * block_lines g) r.first l r.count)
          ∙ ap (λ k. one_if (nat_le (k * block_lines g + r.first) (b * block_lines g + l)
          && nat_lt (b * block_lines g + l) (k * block_lines g + r.first + r.count))) (sym e)
      | inr ne ↦
          ap (λ t. one_if (t && (nat_le r.first l && nat_lt l (r.first + r.count)))) (no-block r.block b ne)
          ∙ sym (ap one_if (off (apart_less r.block b ne)))
    ])
    ∙ sym (times-range (b * block_lines g + l) (r.block * block_lines g + r.first) r.count)
  where
    apart_less : (x y : ℕ) → x ≢ y → (x < y) ⊎ (y < x)
    apart_less x y ne = elim (cases_order x y) [ inl e ↦ absurd (ne e) | inr h ↦ h ]

    off : (r.block < b) ⊎ (b < r.block) → (nat_le (r.block * block_lines g + r.first) (b * block_lines g + l)
        && nat_lt (b * block_lines g + l) (r.block * block_lines g + r.first + r.count)) ≡ false
    off (inl less) = later-block (r.block * block_lines g) (b * block_lines g) r.first l r.count (block_lines g) is.within
        (rows r.block b (block_lines g) less)
    off (inr less) = earlier-block (r.block * block_lines g) (b * block_lines g) r.first l r.count (block_lines g) within
        (rows b r.block (block_lines g) less)

count-number : (g : Geometry) (rs : List LineRange) (b l : ℕ) → All (IsRange g) rs → l < block_lines g
    → count_by (covers b l) rs ≡ times (b * block_lines g + l) (flat_map (range_lines g) rs)
count-number g [] b l all within = refl
count-number g (r ∷ rs) b l all within =
    let first = covers-number g r b l (All-head (IsRange g) r rs all) within in
    let rest = count-number g rs b l (All-tail (IsRange g) r rs all) within in
    let both = total-append (λ m. one_if (m == b * block_lines g + l)) (range_lines g r) (flat_map (range_lines g) rs) in
    let counted = count-cons (covers b l) r rs in
    omega (arith, first, rest, both, counted)

times-filter : (p : ℕ → Bool) (k : ℕ) (xs : List ℕ) → times k (filter p xs) ≡ cond (p k) (times k xs) 0
times-filter p k [] = none (p k)
  where
    none : (t : Bool) → 0 ≡ cond {A = ℕ} t 0 0
    none true = refl
    none false = refl
times-filter p k (x ∷ xs) = elim (cases_eq x k) [
  | inl e ↦ same (times-filter p k xs) (p x) refl e
  | inr ne ↦ other (times-filter p k xs) (p x) ne
]
  where
    same : times k (filter p xs) ≡ cond (p k) (times k xs) 0 → (t : Bool) → p x ≡ t → x ≡ k → times k (cond t (x ∷ filter p xs) (filter p xs)) ≡ cond (p k) (times k (x ∷ xs)) 0
    same rest true is e =
        let passes : p k ≡ true = ap p (sym e) ∙ is in
        let here = rest ∙ ap (λ t. cond t (times k xs) 0) passes in
        (let sum : times k (x ∷ filter p xs) ≡ times k (x ∷ xs) = omega (arith, here) in sum)
        ∙ sym (ap (λ t. cond t (times k (x ∷ xs)) 0) passes)
    same rest false is e =
        let fails : p k ≡ false = ap p (sym e) ∙ is in
        rest ∙ ap (λ t. cond t (times k xs) 0) fails ∙ sym (ap (λ t. cond t (times k (x ∷ xs)) 0) fails)

    other : times k (filter p xs) ≡ cond (p k) (times k xs) 0 → (t : Bool) → x ≢ k → times k (cond t (x ∷ filter p xs) (filter p xs)) ≡ cond (p k) (times k (x ∷ xs)) 0
    other rest t ne =
        let none = one-if-apart x k ne in
        let left : times k (cond t (x ∷ filter p xs) (filter p xs)) ≡ times k (filter p xs) = skip t none in
        left ∙ rest ∙ ap (λ m. cond (p k) m 0) (let sum : times k xs ≡ times k (x ∷ xs) = omega (arith, none) in sum)
      where
        skip : (t : Bool) → one_if (x == k) ≡ 0 → times k (cond t (x ∷ filter p xs) (filter p xs)) ≡ times k (filter p xs)
        skip true none = omega (arith, none)
        skip false none = refl

-- ---- what the ranges of an inode's lines are

any-count : {A : Type 0} (p : A → Bool) (xs : List A) (c : ℕ) → count_by p xs ≡ c → list_any p xs ≡ not (c == 0)
any-count p [] c is = ap (λ n. not (n == 0)) is
any-count p (x ∷ xs) c is =
    by (any-count p xs c) (p x) refl
  where
    by : (count_by p xs ≡ c → list_any p xs ≡ not (c == 0)) → (t : Bool) → p x ≡ t → list_any p (x ∷ xs) ≡ not (c == 0)
    by rest true e = ap (λ t. t || list_any p xs) e ∙ sym (ap not (some c (let counted = count-cons p x xs in let one = ap one_if e in
        omega (arith, counted, one, is))))
      where
        some : (c : ℕ) → 1 ≤ c → (c == 0) ≡ false
        some c h = grind (nat_tests, arith)
    by rest false e = ap (λ t. t || list_any p xs) e ∙ rest (let counted = count-cons p x xs in let one = ap one_if e in
        omega (arith, counted, one, is))

module _ (t : OwnerTable) (n : ℕ) (ranges : List LineRange) (table : IsOwnerTable t) (are : AreLinesOf t n ranges) where
  abbrev number : ℕ → ℕ → ℕ
  number b l = b * block_lines t.geometry + l

  -- a place of the image has its number among the lines
  inside-number : (b l : ℕ) → IsPlace t.geometry (record { block = b; line = l }) → number b l < length t.owners
  inside-number b l place =
      let row = rows b t.geometry.blocks (block_lines t.geometry) place.block in
      let lines = table.lines in
      let line = place.line in
      omega (arith, row, lines, line)

  counted-once : (b l : ℕ) → IsPlace t.geometry (record { block = b; line = l })
      → count_by (covers b l) ranges ≡ one_if (owner_of t (record { block = b; line = l }) == n)
  counted-once b l place =
      count-number t.geometry ranges b l are.each place.line
      ∙ ap (times (number b l)) are.lines
      ∙ times-filter (λ k. slice_index t.owners k == n) (number b l) (range_with_len 0 (length t.owners))
      ∙ ap (λ m. cond (slice_index t.owners (number b l) == n) m 0) (times-range (number b l) 0 (length t.owners)
      ∙ ap one_if (within (number b l) (length t.owners) (inside-number b l place)))
      ∙ as-one (slice_index t.owners (number b l) == n)
    where
      within : (k m : ℕ) → k < m → (nat_le 0 k && nat_lt k (0 + m)) ≡ true
      within k m h = grind (nat_tests, arith)

      as-one : (u : Bool) → cond u (one_if true) 0 ≡ one_if u
      as-one true = refl
      as-one false = refl

  -- no range covers what is no place of the image
  covers-place : (r : LineRange) (b l : ℕ) → IsRange t.geometry r → covers b l r ≡ true → IsPlace t.geometry (record { block = b; line = l })
  unfolding covers
  covers-place r b l is e =
      let block = same-numbers r.block b (and_left (r.block == b) _ e) in
      let line = line-below r.first l r.count (and_right (r.block == b) _ e) in
      let fits = is.within in
      let low = is.block in
      record { block = omega (arith, block, low); line = omega (arith, line, fits) }
    where
      same-numbers : (x y : ℕ) → (x == y) ≡ true → x ≡ y
      same-numbers x y e = grind (nat_tests, arith)

      line-below : (f l c : ℕ) → (nat_le f l && nat_lt l (f + c)) ≡ true → l < f + c
      line-below f l c e = grind (nat_tests, arith)

  in-place : (rs : List LineRange) (b l : ℕ) → All (IsRange t.geometry) rs → in_ranges rs b l ≡ true
      → IsPlace t.geometry (record { block = b; line = l })
  in-place [] b l all e = absurd (cc e)
  in-place (r ∷ rs) b l all e = by (in-place rs b l (All-tail (IsRange t.geometry) r rs all)) (covers b l r) refl
    where
      by : (in_ranges rs b l ≡ true → IsPlace t.geometry (record { block = b; line = l })) → (u : Bool) → covers b l r ≡ u
          → IsPlace t.geometry (record { block = b; line = l })
      by rest true is = covers-place r b l (All-head (IsRange t.geometry) r rs all) is
      by rest false is = rest (ap (λ u. u || in_ranges rs b l) (sym is) ∙ e)

  -- the ranges cover a place of the image exactly where it is the inode's
  pub in-ranges-is : (b l : ℕ) → IsPlace t.geometry (record { block = b; line = l })
      → in_ranges ranges b l ≡ (owner_of t (record { block = b; line = l }) == n)
  in-ranges-is b l place =
      any-count (covers b l) ranges (one_if (owner_of t (record { block = b; line = l }) == n)) (counted-once b l place)
      ∙ some-one (owner_of t (record { block = b; line = l }) == n)
    where
      some-one : (u : Bool) → not (one_if u == 0) ≡ u
      some-one true = refl
      some-one false = refl

  pub in-ranges-place : (b l : ℕ) → in_ranges ranges b l ≡ true → IsPlace t.geometry (record { block = b; line = l })
  in-ranges-place b l e = in-place ranges b l are.each e

  pub once-covered : (b l : ℕ) → count_by (covers b l) ranges ≤ 1
  once-covered b l = by (in_ranges ranges b l) refl
    where
      le-one : (u : Bool) → one_if u ≤ 1
      le-one true = omega arith
      le-one false = omega arith

      none-of : {A : Type 0} (p : A → Bool) (xs : List A) → list_any p xs ≡ false → count_by p xs ≤ 1
      none-of p xs e = none (count_by p xs) (sym (any-count p xs (count_by p xs) refl) ∙ e)
        where
          none : (c : ℕ) → not (c == 0) ≡ false → c ≤ 1
          none c h = grind (nat_tests, arith)

      by : (u : Bool) → in_ranges ranges b l ≡ u → count_by (covers b l) ranges ≤ 1
      by true e =
          let is = counted-once b l (in-ranges-place b l e) in
          let most = le-one (owner_of t (record { block = b; line = l }) == n) in
          omega (arith, is, most)
      by false e = none-of (covers b l) ranges e
