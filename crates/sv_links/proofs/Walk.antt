-- Going through a list from its head, for those who do.
use Rattle.std.proofs.Common.{◌≡◌, ℕ, zero, suc, ◌+◌, ◌<◌, ◌≤◌, ◌==◌, List, [], ◌∷◌, ◌++◌, Bool, true, false, find, length, add-one, add-zero, Option, Some, None, refl, sym, ap, ◌∙◌, arith, inl, inr}
use Rattle.std.specs.List.{slice_get, range_with_len}
use Rattle.std.proofs.lemmas.Bool.{cases_eq, cases_Bool, cond-true, cond-false, eq-eqb, ne_eqb}
use Rattle.sv_links.specs.Arrangement.{times, after}
use Rattle.sv_links.proofs.Times.{one-if_same, none-if_other}

-- what is left of a list that has been gone through up to a number
abbrev pub rest : Option ℕ → List ℕ → List ℕ
rest None xs = []
rest (Some x) xs = x ∷ after x xs

pub after-same : (x y : ℕ) (ys : List ℕ) → y ≡ x → after x (y ∷ ys) ≡ ys
after-same x y ys e = cond-true (y == x) ys (after x ys) (eq-eqb y x e)

pub after-other : (x y : ℕ) (ys : List ℕ) → (y ≡ x → ⊥) → after x (y ∷ ys) ≡ after x ys
after-other x y ys n = cond-false (y == x) ys (after x ys) (ne_eqb y x n)

pub times-after : (x y : ℕ) (xs : List ℕ) → times y (after x xs) ≤ times y xs
times-after x y [] = omega arith
times-after x y (z ∷ zs) =
    elim (cases_eq z x) [
      | inl e ↦ let same = ap (times y) (after-same x z zs e) in omega arith
      | inr n ↦ let same = ap (times y) (after-other x z zs n) in omega (arith, times-after x y zs)
    ]

-- at the head all is left
pub rest-first : (xs : List ℕ) → rest (slice_get xs 0) xs ≡ xs
rest-first [] = refl
rest-first (x ∷ xs) = ap (λ (ys : List ℕ). x ∷ ys) (after-same x x xs refl)

-- where each number stands once, what stands after the number after x is the rest
after-after : (x y : ℕ) (xs ys : List ℕ) → ((z : ℕ) → times z xs ≤ 1) → after x xs ≡ y ∷ ys → after y xs ≡ ys
after-after x y [] ys once h = absurd cc
after-after x y (z ∷ zs) ys once h =
    elim (cases_eq z x) [
      | inl e ↦
          let here : zs ≡ y ∷ ys = sym (after-same x z zs e) ∙ h in
          let count : times y zs ≡ times y (y ∷ ys) = ap (times y) here in
          let one = one-if_same y y refl in
          elim (cases_eq z y) [
            | inl s ↦ let two = one-if_same z y s in absurd (omega (arith, once y))
            | inr d ↦ after-other y z zs d ∙ ap (after y) here ∙ after-same y y ys refl
          ]
      | inr n ↦
          let there : after x zs ≡ y ∷ ys = sym (after-other x z zs n) ∙ h in
          let count : times y (after x zs) ≡ times y (y ∷ ys) = ap (times y) there in
          let one = one-if_same y y refl in
          elim (cases_eq z y) [
            | inl s ↦ let two = one-if_same z y s in absurd (omega (arith, once y, times-after x y zs))
            | inr d ↦ after-other y z zs d ∙ after-after x y zs ys (λ w. omega (arith, once w)) there
          ]
    ]

rest-next_at : (x : ℕ) (xs zs : List ℕ) → ((z : ℕ) → times z xs ≤ 1) → after x xs ≡ zs → rest (slice_get zs 0) xs ≡ zs
rest-next_at x xs [] once h = refl
rest-next_at x xs (y ∷ ys) once h = ap (λ (ws : List ℕ). y ∷ ws) (after-after x y xs ys once h)

-- one number on, what is left is what stood after the number
pub rest-next : (x : ℕ) (xs : List ℕ) → ((z : ℕ) → times z xs ≤ 1) → rest (slice_get (after x xs) 0) xs ≡ after x xs
rest-next x xs once = rest-next_at x xs (after x xs) once refl

-- the head of a list stands on it
pub head-stands : (x : ℕ) (xs : List ℕ) → slice_get xs 0 ≡ Some x → 0 < times x xs
head-stands x [] h = absurd cc
head-stands x (y ∷ ys) h = let same : y ≡ x = cc in let one = one-if_same y x same in omega arith

-- A search for the first number that passes a test, which has come to n.
pub record Searching (test : ℕ → Bool) (xs : List ℕ) (n : Option ℕ) : Type 0 where
  pub same : find test xs ≡ find test (rest n xs)
  pub on : (k : ℕ) → n ≡ Some k → 0 < times k xs

pub search-first : (test : ℕ → Bool) (xs : List ℕ) (n : Option ℕ) → n ≡ slice_get xs 0 → Searching test xs n
search-first test xs n h = record {
  same = ap (find test) (sym (rest-first xs)) ∙ ap (λ m. find test (rest m xs)) (sym h);
  on = λ k e. head-stands k xs (sym h ∙ e);
}

pub search-next : (test : ℕ → Bool) (xs : List ℕ) (x : ℕ) (m n : Option ℕ) → ((z : ℕ) → times z xs ≤ 1) → Searching test xs m → m ≡ Some x → test x ≡ false → n ≡ slice_get (after x xs) 0 → Searching test xs n
search-next test xs x m n once s at fails h = record {
  same = s.same ∙ ap (λ o. find test (rest o xs)) at ∙ cond-false (test x) (Some x) (find test (after x xs)) fails ∙ ap (find test) (sym (rest-next x xs once)) ∙ ap (λ o. find test (rest o xs)) (sym h);
  on = λ k e. omega (arith, head-stands k (after x xs) (sym h ∙ e), times-after x k xs);
}

pub search-found : (test : ℕ → Bool) (xs : List ℕ) (x : ℕ) (m : Option ℕ) → Searching test xs m → m ≡ Some x → test x ≡ true → find test xs ≡ Some x
search-found test xs x m s at passes = s.same ∙ ap (λ o. find test (rest o xs)) at ∙ cond-true (test x) (Some x) (find test (after x xs)) passes

pub search-end : (test : ℕ → Bool) (xs : List ℕ) (m : Option ℕ) → Searching test xs m → m ≡ None → find test xs ≡ None
search-end test xs m s at = s.same ∙ ap (λ o. find test (rest o xs)) at

pub search-smaller : (xs : List ℕ) (x : ℕ) (m n : Option ℕ) → ((z : ℕ) → times z xs ≤ 1) → m ≡ Some x → n ≡ slice_get (after x xs) 0 → length (rest n xs) < length (rest m xs)
search-smaller xs x m n once at h =
    let new : length (rest n xs) ≡ length (after x xs) = ap (λ o. length (rest o xs)) h ∙ ap length (rest-next x xs once) in
    let old : length (rest m xs) ≡ suc (length (after x xs)) = ap (λ o. length (rest o xs)) at in
    omega arith

-- what a search finds
pub find-some : (test : ℕ → Bool) (xs : List ℕ) (k : ℕ) → find test xs ≡ Some k → (test k ≡ true) × (0 < times k xs)
find-some test [] k h = absurd cc
find-some test (x ∷ xs) k h =
    elim (cases_Bool (test x)) [
      | inl e ↦
          let found = cond-true (test x) (Some x) (find test xs) e in
          let same : x ≡ k = cc in
          let one = one-if_same x k same in
          (ap test (sym same) ∙ e, omega arith)
      | inr e ↦
          let further = find-some test xs k (sym (cond-false (test x) (Some x) (find test xs) e) ∙ h) in
          let there : 0 < times k xs = further.1 in
          (further.0, omega arith)
    ]

pub find-none : (test : ℕ → Bool) (xs : List ℕ) (k : ℕ) → find test xs ≡ None → 0 < times k xs → test k ≡ false
find-none test [] k h on = absurd (omega arith)
find-none test (x ∷ xs) k h on =
    elim (cases_Bool (test x)) [
      | inl e ↦ let found = cond-true (test x) (Some x) (find test xs) e in absurd cc
      | inr e ↦
          elim (cases_eq x k) [
            | inl s ↦ ap test (sym s) ∙ e
            | inr n ↦ let other = none-if_other x k n in find-none test xs k (sym (cond-false (test x) (Some x) (find test xs) e) ∙ h) (omega arith)
          ]
    ]

-- the numbers from a on
pub times-range_below : (k a n : ℕ) → k < a → times k (range_with_len a n) ≡ 0
times-range_below k a zero h = refl
times-range_below k a (suc n) h = let other = none-if_other a k (λ e. absurd (omega arith)) in omega (arith, times-range_below k (a + 1) n (omega arith))

pub times-range_past : (k a n : ℕ) → a + n ≤ k → times k (range_with_len a n) ≡ 0
times-range_past k a zero h = refl
times-range_past k a (suc n) h = let other = none-if_other a k (λ e. absurd (omega arith)) in omega (arith, times-range_past k (a + 1) n (omega arith))

pub times-range_le : (k a n : ℕ) → times k (range_with_len a n) ≤ 1
times-range_le k a zero = omega arith
times-range_le k a (suc n) =
    elim (cases_eq a k) [
      | inl e ↦ omega (arith, one-if_same a k e, times-range_below k (a + 1) n (omega arith))
      | inr m ↦ omega (arith, none-if_other a k m, times-range_le k (a + 1) n)
    ]

range-push_suc : (a n : ℕ) → range_with_len a (suc n) ≡ range_with_len a n ++ (a + n) ∷ []
range-push_suc a zero = ap (λ b. b ∷ []) (sym (add-zero a))
range-push_suc a (suc n) = ap (λ (ys : List ℕ). a ∷ ys) (range-push_suc (a + 1) n ∙ ap (λ b. range_with_len (a + 1) n ++ b ∷ []) (omega arith))

pub range-push : (a n : ℕ) → range_with_len a (n + 1) ≡ range_with_len a n ++ (a + n) ∷ []
range-push a n = rw add-one (range-push_suc a n)

pub times-range_in : (k a n : ℕ) → a ≤ k → k < a + n → times k (range_with_len a n) ≡ 1
times-range_in k a zero low high = absurd (omega arith)
times-range_in k a (suc n) low high =
    elim (cases_eq a k) [
      | inl e ↦ omega (arith, one-if_same a k e, times-range_below k (a + 1) n (omega arith))
      | inr m ↦ omega (arith, none-if_other a k m, times-range_in k (a + 1) n (omega arith) (omega arith))
    ]
