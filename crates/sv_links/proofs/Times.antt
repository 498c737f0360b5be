-- How often a number stands on a list, and what stands after it.
use Rattle.std.proofs.Common.{◌≡◌, ◌≢◌, ℕ, zero, suc, ◌+◌, ◌<◌, ◌≤◌, ◌==◌, List, [], ◌∷◌, ◌++◌, not, length, refl, sym, ap, ◌∙◌, arith, inl, inr, subst, Option, Some, None, ltb, get_or, map}
use Rattle.std.specs.Borrow.{Bor}
use Rattle.std.specs.Slice.{IsItemAt}
use Rattle.std.specs.Option.{option_copied}
use Rattle.std.specs.List.{slice_get, position_or_len, position}
use Rattle.std.proofs.lemmas.List.{length-map, ext_get_or}
use Rattle.std.proofs.lemmas.Bool.{cases_eq, cases_lt, lt-ltb, le-ltb, cond-true, cond-false, eq-eqb, ne_eqb, cases_Bool}
use Rattle.sv_links.specs.Arrangement.{times, without, after, one_if}

pub times-append : (x : ℕ) (xs ys : List ℕ) → times x (xs ++ ys) ≡ times x xs + times x ys
times-append x [] ys = omega arith
times-append x (y ∷ xs) ys = omega (arith, times-append x xs ys)

pub times-push : (x y : ℕ) (xs : List ℕ) → times y (xs ++ x ∷ []) ≡ times y xs + one_if (x == y)
times-push x y xs = omega (arith, times-append y xs (x ∷ []))

pub times-cons : (x y : ℕ) (xs : List ℕ) → times y (x ∷ xs) ≡ times y xs + one_if (x == y)
times-cons x y xs = omega arith

-- the test of a number against itself
pub one-if_same : (x y : ℕ) → x ≡ y → one_if (x == y) ≡ 1
one-if_same x y e = ap one_if (eq-eqb x y e)

pub none-if_other : (x y : ℕ) → x ≢ y → one_if (x == y) ≡ 0
none-if_other x y n = ap one_if (ne_eqb x y n)

pub without-cons_same : (x y : ℕ) (ys : List ℕ) → y ≡ x → without x (y ∷ ys) ≡ without x ys
without-cons_same x y ys e = cond-false (not (y == x)) (y ∷ without x ys) (without x ys) (ap not (eq-eqb y x e))

pub without-cons_other : (x y : ℕ) (ys : List ℕ) → y ≢ x → without x (y ∷ ys) ≡ y ∷ without x ys
without-cons_other x y ys n = cond-true (not (y == x)) (y ∷ without x ys) (without x ys) (ap not (ne_eqb y x n))

pub times-without_same : (x : ℕ) (xs : List ℕ) → times x (without x xs) ≡ 0
times-without_same x [] = refl
times-without_same x (y ∷ ys) =
    elim (cases_eq y x) [
      | inl e ↦ ap (times x) (without-cons_same x y ys e) ∙ times-without_same x ys
      | inr n ↦ let h = none-if_other y x n in let t = ap (times x) (without-cons_other x y ys n) in omega (arith, times-without_same x ys)
    ]

pub times-without_other : (x z : ℕ) (xs : List ℕ) → z ≢ x → times z (without x xs) ≡ times z xs
times-without_other x z [] n = refl
times-without_other x z (y ∷ ys) n =
    elim (cases_eq y x) [
      | inl e ↦ let t = ap (times z) (without-cons_same x y ys e) in let h : one_if (y == z) ≡ 0 = none-if_other y z (λ q. n (sym q ∙ e)) in omega (arith, times-without_other x z ys n)
      | inr m ↦ let t = ap (times z) (without-cons_other x y ys m) in omega (arith, times-without_other x z ys n)
    ]

pub without_absent : (x : ℕ) (xs : List ℕ) → times x xs ≡ 0 → without x xs ≡ xs
without_absent x [] h = refl
without_absent x (y ∷ ys) h =
    elim (cases_eq y x) [
      | inl e ↦ let o = one-if_same y x e in absurd (omega arith)
      | inr n ↦ let o = none-if_other y x n in without-cons_other x y ys n ∙ ap (λ (zs : List ℕ). y ∷ zs) (without_absent x ys (omega arith))
    ]

pub length-without : (x : ℕ) (xs : List ℕ) → length (without x xs) + times x xs ≡ length xs
length-without x [] = refl
length-without x (y ∷ ys) =
    elim (cases_eq y x) [
      | inl e ↦ let o = one-if_same y x e in let t : length (without x (y ∷ ys)) ≡ length (without x ys) = ap length (without-cons_same x y ys e) in omega (arith, length-without x ys)
      | inr n ↦ let o = none-if_other y x n in let t : length (without x (y ∷ ys)) ≡ suc (length (without x ys)) = ap length (without-cons_other x y ys n) in omega (arith, length-without x ys)
    ]

-- numbers below n, each at most once, are at most n
pub length-le_numbers : (n : ℕ) (xs : List ℕ) → ((y : ℕ) → times y xs ≤ 1) → ((y : ℕ) → 0 < times y xs → y < n) → length xs ≤ n
length-le_numbers zero [] once below = omega arith
length-le_numbers zero (x ∷ xs) once below = let o = one-if_same x x refl in absurd (omega (arith, below x (omega arith)))
length-le_numbers (suc n) xs once below =
    let rest : length (without n xs) ≤ n =
    length-le_numbers n (without n xs)
    (λ y. elim (cases_eq y n) [
      | inl e ↦ let z : times y (without n xs) ≡ 0 = subst (λ q. times q (without n xs) ≡ 0) (sym e) (times-without_same n xs) in omega arith
      | inr d ↦ omega (arith, times-without_other n y xs d, once y)
    ])
    (λ y on. elim (cases_eq y n) [
      | inl e ↦ let z : times y (without n xs) ≡ 0 = subst (λ q. times q (without n xs) ≡ 0) (sym e) (times-without_same n xs) in absurd (omega arith)
      | inr d ↦ let same = times-without_other n y xs d in let b : y < suc n = below y (omega arith) in omega arith
    ])
    in omega (arith, length-without n xs, once n)

-- a number that is not on such a list can still be put on it
pub length-lt_numbers : (n : ℕ) (xs : List ℕ) (x : ℕ) → ((y : ℕ) → times y xs ≤ 1) → ((y : ℕ) → 0 < times y xs → y < n) → times x xs ≡ 0 → x < n → length xs < n
length-lt_numbers n xs x once below absent inside =
    let more : length (x ∷ xs) ≤ n =
    length-le_numbers n (x ∷ xs)
    (λ y. elim (cases_eq x y) [
      | inl e ↦ let z : times y xs ≡ 0 = subst (λ q. times q xs ≡ 0) e absent in let o = one-if_same x y e in omega arith
      | inr d ↦ let o = none-if_other x y d in omega (arith, once y)
    ])
    (λ y on. elim (cases_eq x y) [
      | inl e ↦ subst (λ q. q < n) e inside
      | inr d ↦ let o = none-if_other x y d in below y (omega arith)
    ])
    in omega arith

-- what stands after x, by its place
pub after-place : (x : ℕ) (xs : List ℕ) → slice_get (after x xs) 0 ≡ slice_get xs (position_or_len (λ y. y == x) xs + 1)
after-place x [] = refl
after-place x (y ∷ ys) =
    elim (cases_Bool (y == x)) [
      | inl e ↦
          let here : position_or_len (λ z. z == x) (y ∷ ys) ≡ 0 = cond-false (not (y == x)) (1 + position_or_len (λ z. z == x) ys) 0 (ap not e) in
          ap (λ zs. slice_get zs 0) (cond-true (y == x) ys (after x ys) e) ∙ ap (λ k. slice_get (y ∷ ys) (k + 1)) (sym here)
      | inr e ↦
          let further : position_or_len (λ z. z == x) (y ∷ ys) ≡ suc (position_or_len (λ z. z == x) ys) = cond-true (not (y == x)) (1 + position_or_len (λ z. z == x) ys) 0 (ap not e) ∙ omega arith in
          let next : position_or_len (λ z. z == x) (y ∷ ys) + 1 ≡ suc (position_or_len (λ z. z == x) ys + 1) = omega arith in
          ap (λ zs. slice_get zs 0) (cond-false (y == x) ys (after x ys) e) ∙ after-place x ys ∙ ap (λ k. slice_get (y ∷ ys) k) (sym next)
    ]

pub slice_get-past : (xs : List ℕ) (k : ℕ) → length xs ≤ k → slice_get xs k ≡ None
slice_get-past [] k h = refl
slice_get-past (x ∷ xs) zero h = absurd (omega arith)
slice_get-past (x ∷ xs) (suc k) h = slice_get-past xs k (omega arith)

-- what stands after x, where its place was looked for
pub after-none : (x : ℕ) (xs : List ℕ) → position (λ y. y == x) xs ≡ None → slice_get (after x xs) 0 ≡ None
after-none x xs h =
    elim (cases_lt (position_or_len (λ y. y == x) xs) (length xs)) [
      | inl in_list ↦ let e = cond-true (ltb (position_or_len (λ y. y == x) xs) (length xs)) (Some (position_or_len (λ y. y == x) xs)) None (lt-ltb _ _ in_list) in absurd cc
      | inr past ↦ after-place x xs ∙ slice_get-past xs (position_or_len (λ y. y == x) xs + 1) (omega arith)
    ]

pub after-some : (x : ℕ) (xs : List ℕ) (k : ℕ) → position (λ y. y == x) xs ≡ Some k → slice_get (after x xs) 0 ≡ slice_get xs (k + 1)
after-some x xs k h =
    elim (cases_lt (position_or_len (λ y. y == x) xs) (length xs)) [
      | inl in_list ↦ let e = cond-true (ltb (position_or_len (λ y. y == x) xs) (length xs)) (Some (position_or_len (λ y. y == x) xs)) None (lt-ltb _ _ in_list) in let same : position_or_len (λ y. y == x) xs ≡ k = cc in after-place x xs ∙ ap (λ i. slice_get xs (i + 1)) same
      | inr past ↦ let e = cond-false (ltb (position_or_len (λ y. y == x) xs) (length xs)) (Some (position_or_len (λ y. y == x) xs)) None (le-ltb _ _ past) in absurd cc
    ]

pub slice_get-at : (xs : List ℕ) (k d : ℕ) → k < length xs → slice_get xs k ≡ Some (get_or xs k d)
slice_get-at [] k d h = absurd (omega arith)
slice_get-at (x ∷ xs) zero d h = refl
slice_get-at (x ∷ xs) (suc k) d h = slice_get-at xs k d (omega arith)

-- what `get` and `copied` give
pub item-copied : (xs : List ℕ) (k : ℕ) (r : Option (Bor ℕ)) → IsItemAt xs k r → option_copied r ≡ slice_get xs k
item-copied xs k None h = sym (slice_get-past xs k h.3)
item-copied xs k (Some x) h = ap Some h.1 ∙ sym (slice_get-at xs k x.now h.3.0)

-- each of many lists without x
pub get_or-without : (x : ℕ) (lists : List (List ℕ)) (k : ℕ) → get_or (map (without x) lists) k [] ≡ without x (get_or lists k [])
get_or-without x [] k = refl
get_or-without x (xs ∷ lists) zero = refl
get_or-without x (xs ∷ lists) (suc k) = get_or-without x lists k

-- taking off a number that is on no list changes nothing
pub map-without_absent : (x : ℕ) (lists : List (List ℕ)) → ((k : ℕ) → times x (get_or lists k []) ≡ 0) → map (without x) lists ≡ lists
map-without_absent x lists absent =
    ext_get_or [] (map (without x) lists) lists (length-map lists (without x))
    (λ k h. get_or-without x lists k ∙ without_absent x (get_or lists k []) (absent k))
