-- A cache whose numbers are given.
use Rattle.std.proofs.Common.{◌≡◌, ◌≤◌, ◌<◌, ◌+◌, ◌==◌, ◌&&◌, ℕ, Bool, true, false, List, [], ◌∷◌, replicate, refl, sym, ap, ◌∙◌, arith}
use Rattle.std.specs.List.{list_all}
use Rattle.std.proofs.lemmas.Bool.{eqb-true, false≢true}
use Rattle.sv_super.specs.Count.{one_if, times}
use Rattle.sv_super.specs.Inodes.{is_free_inode}
use Rattle.sv_super.proofs.Counts.{times-cons, times-nil}

and-first : (s t : Bool) → (s && t) ≡ true → s ≡ true
and-first true t e = refl
and-first false t e = absurd (false≢true e)

and-second : (s t : Bool) → (s && t) ≡ true → t ≡ true
and-second true t e = e
and-second false t e = absurd (false≢true e)

-- what all numbers of a list pass, each passes
pub each-in : (test : ℕ → Bool) (xs : List ℕ) → list_all test xs ≡ true → (n : ℕ) → 0 < times n xs → test n ≡ true
each-in test [] all n some = absurd (omega (arith, some, times-nil n))
each-in test (x ∷ xs) all n some = by (x == n) refl (each-in test xs)
  where
    by : (t : Bool) → (x == n) ≡ t → (list_all test xs ≡ true → (m : ℕ) → 0 < times m xs → test m ≡ true) → test n ≡ true
    by true e more = ap test (sym (eqb-true x n e)) ∙ and-first (test x) (list_all test xs) all
    by false e more =
        more (and-second (test x) (list_all test xs) all) n
        (let q = times-cons n x xs in let none = ap one_if e in omega (arith, some, q, none))

-- no number stands in the list after itself
pub distinct : List ℕ → Bool
distinct [] = true
distinct (x ∷ xs) = (times x xs == 0) && distinct xs

pub once-in : (xs : List ℕ) → distinct xs ≡ true → (n : ℕ) → times n xs ≤ 1
unfolding times distinct
once-in [] all n = omega (arith, times-nil n)
once-in (x ∷ xs) all n = by (x == n) refl (once-in xs)
  where
    by : (t : Bool) → (x == n) ≡ t → (distinct xs ≡ true → (m : ℕ) → times m xs ≤ 1) → times n (x ∷ xs) ≤ 1
    by true e more =
        let none = eqb-true (times x xs) 0 (and-first (times x xs == 0) (distinct xs) all) in
        let same = ap (λ q. times q xs) (eqb-true x n e) in
        let one = ap one_if e in
        omega (arith, times-cons n x xs, none, same, one)
    by false e more =
        let rest = more (and-second (times x xs == 0) (distinct xs) all) n in
        let none = ap one_if e in
        omega (arith, times-cons n x xs, rest, none)

-- the cache of an image of 32 inodes of which two are used
abbrev pub image_cache : List ℕ
image_cache =
    32 ∷ 31 ∷ 30 ∷ 29 ∷ 28 ∷ 27 ∷ 26 ∷ 25 ∷ 24 ∷ 23 ∷ 22 ∷ 21 ∷ 20 ∷ 19 ∷ 18 ∷
    17 ∷ 16 ∷ 15 ∷ 14 ∷ 13 ∷ 12 ∷ 11 ∷ 10 ∷ 9 ∷ 8 ∷ 7 ∷ 6 ∷ 5 ∷ 4 ∷ 3 ∷ []

pub image-free : (used : List Bool) → used ≡ true ∷ (true ∷ replicate 30 false) → list_all (is_free_inode used) image_cache ≡ true
unfolding is_free_inode
image-free used is = ap (λ q. list_all (is_free_inode q) image_cache) is

pub image-once : distinct image_cache ≡ true
unfolding times distinct
image-once = refl
