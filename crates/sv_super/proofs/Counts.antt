-- How often a number stands in a list, and sums over the numbers below another.
use Rattle.std.proofs.Common.{◌≡◌, ◌≢◌, ◌+◌, ◌<◌, ◌≤◌, ◌==◌, ℕ, zero, suc, Bool, true, false, List, [], ◌∷◌, ◌++◌, length, get_or, arith, refl, sym, ap, ◌∙◌}
use mir.Val.{bool_byte}
use Rattle.std.proofs.Math.Path.{fun_ext}
use Rattle.std.proofs.lemmas.Bool.{eqb-true}
use Rattle.std.proofs.lemmas.Bool.Decides.{nat_tests}
use Rattle.sv_store.proofs.Holding.{eqb_same}
use Rattle.sv_super.specs.Count.{one_if, sum_below, times}

pub other : (a b : ℕ) → a ≢ b → (a == b) ≡ false
other a b h = grind (nat_tests, arith)

pub apart : (a b : ℕ) → (a == b) ≡ false → a ≢ b
apart a b h = grind (nat_tests, arith)

pub times-nil : (b : ℕ) → times b [] ≡ 0
unfolding times
times-nil b = refl

pub times-cons : (b x : ℕ) (xs : List ℕ) → times b (x ∷ xs) ≡ one_if (x == b) + times b xs
unfolding times
times-cons b x xs = refl

pub times-first : (b : ℕ) (xs : List ℕ) → times b (b ∷ xs) ≡ suc (times b xs)
times-first b xs = times-cons b b xs ∙ (ap (λ t. one_if t + times b xs) (eqb_same b) ∙ omega arith)

pub times-other : (b x : ℕ) (xs : List ℕ) → x ≢ b → times b (x ∷ xs) ≡ times b xs
times-other b x xs h = times-cons b x xs ∙ (ap (λ t. one_if t + times b xs) (other x b h) ∙ omega arith)

pub times-append : (b : ℕ) (xs ys : List ℕ) → times b (xs ++ ys) ≡ times b xs + times b ys
times-append b [] ys = let e : times b ys ≡ 0 + times b ys = omega arith in e ∙ ap (λ q. q + times b ys) (sym (times-nil b))
times-append b (x ∷ xs) ys =
    let more = times-append b xs ys in
    let one = times-cons b x (xs ++ ys) in
    let two = times-cons b x xs in
    omega arith

pub times-snoc : (b x : ℕ) (xs : List ℕ) → times b (xs ++ x ∷ []) ≡ times b xs + one_if (x == b)
times-snoc b x xs =
    let one = times-append b xs (x ∷ []) in
    let two = times-cons b x [] in
    let three = times-nil b in
    omega arith

-- ---- sums

pub sum-none : (n : ℕ) → sum_below n (λ _. 0) ≡ 0
unfolding sum_below
sum-none zero = refl
sum-none (suc n) = let h = sum-none n in omega arith

pub sum-plus : (n : ℕ) (f g : ℕ → ℕ) → sum_below n (λ b. f b + g b) ≡ sum_below n f + sum_below n g
unfolding sum_below
sum-plus zero f g = refl
sum-plus (suc n) f g = let h = sum-plus n f g in omega arith

pub sum-more : (n : ℕ) (f : ℕ → ℕ) → sum_below (n + 1) f ≡ sum_below n f + f n
unfolding sum_below
sum-more n f = let e : n + 1 ≡ suc n = omega arith in ap (λ q. sum_below q f) e

pub sum-zero : (f : ℕ → ℕ) → sum_below 0 f ≡ 0
unfolding sum_below
sum-zero f = refl

pub sum-le : (n : ℕ) (f : ℕ → ℕ) → ((b : ℕ) → f b ≤ 1) → sum_below n f ≤ n
unfolding sum_below
sum-le zero f h = omega arith
sum-le (suc n) f h = let more = sum-le n f h in let here = h n in omega arith

pub sum-ext : (n : ℕ) (f g : ℕ → ℕ) → ((b : ℕ) → f b ≡ g b) → sum_below n f ≡ sum_below n g
sum-ext n f g h = ap (sum_below n) (fun_ext h)

sum-past : (n x : ℕ) → n ≤ x → sum_below n (λ b. one_if (x == b)) ≡ 0
unfolding sum_below
sum-past zero x h = refl
sum-past (suc n) x h =
    let more = sum-past n x (omega arith) in
    let ne : x ≢ n = omega arith in
    let here = ap one_if (other x n ne) in
    omega arith

sum-at : (n x : ℕ) → x < n → sum_below n (λ b. one_if (x == b)) ≡ 1
unfolding sum_below
sum-at zero x h = absurd (omega arith)
sum-at (suc n) x h = by (x == n) refl (sum-at n x)
  where
    by : (t : Bool) → (x == n) ≡ t → (x < n → sum_below n (λ b. one_if (x == b)) ≡ 1) → sum_below n (λ b. one_if (x == b)) + one_if (x == n) ≡ 1
    by true e more =
        let same = eqb-true x n e in
        let none = sum-past n x (omega arith) in
        let here = ap one_if e in
        omega arith
    by false e more =
        let ne = apart x n e in
        let below = more (omega arith) in
        let here = ap one_if e in
        omega arith

-- a list of numbers below n is as long as they stand in it, all counted
pub length-times : (n : ℕ) (xs : List ℕ) → ((b : ℕ) → 0 < times b xs → b < n) → sum_below n (λ b. times b xs) ≡ length xs
length-times n [] low = sum-ext n (λ b. times b []) (λ _. 0) times-nil ∙ sum-none n
length-times n (x ∷ xs) low =
    let first : x < n = low x (let e = times-first x xs in omega arith) in
    let rest = length-times n xs (λ b h. low b (let e = times-cons b x xs in omega arith)) in
    let all = sum-ext n (λ b. times b (x ∷ xs)) (λ b. one_if (x == b) + times b xs) (λ b. times-cons b x xs) in
    let plus = sum-plus n (λ b. one_if (x == b)) (λ b. times b xs) in
    let one = sum-at n x first in
    omega arith

-- two lists of numbers below n, each number in one of them and once, have at most n in all
pub few : (n : ℕ) (xs ys : List ℕ) → ((b : ℕ) → 0 < times b xs + times b ys → b < n) → ((b : ℕ) → times b xs + times b ys ≤ 1) → length xs + length ys ≤ n
few n xs ys low once =
    let first = length-times n xs (λ b h. low b (omega arith)) in
    let second = length-times n ys (λ b h. low b (omega arith)) in
    let plus = sum-plus n (λ b. times b xs) (λ b. times b ys) in
    let all = sum-le n (λ b. times b xs + times b ys) once in
    omega arith

-- a count has one more
pub counts-more : (n count more : ℕ) (t : ℕ → Bool) → count ≡ sum_below n (λ b. one_if (t b)) → more ≡ one_if (t n) → count + more ≡ sum_below (n + 1) (λ b. one_if (t b))
counts-more n count more t e f = let q = sum-more n (λ b. one_if (t b)) in omega arith

pub one-le : (t : Bool) → one_if t ≤ 1
one-le true = omega arith
one-le false = omega arith

pub counts-low : (n count more : ℕ) (t : ℕ → Bool) → count ≡ sum_below n (λ b. one_if (t b)) → more ≡ one_if (t n) → count + more ≤ n + 1
counts-low n count more t e f =
    let q = sum-le n (λ b. one_if (t b)) (λ b. one-le (t b)) in
    let r = one-le (t n) in
    omega arith

-- a test as a number
pub byte-one : (t : Bool) → bool_byte t ≡ one_if t
byte-one true = refl
byte-one false = refl

-- what stands at a place of the list is in it
pub times-at : (xs : List ℕ) (k b : ℕ) → k < length xs → get_or xs k 0 ≡ b → 0 < times b xs
times-at [] k b low is = absurd (omega arith)
times-at (x ∷ xs) zero b low is = let e = times-first b xs in let q = ap (λ y. times b (y ∷ xs)) is in omega arith
times-at (x ∷ xs) (suc k) b low is = let more = times-at xs k b (omega arith) is in let e = times-cons b x xs in omega arith

pub at-any : (xs : List ℕ) (k b : ℕ) → k < length xs → b ≡ get_or xs k b → get_or xs k 0 ≡ b
at-any [] k b low is = absurd (omega arith)
at-any (x ∷ xs) zero b low is = sym is
at-any (x ∷ xs) (suc k) b low is = at-any xs k b (omega arith) is
