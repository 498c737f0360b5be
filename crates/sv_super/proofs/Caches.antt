-- The cache of free inodes: how it is filled, and what is taken out and added.
use Rattle.std.proofs.Common.{◌≡◌, ◌≢◌, ◌≤◌, ◌<◌, ◌+◌, ◌-◌, ◌==◌, ◌⊎◌, ℕ, zero, suc, Bool, true, false, cond, min, List, [], ◌∷◌, ◌++◌, length, get_or, set, take, reverse, nat_lt, slice_get, Option, Some, None, IfSome, IfNone, inl, inr, arith, refl, sym, ap, ◌∙◌, subst}
use Rattle.std.specs.List.{refill}
use Rattle.std.proofs.lemmas.Bool.{eqb-true, false≢true}
use Rattle.std.proofs.lemmas.Bool.Decides.{nat_tests}
use Rattle.std.proofs.lemmas.List.{get_or-reverse, length-reverse, length-set, get_or_past}
use Rattle.std.proofs.lemmas.Option.{slice_get-get_or}
use Rattle.sv_store.proofs.Lines.{refill_whole}
use Rattle.sv_super.specs.Count.{one_if, times}
use Rattle.sv_super.specs.Inodes.{Inodes, IsCache, filled, free_count, is_free_inode, past, smallest, with_free, without_last}
use Rattle.sv_super.proofs.Counts.{apart, other, times-append, times-cons, times-first, times-nil, times-other, times-snoc, times-at}
use Rattle.sv_super.proofs.FreeNumbers.{count-freed, count-some, count-used, found-all, found-free, found-once, free-range, freed-at, set-away, times-reverse, used-at}

yes : (a b : ℕ) → nat_lt a b ≡ true → a < b
yes a b h = grind (nat_tests, arith)

no : (a b : ℕ) → nat_lt a b ≡ false → b ≤ a
no a b h = grind (nat_tests, arith)

pub empty : (xs : List ℕ) → (length xs == 0) ≡ true → xs ≡ []
empty [] e = refl
empty (x ∷ xs) e = absurd (let q = eqb-true (length (x ∷ xs)) 0 e in omega arith)

none-in : (n : ℕ) (xs : List ℕ) → xs ≡ [] → 0 < times n xs → ⊥
none-in n xs e some = let q = ap (times n) e in let z = times-nil n in omega arith

-- the numbers with which the cache is filled
abbrev pub more_of : Inodes → List ℕ
more_of i = reverse (smallest i.used 100 i.remembered)

more-free : (used : List Bool) (r n : ℕ) → 0 < times n (reverse (smallest used 100 r)) → (is_free_inode used n ≡ true) × (r ≤ n) × (n < r + (length used + 1 - r))
unfolding smallest
more-free used r n some = found-free (is_free_inode used) 100 r (length used + 1 - r) n (let e = times-reverse n (smallest used 100 r) in omega arith)

more-once : (used : List Bool) (r n : ℕ) → times n (reverse (smallest used 100 r)) ≤ 1
unfolding smallest
more-once used r n = let e = times-reverse n (smallest used 100 r) in let q = found-once (is_free_inode used) 100 r (length used + 1 - r) n in omega arith

-- a free number from the remembered one on is among them, or past all of them
more-all : (used : List Bool) (r n : ℕ) → is_free_inode used n ≡ true → r ≤ n → (0 < times n (reverse (smallest used 100 r))) ⊎ ((length (reverse (smallest used 100 r)) ≡ 100) × ((y : ℕ) → 0 < times y (reverse (smallest used 100 r)) → y < n))
unfolding smallest
more-all used r n is low = by (found-all (is_free_inode used) 100 r (length used + 1 - r) n is low (let e = free-range used n is in omega (arith, e.1, low)))
  where
    by : (0 < times n (smallest used 100 r)) ⊎ ((length (smallest used 100 r) ≡ 100) × ((y : ℕ) → 0 < times y (smallest used 100 r) → y < n)) → (0 < times n (reverse (smallest used 100 r))) ⊎ ((length (reverse (smallest used 100 r)) ≡ 100) × ((y : ℕ) → 0 < times y (reverse (smallest used 100 r)) → y < n))
    by (inl some) = inl (let e = times-reverse n (smallest used 100 r) in omega arith)
    by (inr full) = inr (length-reverse (smallest used 100 r) ∙ full.0, λ y some. full.1 y (let e = times-reverse y (smallest used 100 r) in omega arith))

past-none : (xs : List ℕ) (r : ℕ) → length xs ≡ 0 → past xs r ≡ r
unfolding past
past-none xs r e = ap (λ n. cond (n == 0) r (get_or xs 0 0 + 1)) e

past-some : (xs : List ℕ) (r : ℕ) → 0 < length xs → past xs r ≡ get_or xs 0 0 + 1
unfolding past
past-some xs r some = ap (λ t. cond t r (get_or xs 0 0 + 1)) (other (length xs) 0 (λ e. absurd (omega arith)))

first-in : (xs : List ℕ) → 0 < length xs → 0 < times (get_or xs 0 0) xs
first-in [] some = absurd (omega arith)
first-in (x ∷ xs) some = let e = times-first x xs in omega arith

pub filled-cache : (i : Inodes) → (length i.cached == 0) ≡ true → filled i ≡ record i { cached = more_of i; remembered = past (more_of i) i.remembered }
unfolding filled
filled-cache i e = ap (λ t. cond t (record i { cached = more_of i; remembered = past (more_of i) i.remembered }) i) e

pub filled-same : (i : Inodes) → (length i.cached == 0) ≡ false → filled i ≡ i
unfolding filled
filled-same i e = ap (λ t. cond t (record i { cached = more_of i; remembered = past (more_of i) i.remembered }) i) e

pub filled-used : (i : Inodes) → (filled i).used ≡ i.used
filled-used i = by (length i.cached == 0) refl
  where
    by : (t : Bool) → (length i.cached == 0) ≡ t → (filled i).used ≡ i.used
    by true e = ap (λ q. q.used) (filled-cache i e)
    by false e = ap (λ q. q.used) (filled-same i e)

pub more-cache : {i : Inodes} {left : ℕ} → IsCache i left → i.cached ≡ [] → IsCache (record i { cached = more_of i; remembered = past (more_of i) i.remembered }) left
more-cache {i} {left} is none = record {
  few = is.few;
  least = by_length (nat_lt 0 (length (more_of i))) refl;
  free = λ n some. (more-free i.used i.remembered n some).0;
  once = more-once i.used i.remembered;
  below = λ n free low. by_place n free low (nat_lt n i.remembered) refl;
  left = is.left;
}
  where
    by_length : (t : Bool) → nat_lt 0 (length (more_of i)) ≡ t → 2 ≤ past (more_of i) i.remembered
    by_length false e = let q = past-none (more_of i) i.remembered (let z = no 0 (length (more_of i)) e in omega arith) in let l = is.least in omega arith
    by_length true e =
        let some = yes 0 (length (more_of i)) e in
        let q = past-some (more_of i) i.remembered some in
        let f = more-free i.used i.remembered (get_or (more_of i) 0 0) (first-in (more_of i) some) in
        let l = is.least in
        omega (arith, f.1, q, l)

    by_place : (n : ℕ) → is_free_inode i.used n ≡ true → n < past (more_of i) i.remembered → (t : Bool) → nat_lt n i.remembered ≡ t → 0 < times n (more_of i)
    by_place n free low true e = absurd (none-in n i.cached none (is.below n free (yes n i.remembered e)))
    by_place n free low false e = at (more-all i.used i.remembered n free (no n i.remembered e))
      where
        at : (0 < times n (more_of i)) ⊎ ((length (more_of i) ≡ 100) × ((y : ℕ) → 0 < times y (more_of i) → y < n)) → 0 < times n (more_of i)
        at (inl some) = some
        at (inr full) =
            let some : 0 < length (more_of i) = (let q = full.0 in omega arith) in
            let q = past-some (more_of i) i.remembered some in
            let f = full.1 (get_or (more_of i) 0 0) (first-in (more_of i) some) in
            absurd (omega (arith, low, q, f))

-- filling keeps the cache
pub kept-filled : {i : Inodes} {left : ℕ} → IsCache i left → IsCache (filled i) left
kept-filled {i} {left} is = by (length i.cached == 0) refl
  where
    by : (t : Bool) → (length i.cached == 0) ≡ t → IsCache (filled i) left
    by true e = subst (λ q. IsCache q left) (sym (filled-cache i e)) (more-cache is (empty i.cached e))
    by false e = subst (λ q. IsCache q left) (sym (filled-same i e)) is

-- a cache that is empty after it was filled: no inode is free
pub filled-none : (i : Inodes) {left : ℕ} → IsCache (filled i) left → length (filled i).cached ≡ 0 → (n : ℕ) → is_free_inode i.used n ≡ false
filled-none i {left} is none n = by (is_free_inode i.used n) refl
  where
    at : (t : Bool) → (length i.cached == 0) ≡ t → is_free_inode i.used n ≡ true → ⊥
    at false e free = let q = ap (λ j. length j.cached) (filled-same i e) in let z = apart (length i.cached) 0 e in z (omega arith)
    at true e free = place (nat_lt n i.remembered) refl
      where
        long : length (more_of i) ≡ 0
        long = sym (ap (λ j. length j.cached) (filled-cache i e)) ∙ none

        place : (s : Bool) → nat_lt n i.remembered ≡ s → ⊥
        place true s =
            none-in n (filled i).cached (empty (filled i).cached (ap (λ q. q == 0) none))
            (is.below n (ap (λ q. is_free_inode q n) (filled-used i) ∙ free)
            (let low = yes n i.remembered s in
            let q = ap (λ j. j.remembered) (filled-cache i e) in
            let p = past-none (more_of i) i.remembered long in
            omega (arith, low, q, p)))
        place false s = among (more-all i.used i.remembered n free (no n i.remembered s))
          where
            among : (0 < times n (more_of i)) ⊎ ((length (more_of i) ≡ 100) × ((y : ℕ) → 0 < times y (more_of i) → y < n)) → ⊥
            among (inl some) = none-in n (more_of i) (empty (more_of i) (ap (λ q. q == 0) long)) some
            among (inr full) = absurd (omega (arith, full.0, long))

    by : (t : Bool) → is_free_inode i.used n ≡ t → is_free_inode i.used n ≡ false
    by false e = e
    by true e = absurd (at (length i.cached == 0) refl e)

-- the last of the cache
abbrev pub last_of : Inodes → ℕ
last_of i = get_or i.cached (length i.cached - 1) 0

pub last-free : {i : Inodes} {left : ℕ} → IsCache i left → 1 ≤ length i.cached → is_free_inode i.used (last_of i) ≡ true
last-free {i} {left} is some = is.free (last_of i) (let e = times-at i.cached (length i.cached - 1) (last_of i) (omega arith) refl in omega arith)

-- what is left of the cache, and the last of it
front-last : (xs : List ℕ) → 1 ≤ length xs → xs ≡ take (length xs - 1) xs ++ get_or xs (length xs - 1) 0 ∷ []
front-last [] some = absurd (omega arith)
front-last (x ∷ []) some = refl
front-last (x ∷ y ∷ ys) some =
    let e : length (x ∷ y ∷ ys) - 1 ≡ suc (length (y ∷ ys) - 1) = omega arith in
    subst (λ n. x ∷ y ∷ ys ≡ take n (x ∷ y ∷ ys) ++ get_or (x ∷ y ∷ ys) n 0 ∷ []) (sym e) (ap (λ q. x ∷ q) (front-last (y ∷ ys) (omega arith)))

pub kept-taken : {i : Inodes} {left left' : ℕ} → IsCache i left → 1 ≤ length i.cached → left' + 1 ≡ left → IsCache (without_last i) left'
unfolding without_last
kept-taken {i} {left} {left'} is some fewer = record {
  few = (let e = length-set i.used (last_of i - 1) true in let f = is.few in omega (arith, e, f));
  least = is.least;
  free = λ n in_front.
      set-away i.used (last_of i) n true range.0 (λ same. absurd (let q = split n in let r = ap (λ m. one_if (m == n)) (sym same) in let s = ap one_if (same_self n) in let o = is.once n in omega (arith, in_front, q, r, s, o))) ∙ is.free n (let q = split n in omega (arith, in_front, q));
  once = λ n. (let q = split n in let o = is.once n in omega (arith, q, o));
  below = λ n free low. by n free low (last_of i == n) refl;
  left = (let e = count-used i.used (last_of i) free in let f = is.left in omega (arith, e, f, fewer));
}
  where
    free : is_free_inode i.used (last_of i) ≡ true
    free = last-free is some

    range : (1 < last_of i) × (last_of i ≤ length i.used)
    range = free-range i.used (last_of i) free

    same_self : (n : ℕ) → (n == n) ≡ true
    same_self n = grind (nat_tests, arith)

    split : (n : ℕ) → times n i.cached ≡ times n (take (length i.cached - 1) i.cached) + one_if (last_of i == n)
    split n = ap (times n) (front-last i.cached some) ∙ times-snoc n (last_of i) (take (length i.cached - 1) i.cached)

    by : (n : ℕ) → is_free_inode (set i.used (last_of i - 1) true) n ≡ true → n < i.remembered → (t : Bool) → (last_of i == n) ≡ t → 0 < times n (take (length i.cached - 1) i.cached)
    by n free low true e = absurd (false≢true (sym (ap (is_free_inode (set i.used (last_of i - 1) true)) (sym (eqb-true (last_of i) n e)) ∙ used-at i.used (last_of i) range.0 range.1) ∙ free))
    by n free low false e =
        let was = is.below n (sym (set-away i.used (last_of i) n true range.0 (λ same. apart (last_of i) n e (sym same))) ∙ free) low in
        let q = split n in
        let r = ap one_if e in
        omega (arith, was, q, r)

pub kept-given : {i : Inodes} {left left' n : ℕ} → IsCache i left → 2 ≤ n → n ≤ length i.used → is_free_inode i.used n ≡ false → left' ≡ left + 1 → IsCache (with_free n i) left'
unfolding with_free
kept-given {i} {left} {left'} {n} is least most used more = by (nat_lt (length i.cached) 100)
  where
    few : length (set i.used (n - 1) false) ≤ 65520
    few = (let e = length-set i.used (n - 1) false in let f = is.few in omega (arith, e, f))

    away : times n i.cached ≡ 0
    away = at (nat_lt 0 (times n i.cached)) refl
      where
        at : (t : Bool) → nat_lt 0 (times n i.cached) ≡ t → times n i.cached ≡ 0
        at false e = let q = no 0 (times n i.cached) e in omega arith
        at true e = absurd (false≢true (sym used ∙ is.free n (yes 0 (times n i.cached) e)))

    now : is_free_inode (set i.used (n - 1) false) n ≡ true
    now = freed-at i.used n (omega arith) most

    -- a number that was free is free
    still : (k : ℕ) → is_free_inode i.used k ≡ true → is_free_inode (set i.used (n - 1) false) k ≡ true
    still k free = set-away i.used n k false (omega arith) (λ same. absurd (false≢true (sym used ∙ (ap (is_free_inode i.used) (sym same) ∙ free)))) ∙ free

    left_now : left' ≡ free_count (set i.used (n - 1) false)
    left_now = let e = count-freed i.used n (omega arith) most used in let f = is.left in omega (arith, e, f, more)

    -- a number that is free was free, or is this one
    before : (k : ℕ) → is_free_inode (set i.used (n - 1) false) k ≡ true → (t : Bool) → (k == n) ≡ t → (k ≡ n) ⊎ (is_free_inode i.used k ≡ true)
    before k free true e = inl (eqb-true k n e)
    before k free false e = inr (sym (set-away i.used n k false (omega arith) (apart k n e)) ∙ free)

    room : IsCache (record i { used = set i.used (n - 1) false; cached = i.cached ++ n ∷ [] }) left'
    room = record {
      few = few;
      least = is.least;
      free = λ k some. at k some (n == k) refl;
      once = λ k. (let q = times-snoc k n i.cached in once k q (n == k) refl);
      below = λ k free low. (let q = times-snoc k n i.cached in below k q low (before k free (k == n) refl));
      left = left_now;
    }
      where
        at : (k : ℕ) → 0 < times k (i.cached ++ n ∷ []) → (t : Bool) → (n == k) ≡ t → is_free_inode (set i.used (n - 1) false) k ≡ true
        at k some true e = ap (is_free_inode (set i.used (n - 1) false)) (sym (eqb-true n k e)) ∙ now
        at k some false e = still k (is.free k (let q = times-snoc k n i.cached in let r = ap one_if e in omega (arith, some, q, r)))

        once : (k : ℕ) → times k (i.cached ++ n ∷ []) ≡ times k i.cached + one_if (n == k) → (t : Bool) → (n == k) ≡ t → times k (i.cached ++ n ∷ []) ≤ 1
        once k q true e =
            let r = ap one_if e in
            let z = ap (λ m. times m i.cached) (sym (eqb-true n k e)) in
            omega (arith, q, r, z, away)
        once k q false e = let r = ap one_if e in let o = is.once k in omega (arith, q, r, o)

        below : (k : ℕ) → times k (i.cached ++ n ∷ []) ≡ times k i.cached + one_if (n == k) → k < i.remembered → (k ≡ n) ⊎ (is_free_inode i.used k ≡ true) → 0 < times k (i.cached ++ n ∷ [])
        below k q low (inl same) = let r = ap one_if (ap (λ m. n == m) same ∙ self n) in omega (arith, q, r)
          where
            self : (m : ℕ) → (m == m) ≡ true
            self m = grind (nat_tests, arith)
        below k q low (inr free) = let r = is.below k free low in omega (arith, q, r)

    full : IsCache (record i { used = set i.used (n - 1) false; remembered = min i.remembered n }) left'
    full = record {
      few = few;
      least = (let l = is.least in omega (arith, l, least));
      free = λ k some. still k (is.free k some);
      once = is.once;
      below = λ k free low. (below k low (before k free (k == n) refl));
      left = left_now;
    }
      where
        below : (k : ℕ) → k < min i.remembered n → (k ≡ n) ⊎ (is_free_inode i.used k ≡ true) → 0 < times k i.cached
        below k low (inl same) = absurd (omega (arith, low, same))
        below k low (inr free) = is.below k free (omega (arith, low))

    by : (t : Bool) → IsCache (cond t (record i { used = set i.used (n - 1) false; cached = i.cached ++ n ∷ [] }) (record i { used = set i.used (n - 1) false; remembered = min i.remembered n })) left'
    by true = room
    by false = full

-- ---- the first number

pub past-first : (xs : List ℕ) (r x : ℕ) → Some x ≡ slice_get xs 0 → x + 1 ≡ past xs r
past-first [] r x e = let no : ⊥ = cc e in absurd no
past-first (y ∷ ys) r x e = ap (λ q. q + 1) (let q : x ≡ y = cc e in q) ∙ sym (past-some (y ∷ ys) r (omega arith))

pub past-empty : (xs : List ℕ) (r : ℕ) → None ≡ slice_get xs 0 → r ≡ past xs r
past-empty [] r e = sym (past-none [] r refl)
past-empty (y ∷ ys) r e = let no : ⊥ = cc e in absurd no

pub get-some : (xs : List ℕ) (k x : ℕ) → Some x ≡ slice_get xs k → x ≡ get_or xs k 0
get-some [] k x e = let no : ⊥ = cc e in absurd no
get-some (y ∷ ys) zero x e = let q : x ≡ y = cc e in q
get-some (y ∷ ys) (suc k) x e = get-some ys k x e

pub get-none : (xs : List ℕ) → None ≡ slice_get xs (length xs - 1) → length xs ≡ 0
get-none [] e = refl
get-none (y ∷ ys) e = absurd (at (y ∷ ys) (length (y ∷ ys) - 1) (omega arith) e)
  where
    at : (zs : List ℕ) (k : ℕ) → k < length zs → None ≡ slice_get zs k → ⊥
    at [] k low e = absurd (omega arith)
    at (z ∷ zs) zero low e = cc e
    at (z ∷ zs) (suc k) low e = at zs k (omega arith) e

-- ---- what the calls leave

with_free-full : (n : ℕ) (i : Inodes) → nat_lt (length i.cached) 100 ≡ false → with_free n i ≡ record i { used = set i.used (n - 1) false; remembered = min i.remembered n }
unfolding with_free
with_free-full n i e = ap (λ t. cond t (record i { used = set i.used (n - 1) false; cached = i.cached ++ n ∷ [] }) (record i { used = set i.used (n - 1) false; remembered = min i.remembered n })) e

with_free-room : (n : ℕ) (i : Inodes) → nat_lt (length i.cached) 100 ≡ true → with_free n i ≡ record i { used = set i.used (n - 1) false; cached = i.cached ++ n ∷ [] }
unfolding with_free
with_free-room n i e = ap (λ t. cond t (record i { used = set i.used (n - 1) false; cached = i.cached ++ n ∷ [] }) (record i { used = set i.used (n - 1) false; remembered = min i.remembered n })) e

-- what holds of a new cache that is a word of the old one
pub record Becomes (new word : Inodes) (count : ℕ) : Type 0 where
  pub is : new ≡ word
  pub kept : IsCache new count

pub give-full : {i now : Inodes} {count : ℕ} (n m r : ℕ) → i ≡ now → IsCache i count → 2 ≤ n → n ≤ length now.used → is_free_inode now.used n ≡ false → m ≡ n → r ≡ min i.remembered n → length i.cached ≡ 100 → Becomes (record { used = set i.used (m - 1) false; cached = i.cached; remembered = r }) (with_free n now) (count + 1)
give-full {i} {now} {count} n m r same is least most used e f full = record { is = word; kept = subst (λ q. IsCache q (count + 1)) (sym word) (subst (λ q. IsCache (with_free n q) (count + 1)) same (kept-given is least (subst (λ q. n ≤ length q.used) (sym same) most) (subst (λ q. is_free_inode q.used n ≡ false) (sym same) used) refl)) }
  where
    over : (a : ℕ) → a ≡ 100 → nat_lt a 100 ≡ false
    over a h = grind (nat_tests, arith)

    word : record { used = set i.used (m - 1) false; cached = i.cached; remembered = r } ≡ with_free n now
    word =
        ap (λ (q : ℕ). record { used = set i.used (q - 1) false; cached = i.cached; remembered = r }) e
        ∙ (ap (λ (q : ℕ). record { used = set i.used (n - 1) false; cached = i.cached; remembered = q }) f
        ∙ (sym (with_free-full n i (over (length i.cached) full)) ∙ ap (with_free n) same))

pub give-room : {i now : Inodes} {count : ℕ} (n m : ℕ) (cached : List ℕ) → i ≡ now → IsCache i count → 2 ≤ n → n ≤ length now.used → is_free_inode now.used n ≡ false → m ≡ n → cached ≡ i.cached ++ n ∷ [] → length i.cached < 100 → Becomes (record { used = set i.used (m - 1) false; cached = cached; remembered = i.remembered }) (with_free n now) (count + 1)
give-room {i} {now} {count} n m cached same is least most used e f room = record { is = word; kept = subst (λ q. IsCache q (count + 1)) (sym word) (subst (λ q. IsCache (with_free n q) (count + 1)) same (kept-given is least (subst (λ q. n ≤ length q.used) (sym same) most) (subst (λ q. is_free_inode q.used n ≡ false) (sym same) used) refl)) }
  where
    under : (a : ℕ) → a < 100 → nat_lt a 100 ≡ true
    under a h = grind (nat_tests, arith)

    word : record { used = set i.used (m - 1) false; cached = cached; remembered = i.remembered } ≡ with_free n now
    word =
        ap (λ (q : ℕ). record { used = set i.used (q - 1) false; cached = cached; remembered = i.remembered }) e
        ∙ (ap (λ (q : List ℕ). record { used = set i.used (n - 1) false; cached = q; remembered = i.remembered }) f
        ∙ (sym (with_free-room n i (under (length i.cached) room)) ∙ ap (with_free n) same))

-- the last of the cache can be taken
pub record CanTake (i : Inodes) (count m : ℕ) : Type 0 where
  pub least : 1 ≤ m
  pub place : m - 1 < length i.used
  pub some : 1 ≤ count

pub can-take : {i now : Inodes} {count : ℕ} (m : ℕ) → i ≡ now → IsCache i count → 1 ≤ length now.cached → m ≡ last_of i → CanTake i count m
can-take {i} {now} {count} m same is some e =
    let free = last-free is (subst (λ q. 1 ≤ length q.cached) (sym same) some) in
    let range = free-range i.used (last_of i) free in
    record {
      least = omega (arith, range.0, e);
      place = omega (arith, range.0, range.1, e);
      some = (let c = count-some i.used (last_of i) free in let l = is.left in omega (arith, c, l));
    }

pub take-last : {i now : Inodes} {count count' : ℕ} (m : ℕ) (cached : List ℕ) → i ≡ now → IsCache i count → 1 ≤ length now.cached → m ≡ last_of i → cached ≡ take (length i.cached - 1) i.cached → count' + 1 ≡ count → Becomes (record { used = set i.used (m - 1) true; cached = cached; remembered = i.remembered }) (without_last now) count'
unfolding without_last
take-last {i} {now} {count} {count'} m cached same is some e f fewer = record { is = word; kept = subst (λ q. IsCache q count') (sym word) (subst (λ q. IsCache (without_last q) count') same (kept-taken is (subst (λ q. 1 ≤ length q.cached) (sym same) some) fewer)) }
  where
    word : record { used = set i.used (m - 1) true; cached = cached; remembered = i.remembered } ≡ without_last now
    word =
        ap (λ (q : ℕ). record { used = set i.used (q - 1) true; cached = cached; remembered = i.remembered }) e
        ∙ (ap (λ (q : List ℕ). record { used = set i.used (last_of i - 1) true; cached = q; remembered = i.remembered }) f ∙ ap without_last same)

pub fill-more : {i now : Inodes} {count : ℕ} (more : List ℕ) (r : ℕ) → i ≡ now → IsCache i count → length i.cached ≡ 0 → more ≡ more_of i → r ≡ past more i.remembered → Becomes (record { used = i.used; cached = more; remembered = r }) (filled now) count
fill-more {i} {now} {count} more r same is none e f = record { is = word; kept = subst (λ q. IsCache q count) (sym word) (subst (λ q. IsCache (filled q) count) same (kept-filled is)) }
  where
    word : record { used = i.used; cached = more; remembered = r } ≡ filled now
    word =
        ap (λ (q : ℕ). record { used = i.used; cached = more; remembered = q }) f
        ∙ (ap (λ (q : List ℕ). record { used = i.used; cached = q; remembered = past q i.remembered }) e
        ∙ (sym (filled-cache i (ap (λ q. q == 0) none)) ∙ ap filled same))

pub fill-same : {i now : Inodes} → i ≡ now → 0 < length i.cached → i ≡ filled now
fill-same {i} {now} same some = sym (filled-same i (other (length i.cached) 0 (λ e. absurd (omega arith)))) ∙ ap filled same

pub first-cache : (used : List Bool) (cached : List ℕ) {count : ℕ} → length used ≤ 65520 → ((n : ℕ) → 0 < times n cached → is_free_inode used n ≡ true) → ((n : ℕ) → times n cached ≤ 1) → count ≡ free_count used → IsCache (record { used = used; cached = cached; remembered = 2 }) count
first-cache used cached {count} few free once left = record {
  few = few;
  least = omega arith;
  free = free;
  once = once;
  below = λ n is low. absurd (let range = free-range used n is in omega (arith, range.0, low));
  left = left;
}

-- each number with which the cache is filled is an inode's
pub more-most : {i : Inodes} {count : ℕ} (xs : List ℕ) → IsCache i count → xs ≡ more_of i → (k : ℕ) → get_or xs k 0 ≤ 65520
more-most {i} {count} xs is e k = by (nat_lt k (length xs)) refl
  where
    by : (t : Bool) → nat_lt k (length xs) ≡ t → get_or xs k 0 ≤ 65520
    by false t = let q = get_or_past xs k 0 (no k (length xs) t) in omega arith
    by true t =
        let some = times-at xs k (get_or xs k 0) (yes k (length xs) t) refl in
        let among = ap (times (get_or xs k 0)) e in
        let free = more-free i.used i.remembered (get_or xs k 0) (omega arith) in
        let range = free-range i.used (get_or xs k 0) free.0 in
        let few = is.few in
        omega (arith, range.1, few)

pub empty-not : (xs : List ℕ) {t : Bool} → t ≡ (length xs == 0) → t ≡ false → 0 < length xs
empty-not xs {t} is e = let ne = apart (length xs) 0 (sym is ∙ e) in omega (arith, ne)

pub empty-is : (xs : List ℕ) {t : Bool} → t ≡ (length xs == 0) → t ≡ true → length xs ≡ 0
empty-is xs {t} is e = eqb-true (length xs) 0 (sym is ∙ e)

-- what was found and turned
pub turned : {used now : List Bool} (r : ℕ) {xs old new ys : List ℕ} → xs ≡ smallest now 100 r → now ≡ used → old ≡ xs → new ≡ reverse old → ys ≡ refill (length xs) xs new → ys ≡ reverse (smallest used 100 r)
turned {used} {now} r {xs} {old} {new} {ys} found same lent turn back =
    back
    ∙ (refill_whole xs new (ap length turn ∙ (length-reverse old ∙ ap length lent))
    ∙ (turn ∙ ap reverse (lent ∙ (found ∙ ap (λ q. smallest q 100 r) same))))

-- ---- the next that is handed out

-- the number at the end of the cache once it was filled
abbrev pub next_of : Inodes → Option ℕ
next_of i = slice_get (filled i).cached (length (filled i).cached - 1)

some-long : (xs : List ℕ) (n : ℕ) → Some n ≡ slice_get xs (length xs - 1) → 1 ≤ length xs
some-long [] n e = let no : ⊥ = cc e in absurd no
some-long (x ∷ xs) n e = omega arith

-- what is promised of the next number
pub record IsNext (i : Inodes) (r : Option ℕ) : Type 0 where
  pub some : IfSome r (λ n. n ≡ get_or (filled i).cached (length (filled i).cached - 1) 0)
  pub cached : IfSome r (λ _. 1 ≤ length (filled i).cached)
  pub free : IfSome r (λ n. is_free_inode i.used n ≡ true)
  pub none : IfNone r ((n : ℕ) → is_free_inode i.used n ≡ false)

next-at : {i : Inodes} {count : ℕ} (r : Option ℕ) → IsCache i count → r ≡ next_of i → IsNext i r
next-at {i} None is e = record { some = tt; cached = tt; free = tt; none = filled-none i (kept-filled is) (get-none (filled i).cached e) }
next-at {i} (Some n) is e = record {
  some = get-some (filled i).cached (length (filled i).cached - 1) n e;
  cached = some-long (filled i).cached n e;
  free = ap (λ u. is_free_inode u n) (sym (filled-used i)) ∙ (ap (is_free_inode (filled i).used) (get-some (filled i).cached (length (filled i).cached - 1) n e) ∙ last-free (kept-filled is) (some-long (filled i).cached n e));
  none = tt;
}

-- no inode is left
pub next-none : {i now : Inodes} {count : ℕ} → i ≡ now → IsCache i count → count ≡ 0 → IsNext now None
next-none {i} {now} {count} same is none = subst (λ j. IsNext j None) same (record { some = tt; cached = tt; free = tt; none = λ n. free n (is_free_inode i.used n) refl })
  where
    free : (n : ℕ) (t : Bool) → is_free_inode i.used n ≡ t → is_free_inode i.used n ≡ false
    free n false e = e
    free n true e = let some = count-some i.used n e in let left = is.left in absurd (omega arith)

-- the last of a cache that is not empty
pub next-last : {i now : Inodes} {count : ℕ} (r : Option ℕ) (xs : List ℕ) → i ≡ now → IsCache i count → 0 < length i.cached → xs ≡ i.cached → r ≡ slice_get xs (length xs - 1) → IsNext now r
next-last {i} {now} {count} r xs same is some e last =
    subst (λ j. IsNext j r) same
    (next-at r is (last ∙ (ap (λ q. slice_get q (length q - 1)) e ∙ ap (λ (j : Inodes). slice_get j.cached (length j.cached - 1)) (sym (filled-same i (other (length i.cached) 0 (λ z. absurd (omega arith))))))))

reverse-last : (xs : List ℕ) → slice_get xs 0 ≡ slice_get (reverse xs) (length (reverse xs) - 1)
reverse-last [] = refl
reverse-last (x ∷ xs) =
    let long : length (reverse (x ∷ xs)) ≡ length xs + 1 = length-reverse (x ∷ xs) ∙ (let e : suc (length xs) ≡ length xs + 1 = omega arith in e) in
    let front : length (x ∷ xs) - 1 - (length (reverse (x ∷ xs)) - 1) ≡ 0 = omega (arith, long) in
    sym (slice_get-get_or (reverse (x ∷ xs)) (length (reverse (x ∷ xs)) - 1) x (omega (arith, long))
    ∙ ap Some (get_or-reverse (x ∷ xs) (length (reverse (x ∷ xs)) - 1) x (omega (arith, long)) ∙ ap (λ k. get_or (x ∷ xs) k x) front))

-- the first of the numbers with which an empty cache is filled
pub next-more : {i now : Inodes} {count : ℕ} (r : Option ℕ) → i ≡ now → IsCache i count → length i.cached ≡ 0 → r ≡ slice_get (smallest i.used 100 i.remembered) 0 → IsNext now r
next-more {i} {now} {count} r same is none e =
    subst (λ j. IsNext j r) same
    (next-at r is (e ∙ (reverse-last (smallest i.used 100 i.remembered) ∙ ap (λ (j : Inodes). slice_get j.cached (length j.cached - 1)) (sym (filled-cache i (ap (λ q. q == 0) none))))))

pub first-cache-of : {used used' : List Bool} {cached cached' : List ℕ} {count : ℕ} → used' ≡ used → cached' ≡ cached → length used ≤ 65520 → ((n : ℕ) → 0 < times n cached → is_free_inode used n ≡ true) → ((n : ℕ) → times n cached ≤ 1) → count ≡ free_count used → IsCache (record { used = used'; cached = cached'; remembered = 2 }) count
first-cache-of {used} {used'} {cached} {cached'} {count} e f few free once left =
    subst (λ q. IsCache (record { used = q; cached = cached'; remembered = 2 }) count) (sym e)
    (subst (λ q. IsCache (record { used = used; cached = q; remembered = 2 }) count) (sym f) (first-cache used cached few free once left))

-- ---- the map

pub with_free-used : (n : ℕ) (i : Inodes) → (with_free n i).used ≡ set i.used (n - 1) false
with_free-used n i = by (nat_lt (length i.cached) 100) refl
  where
    by : (t : Bool) → nat_lt (length i.cached) 100 ≡ t → (with_free n i).used ≡ set i.used (n - 1) false
    by true e = ap (λ q. q.used) (with_free-room n i e)
    by false e = ap (λ q. q.used) (with_free-full n i e)

-- the inode that is handed out is in use
pub taken-used : {i now : Inodes} (old : Inodes) (n : ℕ) → now ≡ without_last i → i ≡ filled old → n ≡ last_of i → now.used ≡ set old.used (n - 1) true
unfolding without_last
taken-used {i} {now} old n took same is =
    ap (λ q. q.used) took
    ∙ (ap (λ u. set u (last_of i - 1) true) (ap (λ q. q.used) same ∙ filled-used old) ∙ ap (λ m. set old.used (m - 1) true) (sym is))
