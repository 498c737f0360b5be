-- Which inodes are free, how many, and the smallest of them.
use Rattle.std.proofs.Common.{◌≡◌, ◌≢◌, ◌≤◌, ◌<◌, ◌+◌, ◌-◌, ◌==◌, ◌&&◌, ◌⊎◌, ℕ, zero, suc, Bool, true, false, cond, not, List, [], ◌∷◌, ◌++◌, length, get_or, set, replicate, take, reverse, filter, nat_lt, inl, inr, arith, refl, sym, ap, ◌∙◌, subst, length-append}
use Rattle.std.specs.List.{range_with_len}
use Rattle.std.proofs.lemmas.Bool.{eqb-true, false≢true}
use Rattle.std.proofs.lemmas.Bool.Decides.{nat_tests}
use Rattle.std.proofs.lemmas.List.{get_or-set_other, get_or-set_same, get_or_past, length-set, places, reverse-append, append-nil, append_assoc}
use Rattle.sv_super.specs.Count.{one_if, sum_below, times}
use Rattle.sv_super.specs.Inodes.{free_count, is_free_inode, smallest}
use Rattle.sv_super.proofs.Counts.{apart, other, times-append, times-cons, times-first, times-nil, times-other, one-le, sum-le}

yes : (a b : ℕ) → nat_lt a b ≡ true → a < b
yes a b h = grind (nat_tests, arith)

no : (a b : ℕ) → nat_lt a b ≡ false → b ≤ a
no a b h = grind (nat_tests, arith)

lt : (a b : ℕ) → a < b → nat_lt a b ≡ true
lt a b h = grind (nat_tests, arith)

-- a free inode is one of the numbers from 2 on
pub free-range : (used : List Bool) (n : ℕ) → is_free_inode used n ≡ true → (1 < n) × (n ≤ length used)
unfolding is_free_inode
free-range used n is = (yes 1 n (first (nat_lt 1 n) is), by (nat_lt (length used) n) refl)
  where
    first : (t : Bool) → (t && not (get_or used (n - 1) true)) ≡ true → t ≡ true
    first true e = refl
    first false e = absurd (false≢true e)

    second : (t : Bool) → (nat_lt 1 n && not t) ≡ true → t ≡ false
    second false e = refl
    second true e = absurd (false≢true (sym (none (nat_lt 1 n)) ∙ e))
      where
        none : (t : Bool) → (t && false) ≡ false
        none true = refl
        none false = refl

    by : (t : Bool) → nat_lt (length used) n ≡ t → n ≤ length used
    by false e = no (length used) n e
    by true e =
        let over = yes (length used) n e in
        absurd (false≢true (sym (second (get_or used (n - 1) true) is) ∙ get_or_past used (n - 1) true (omega arith)))

pub used-at : (used : List Bool) (n : ℕ) → 1 < n → n ≤ length used → is_free_inode (set used (n - 1) true) n ≡ false
unfolding is_free_inode
used-at used n low most =
    ap (λ t. nat_lt 1 n && not t) (get_or-set_same used (n - 1) true true (omega arith)) ∙ none (nat_lt 1 n)
  where
    none : (t : Bool) → (t && false) ≡ false
    none true = refl
    none false = refl

pub freed-at : (used : List Bool) (n : ℕ) → 1 < n → n ≤ length used → is_free_inode (set used (n - 1) false) n ≡ true
unfolding is_free_inode
freed-at used n low most =
    ap (λ t. nat_lt 1 n && not t) (get_or-set_same used (n - 1) false true (omega arith)) ∙ ap (λ t. t && true) (lt 1 n low)

pub set-away : (used : List Bool) (n k : ℕ) (x : Bool) → 1 < n → k ≢ n → is_free_inode (set used (n - 1) x) k ≡ is_free_inode used k
unfolding is_free_inode
set-away used n k x low ne = by (nat_lt 1 k) refl
  where
    by : (t : Bool) → nat_lt 1 k ≡ t → (nat_lt 1 k && not (get_or (set used (n - 1) x) (k - 1) true)) ≡ (nat_lt 1 k && not (get_or used (k - 1) true))
    by false e = ap (λ t. t && not (get_or (set used (n - 1) x) (k - 1) true)) e ∙ sym (ap (λ t. t && not (get_or used (k - 1) true)) e)
    by true e =
        let high = yes 1 k e in
        let away : k - 1 ≢ n - 1 = (λ same. ne (omega arith)) in
        ap (λ t. nat_lt 1 k && not t) (get_or-set_other used (n - 1) (k - 1) x true away)

pub few-used : (used : List Bool) (n : ℕ) → n < 2 → is_free_inode used n ≡ false
unfolding is_free_inode
few-used used n low = ap (λ t. t && not (get_or used (n - 1) true)) (none 1 n (omega arith))
  where
    none : (a b : ℕ) → b ≤ a → nat_lt a b ≡ false
    none a b h = grind (nat_tests, arith)

pub free-at : (used : List Bool) (n : ℕ) → 2 ≤ n → n ≤ length used → is_free_inode used n ≡ not (get_or used (n - 1) false)
unfolding is_free_inode
free-at used n low most =
    ap (λ t. t && not (get_or used (n - 1) true)) (lt 1 n (omega arith)) ∙ ap not (any used (n - 1) (omega arith))
  where
    any : (xs : List Bool) (k : ℕ) → k < length xs → get_or xs k true ≡ get_or xs k false
    any xs k h = grind (arith, places)

-- ---- how many

sum-below-same : (k n : ℕ) (f g : ℕ → ℕ) → k ≤ n → ((b : ℕ) → b ≢ n → f b ≡ g b) → sum_below k f ≡ sum_below k g
unfolding sum_below
sum-below-same zero n f g le same = refl
sum-below-same (suc k) n f g le same =
    let more = sum-below-same k n f g (omega arith) same in
    let here = same k (λ e. absurd (omega arith)) in
    omega arith

pub sum-change : (size n : ℕ) (f g : ℕ → ℕ) → n < size → ((b : ℕ) → b ≢ n → f b ≡ g b) → sum_below size f + g n ≡ sum_below size g + f n
unfolding sum_below
sum-change zero n f g low same = absurd (omega arith)
sum-change (suc size) n f g low same = by (size == n) refl (sum-change size n f g)
  where
    by : (t : Bool) → (size == n) ≡ t → (n < size → ((b : ℕ) → b ≢ n → f b ≡ g b) → sum_below size f + g n ≡ sum_below size g + f n) → sum_below size f + f size + g n ≡ sum_below size g + g size + f n
    by true e more =
        let at = eqb-true size n e in
        let before = sum-below-same size n f g (omega arith) same in
        let one = ap f at in
        let two = ap g at in
        omega arith
    by false e more =
        let ne = apart size n e in
        let rest = more (omega arith) same in
        let here = same size ne in
        omega arith

pub count-used : (used : List Bool) (n : ℕ) → is_free_inode used n ≡ true → free_count (set used (n - 1) true) + 1 ≡ free_count used
unfolding free_count
count-used used n is =
    let range = free-range used n is in
    let change = sum-change (length used + 1) n (λ k. one_if (is_free_inode (set used (n - 1) true) k)) (λ k. one_if (is_free_inode used k)) (omega (arith, range.1)) (λ k ne. ap one_if (set-away used n k true range.0 ne)) in
    let now = ap one_if (used-at used n range.0 range.1) in
    let before = ap one_if is in
    let long = ap (λ q. sum_below (q + 1) (λ k. one_if (is_free_inode (set used (n - 1) true) k))) (length-set used (n - 1) true) in
    omega (arith, change, now, before, long)

pub count-freed : (used : List Bool) (n : ℕ) → 1 < n → n ≤ length used → is_free_inode used n ≡ false → free_count (set used (n - 1) false) ≡ free_count used + 1
unfolding free_count
count-freed used n low most is =
    let change = sum-change (length used + 1) n (λ k. one_if (is_free_inode (set used (n - 1) false) k)) (λ k. one_if (is_free_inode used k)) (omega (arith, most)) (λ k ne. ap one_if (set-away used n k false low ne)) in
    let now = ap one_if (freed-at used n low most) in
    let before = ap one_if is in
    let long = ap (λ q. sum_below (q + 1) (λ k. one_if (is_free_inode (set used (n - 1) false) k))) (length-set used (n - 1) false) in
    omega (arith, change, now, before, long)

pub count-some : (used : List Bool) (n : ℕ) → is_free_inode used n ≡ true → 1 ≤ free_count used
count-some used n is = let e = count-used used n is in omega arith

pub count-few : (used : List Bool) → free_count used ≤ length used + 1
unfolding free_count
count-few used = sum-le (length used + 1) (λ k. one_if (is_free_inode used k)) (λ k. one-le (is_free_inode used k))

pub count-is : (used : List Bool) {count size : ℕ} → count ≡ sum_below size (λ k. one_if (is_free_inode used k)) → size ≡ length used + 1 → count ≡ free_count used
unfolding free_count
count-is used {count} {size} e same = e ∙ ap (λ q. sum_below q (λ k. one_if (is_free_inode used k))) same

-- ---- the first so many numbers of a range that pass a test

-- those from a on, of so many numbers
abbrev pub frees : (ℕ → Bool) → ℕ → ℕ → ℕ → List ℕ
frees test room a len = take room (filter test (range_with_len a len))

pub frees-none : (test : ℕ → Bool) (room a : ℕ) → frees test room a 0 ≡ []
frees-none test zero a = refl
frees-none test (suc room) a = refl

pub frees-yes : (test : ℕ → Bool) (room a len : ℕ) → test a ≡ true → frees test (suc room) a (suc len) ≡ a ∷ frees test room (a + 1) len
frees-yes test room a len is = ap (λ t. take (suc room) (cond t (a ∷ filter test (range_with_len (a + 1) len)) (filter test (range_with_len (a + 1) len)))) is

pub frees-no : (test : ℕ → Bool) (room a len : ℕ) → test a ≡ false → frees test room a (suc len) ≡ frees test room (a + 1) len
frees-no test room a len is = ap (λ t. take room (cond t (a ∷ filter test (range_with_len (a + 1) len)) (filter test (range_with_len (a + 1) len)))) is

none-of : (n : ℕ) (xs : List ℕ) → xs ≡ [] → 0 < times n xs → ⊥
none-of n xs e some = let q = ap (times n) e in let z = times-nil n in omega arith

pub found-free : (test : ℕ → Bool) (room a len n : ℕ) → 0 < times n (frees test room a len) → (test n ≡ true) × (a ≤ n) × (n < a + len)
found-free test zero a len n some = absurd (none-of n [] refl some)
found-free test (suc room) a zero n some = absurd (none-of n (frees test (suc room) a 0) (frees-none test (suc room) a) some)
found-free test (suc room) a (suc len) n some = by (test a) refl (found-free test room (a + 1) len n) (found-free test (suc room) (a + 1) len n)
  where
    by : (t : Bool) → test a ≡ t → (0 < times n (frees test room (a + 1) len) → (test n ≡ true) × (a + 1 ≤ n) × (n < a + 1 + len)) → (0 < times n (frees test (suc room) (a + 1) len) → (test n ≡ true) × (a + 1 ≤ n) × (n < a + 1 + len)) → (test n ≡ true) × (a ≤ n) × (n < a + suc len)
    by false e more same =
        let rest = same (let q = ap (times n) (frees-no test (suc room) a len e) in omega arith) in
        (rest.0, omega (arith, rest.1), omega (arith, rest.2))
    by true e more same = at (a == n) refl
      where
        at : (s : Bool) → (a == n) ≡ s → (test n ≡ true) × (a ≤ n) × (n < a + suc len)
        at true s =
            let here = eqb-true a n s in
            (ap test (sym here) ∙ e, omega arith, omega arith)
        at false s =
            let q = ap (times n) (frees-yes test room a len e) in
            let r = times-other n a (frees test room (a + 1) len) (apart a n s) in
            let rest = more (omega arith) in
            (rest.0, omega (arith, rest.1), omega (arith, rest.2))

pub found-once : (test : ℕ → Bool) (room a len n : ℕ) → times n (frees test room a len) ≤ 1
found-once test zero a len n = let z = times-nil n in omega arith
found-once test (suc room) a zero n = let q = ap (times n) (frees-none test (suc room) a) in let z = times-nil n in omega arith
found-once test (suc room) a (suc len) n = by (test a) refl (found-once test room (a + 1) len n) (found-once test (suc room) (a + 1) len n)
  where
    by : (t : Bool) → test a ≡ t → times n (frees test room (a + 1) len) ≤ 1 → times n (frees test (suc room) (a + 1) len) ≤ 1 → times n (frees test (suc room) a (suc len)) ≤ 1
    by false e more same = let q = ap (times n) (frees-no test (suc room) a len e) in omega arith
    by true e more same = at (a == n) refl
      where
        late : (k : ℕ) → k ≤ a → times k (frees test room (a + 1) len) ≡ 0
        late k le = none (nat_lt 0 (times k (frees test room (a + 1) len))) refl
          where
            none : (s : Bool) → nat_lt 0 (times k (frees test room (a + 1) len)) ≡ s → times k (frees test room (a + 1) len) ≡ 0
            none false s = let z = no 0 (times k (frees test room (a + 1) len)) s in omega arith
            none true s = let z = found-free test room (a + 1) len k (yes 0 (times k (frees test room (a + 1) len)) s) in absurd (omega (arith, z.1))

        at : (s : Bool) → (a == n) ≡ s → times n (frees test (suc room) a (suc len)) ≤ 1
        at true s =
            let q = ap (times n) (frees-yes test room a len e) in
            let r = times-cons n a (frees test room (a + 1) len) in
            let z = late n (let here = eqb-true a n s in omega arith) in
            let o = one-le (a == n) in
            omega arith
        at false s =
            let q = ap (times n) (frees-yes test room a len e) in
            let r = times-other n a (frees test room (a + 1) len) (apart a n s) in
            omega arith

-- a number that passes is among them, or there are as many as there is room for, and it is past all of them
pub found-all : (test : ℕ → Bool) (room a len n : ℕ) → test n ≡ true → a ≤ n → n < a + len → (0 < times n (frees test room a len)) ⊎ ((length (frees test room a len) ≡ room) × ((y : ℕ) → 0 < times y (frees test room a len) → y < n))
found-all test zero a len n is low most = inr (refl, λ y some. absurd (none-of y [] refl some))
found-all test (suc room) a zero n is low most = absurd (omega arith)
found-all test (suc room) a (suc len) n is low most = by (test a) refl (a == n) refl (found-all test room (a + 1) len n is) (found-all test (suc room) (a + 1) len n is)
  where
    goal : List ℕ → ℕ → Type 0
    goal ys r = (0 < times n ys) ⊎ ((length ys ≡ r) × ((y : ℕ) → 0 < times y ys → y < n))

    by : (t : Bool) → test a ≡ t → (s : Bool) → (a == n) ≡ s → (a + 1 ≤ n → n < a + 1 + len → goal (frees test room (a + 1) len) room) → (a + 1 ≤ n → n < a + 1 + len → goal (frees test (suc room) (a + 1) len) (suc room)) → goal (frees test (suc room) a (suc len)) (suc room)
    by false e true s more same = absurd (false≢true (sym e ∙ (ap test (eqb-true a n s) ∙ is)))
    by false e false s more same =
        let ne = apart a n s in
        subst (λ q. goal q (suc room)) (sym (frees-no test (suc room) a len e)) (same (omega arith) (omega arith))
    by true e true s more same =
        let here = eqb-true a n s in
        let q = times-first a (frees test room (a + 1) len) in
        let r = ap (λ k. times k (a ∷ frees test room (a + 1) len)) here in
        subst (λ q. goal q (suc room)) (sym (frees-yes test room a len e)) (inl (omega arith))
    by true e false s more same =
        let ne = apart a n s in
        subst (λ q. goal q (suc room)) (sym (frees-yes test room a len e)) (rest (more (omega arith) (omega arith)))
      where
        rest : goal (frees test room (a + 1) len) room → goal (a ∷ frees test room (a + 1) len) (suc room)
        rest (inl some) = inl (let r = times-cons n a (frees test room (a + 1) len) in omega arith)
        rest (inr full) = inr (ap suc full.0, λ y some. at y (a == y) refl some)
          where
            at : (y : ℕ) (q : Bool) → (a == y) ≡ q → 0 < times y (a ∷ frees test room (a + 1) len) → y < n
            at y true q some = let here = eqb-true a y q in let ne = apart a n s in omega (arith, here, ne, low)
            at y false q some = full.1 y (let r = times-other y a (frees test room (a + 1) len) (apart a y q) in omega arith)

-- ---- the order turned

pub times-reverse : (n : ℕ) (xs : List ℕ) → times n (reverse xs) ≡ times n xs
times-reverse n [] = refl
times-reverse n (x ∷ xs) =
    let turned = ap (times n) (reverse-append (x ∷ []) xs) in
    let both = times-append n (reverse xs) (x ∷ []) in
    let more = times-reverse n xs in
    let one = times-cons n x [] in
    let none = times-nil n in
    let whole = times-cons n x xs in
    omega arith

-- ---- a range that is looked through

pub gathers-step : (test : ℕ → Bool) (xs : List ℕ) {total xs' : List ℕ} (n size : ℕ) → total ≡ xs ++ frees test (100 - length xs) n (size - n) → n < size → length xs < 100 → xs' ≡ xs ++ filter test (n ∷ []) → total ≡ xs' ++ frees test (100 - length xs') (n + 1) (size - (n + 1))
gathers-step test xs {total} {xs'} n size all low room is = by (test n) refl
  where
    spare : 100 - length xs ≡ suc (99 - length xs)
    spare = omega (arith, room)

    more : size - n ≡ suc (size - (n + 1))
    more = omega (arith, low)

    shown : total ≡ xs ++ frees test (suc (99 - length xs)) n (suc (size - (n + 1)))
    shown = all ∙ (ap (λ r. xs ++ frees test r n (size - n)) spare ∙ ap (λ m. xs ++ frees test (suc (99 - length xs)) n m) more)

    long : (x : ℕ) → length (xs ++ x ∷ []) ≡ length xs + 1
    long x = length-append xs (x ∷ [])

    by : (t : Bool) → test n ≡ t → total ≡ xs' ++ frees test (100 - length xs') (n + 1) (size - (n + 1))
    by true e =
        let now : xs' ≡ xs ++ n ∷ [] = is ∙ ap (λ t. xs ++ cond t (n ∷ []) []) e in
        let fewer : 99 - length xs ≡ 100 - length xs' = (let q = ap length now in let l = long n in omega (arith, q, l)) in
        shown
        ∙ (ap (λ q. xs ++ q) (frees-yes test (99 - length xs) n (size - (n + 1)) e)
        ∙ (sym (append_assoc xs (n ∷ []) (frees test (99 - length xs) (n + 1) (size - (n + 1))))
        ∙ (ap (λ q. q ++ frees test (99 - length xs) (n + 1) (size - (n + 1))) (sym now) ∙ ap (λ r. xs' ++ frees test r (n + 1) (size - (n + 1))) fewer)))
    by false e =
        let now : xs' ≡ xs = is ∙ (ap (λ t. xs ++ cond t (n ∷ []) []) e ∙ append-nil xs) in
        let same : suc (99 - length xs) ≡ 100 - length xs' = (let q = ap length now in omega (arith, q, room)) in
        shown
        ∙ (ap (λ q. xs ++ q) (frees-no test (suc (99 - length xs)) n (size - (n + 1)) e)
        ∙ (ap (λ q. q ++ frees test (suc (99 - length xs)) (n + 1) (size - (n + 1))) (sym now) ∙ ap (λ r. xs' ++ frees test r (n + 1) (size - (n + 1))) same))

pub gathers-full : (test : ℕ → Bool) (xs : List ℕ) {total : List ℕ} (n len : ℕ) → total ≡ xs ++ frees test (100 - length xs) n len → length xs ≡ 100 → xs ≡ total
gathers-full test xs {total} n len all full =
    let none : 100 - length xs ≡ 0 = omega (arith, full) in
    sym (append-nil xs) ∙ sym (all ∙ ap (λ r. xs ++ frees test r n len) none)

pub gathers-end : (test : ℕ → Bool) (xs : List ℕ) {total : List ℕ} (n len : ℕ) → total ≡ xs ++ frees test (100 - length xs) n len → len ≡ 0 → xs ≡ total
gathers-end test xs {total} n len all none =
    sym (append-nil xs) ∙ (ap (λ q. xs ++ q) (sym (frees-none test (100 - length xs) n)) ∙ sym (all ∙ ap (λ m. xs ++ frees test (100 - length xs) n m) none))

pub gathers-init : (used : List Bool) (from : ℕ) {none : List ℕ} → none ≡ [] → smallest used 100 from ≡ none ++ frees (is_free_inode used) (100 - length none) from (length used + 1 - from)
unfolding smallest
gathers-init used from {none} e = ap (λ q. q ++ frees (is_free_inode used) (100 - length q) from (length used + 1 - from)) (sym e)

pub length-add : (test : ℕ → Bool) (n : ℕ) (xs : List ℕ) {xs' : List ℕ} → xs' ≡ xs ++ filter test (n ∷ []) → length xs' ≤ length xs + 1
length-add test n xs {xs'} e = by (test n) refl
  where
    by : (t : Bool) → test n ≡ t → length xs' ≤ length xs + 1
    by true t = let q = ap length (e ∙ ap (λ s. xs ++ cond s (n ∷ []) []) t) in let l = length-append xs (n ∷ []) in omega (arith, q, l)
    by false t = let q = ap length (e ∙ ap (λ s. xs ++ cond s (n ∷ []) []) t) in let l = length-append xs [] in omega (arith, q, l)

-- where all are in use none is free
pub none-free-inode : (n k : ℕ) → is_free_inode (replicate k true) n ≡ false
unfolding is_free_inode
none-free-inode n k = ap (λ t. nat_lt 1 n && not t) (same k (n - 1)) ∙ none (nat_lt 1 n)
  where
    none : (t : Bool) → (t && false) ≡ false
    none true = refl
    none false = refl

    same : (k j : ℕ) → get_or (replicate k true) j true ≡ true
    same zero j = refl
    same (suc k) zero = refl
    same (suc k) (suc j) = same k j

-- an empty list has no number
pub times-none : (P : ℕ → Type 0) (n : ℕ) → 0 < times n [] → P n
times-none P n some = absurd (none-of n [] refl some)

pub times-few : (n : ℕ) → times n [] ≤ 1
times-few n = let z = times-nil n in omega arith

-- an inode that was taken is not free
pub taken-not-free : (used : List Bool) {now : List Bool} (n : ℕ) → is_free_inode used n ≡ true → now ≡ set used (n - 1) true → (2 ≤ n) × (n ≤ length now) × (is_free_inode now n ≡ false)
taken-not-free used {now} n free is =
    let range = free-range used n free in
    let long = ap length is ∙ length-set used (n - 1) true in
    (omega (arith, range.0), omega (arith, range.1, long), ap (λ q. is_free_inode q n) is ∙ used-at used n range.0 range.1)
