-- What a page counts of the missing blocks on its way.
use Rattle.std.proofs.Common.{◌≡◌, ◌≢◌, ◌+◌, ◌*◌, ◌/◌, ◌%◌, ◌<◌, ◌≤◌, ◌==◌, ◌&&◌, ◌||◌, ℕ, zero, suc, List, [], ◌∷◌, Bool, true, false}
use Rattle.std.proofs.Common.{cond, max, get_or, arith, ap, refl, sym, subst, ◌∙◌}
use Rattle.std.specs.List.{count_by, sum_by, range_with_len}
use Rattle.std.proofs.lemmas.List.Sums.{sum_by-cons}
use Rattle.std.proofs.lemmas.Bool.{eqb-true}
use Rattle.std.proofs.lemmas.Bool.Decides.{nat_tests}
use Rattle.std.proofs.lemmas.Nat.{div-mul-add, mod-mul-add}
use Rattle.sv_form.specs.PagePath.{IsPath, page_of, block_numbers, first_single, first_double, first_triple}
use Rattle.sv_form.specs.declared.geometry.Geometry.{Geometry}
use Rattle.sv_form.specs.declared.page_path.PagePath.{PagePath}
use Rattle.sv_form.specs.declared.page_path.PagePath.TheVariants.{Direct, Single, Double, Triple}
use Rattle.sv_store.specs.Held.{Held, Origin}
use Rattle.sv_store.proofs.OwnLaws.{count-cons}
use Rattle.sv_bmap.specs.Tree.{child, path, IsTree}
use Rattle.sv_bmap.specs.Need.{Step, way, counts_at, need_at, need_of}
use Rattle.sv_bmap.proofs.Paths.{path-is}

pub sum-more : (f : ℕ → ℕ) (a k : ℕ) → sum_by f (range_with_len a (k + 1)) ≡ sum_by f (range_with_len a k) + f (a + k)
sum-more f a zero =
    let one : sum_by f (a ∷ []) ≡ f a + sum_by f [] = sum_by-cons f a [] in
    let at : a + 0 ≡ a = omega arith in
    let same : f (a + 0) ≡ f a = ap f at in
    let none : sum_by f [] ≡ 0 = refl in
    omega (arith, one, same, none)
sum-more f a (suc k) =
    let at : a + 1 + k ≡ a + suc k = omega arith in
    let same : f (a + 1 + k) ≡ f (a + suc k) = ap f at in
    let rest : sum_by f (range_with_len (a + 1) (k + 1)) ≡ sum_by f (range_with_len (a + 1) k) + f (a + 1 + k) = sum-more f (a + 1) k in
    let before : sum_by f (a ∷ range_with_len (a + 1) k) ≡ f a + sum_by f (range_with_len (a + 1) k) = sum_by-cons f a
    (range_with_len (a + 1) k) in
    let after : sum_by f (a ∷ range_with_len (a + 1) (k + 1)) ≡ f a + sum_by f (range_with_len (a + 1) (k + 1)) = sum_by-cons f a
    (range_with_len (a + 1) (k + 1)) in
    let turn : suc k + 1 ≡ suc (k + 1) = omega arith in
    ap (λ q. sum_by f (range_with_len a q)) turn ∙ omega (arith, same, rest, before, after)

pub plus : {a b x y : ℕ} → a ≡ x → b ≡ y → a + b ≡ x + y
plus {a} {b} {x} {y} p q = ap (λ z. z + b) p ∙ ap (λ z. x + z) q

-- the count of a range is that of its pages
pub need-none : (g : Geometry) (h : Held) (a : List ℕ) (first : ℕ) → 0 ≡ need_of g h a first 0
unfolding need_of
need-none g h a first = refl

pub need-more : (g : Geometry) (h : Held) (a : List ℕ) (first k : ℕ)
    → need_of g h a first (k + 1) ≡ need_of g h a first k + need_at g h a first (first + k)
unfolding need_of
need-more g h a first k = sum-more (need_at g h a first) first k

-- one where the test holds
abbrev pub flag : Bool → ℕ
flag t = cond t 1 0

-- two tests agree where each of the two equations gives the other
tests-same : (a b c d : ℕ) → (a ≡ b → c ≡ d) → (c ≡ d → a ≡ b) → (a == b) ≡ (c == d)
tests-same a b c d to from = by (a == b) (c == d) refl refl
  where
    yes : (x y : ℕ) → (x == y) ≡ true → x ≡ y
    yes x y h = eqb-true x y h

    same : (x y : ℕ) → x ≡ y → (x == y) ≡ true
    same x y h = grind (nat_tests, arith)

    by : (s t : Bool) → (a == b) ≡ s → (c == d) ≡ t → (a == b) ≡ (c == d)
    by true t p q = p ∙ sym (same c d (to (yes a b p)))
    by false true p q = same a b (from (yes c d q)) ∙ sym q
    by false false p q = p ∙ sym q

-- a block is counted at the first page of the range, and at the first page of its own
first-counts : (first from page : ℕ) → first ≤ page → from ≤ page → ((page == first) || (from == page)) ≡ (max first from == page)
first-counts first from page low lower = by (page == first) (from == page) refl refl
  where
    yes : (x y : ℕ) → (x == y) ≡ true → x ≡ y
    yes x y h = eqb-true x y h

    no : (x y : ℕ) → (x == y) ≡ false → x ≢ y
    no x y h = grind (nat_tests, arith)

    same : (x y : ℕ) → x ≡ y → (x == y) ≡ true
    same x y h = grind (nat_tests, arith)

    differ : (x y : ℕ) → x ≢ y → (x == y) ≡ false
    differ x y h = grind (nat_tests, arith)

    by : (s t : Bool) → (page == first) ≡ s → (from == page) ≡ t → ((page == first) || (from == page)) ≡ (max first from == page)
    by true t p q = ap (λ x. x || (from == page)) p ∙ sym (same (max first from) page (omega (arith, yes page first p, lower)))
    by false true p q = ap (λ x. x || (from == page)) p ∙ (q ∙ sym (same (max first from) page (omega (arith, yes from page q, low))))
    by false false p q =
        ap (λ x. x || (from == page)) p
        ∙ (q ∙ sym (differ (max first from) page
        (λ e. (let f : page ≢ first = no page first p in let t : from ≢ page = no from page q in absurd (omega arith)))))

-- one step of the way, counted or not, as the code counts it
one : (first page from block : ℕ) (zeros : Bool) → first ≤ page → from ≤ page → zeros ≡ (from == page)
    → flag ((block == 0) && ((page == first) || zeros)) ≡ flag (counts_at first page (record { from = from; block = block }))
one first page from block zeros low lower e =
    ap (λ q. flag ((block == 0) && ((page == first) || q))) e ∙ ap (λ q. flag ((block == 0) && q)) (first-counts first from page low lower)

-- the page itself
last : (first page from block : ℕ) → first ≤ page → from ≡ page
    → flag ((block == 0) && true) ≡ flag (counts_at first page (record { from = from; block = block }))
last first page from block low e = ap (λ q. flag ((block == 0) && q)) (sym (same (max first from) page (omega (arith, low, e))))
  where
    same : (x y : ℕ) → x ≡ y → (x == y) ≡ true
    same x y h = grind (nat_tests, arith)

pub count-one : (f : Step → Bool) (x : Step) → count_by f (x ∷ []) ≡ flag (f x)
count-one f x = count-cons f x [] ∙ omega arith

pub count-two : (f : Step → Bool) (x y : Step) → count_by f (x ∷ y ∷ []) ≡ flag (f x) + flag (f y)
count-two f x y = count-cons f x (y ∷ []) ∙ ap (λ q. flag (f x) + q) (count-one f y)

pub count-three : (f : Step → Bool) (x y z : Step) → count_by f (x ∷ y ∷ z ∷ []) ≡ flag (f x) + (flag (f y) + flag (f z))
count-three f x y z = count-cons f x (y ∷ z ∷ []) ∙ ap (λ q. flag (f x) + q) (count-two f y z)

pub count-four : (f : Step → Bool) (w x y z : Step)
    → count_by f (w ∷ x ∷ y ∷ z ∷ []) ≡ flag (f w) + (flag (f x) + (flag (f y) + flag (f z)))
count-four f w x y z = count-cons f w (x ∷ y ∷ z ∷ []) ∙ ap (λ q. flag (f w) + q) (count-three f x y z)

pub need-is : (g g' : Geometry) (h : Held) (a : List ℕ) (p : PagePath) (first page : ℕ) → g' ≡ g → IsPath g' p → page_of g' p ≡ page
    → need_at g h a first page ≡ count_by (counts_at first page) (way g' h a p)
unfolding need_at
need-is g g' h a p first page e is at =
    ap (λ q. count_by (counts_at first page) (way q h a (path (block_numbers q) page))) (sym e)
    ∙ ap (λ q. count_by (counts_at first page) (way g' h a q)) (path-is g' p page is at)

-- ---- rows and columns

same_row : (n i j k l : ℕ) → j < n → l < n → i * n + j ≡ k * n + l → i ≡ k
same_row n i j k l p q e = sym (div-mul-add i n j p) ∙ ap (λ (x : ℕ). x / n) e ∙ div-mul-add k n l q

same_column : (n i j k l : ℕ) → j < n → l < n → i * n + j ≡ k * n + l → j ≡ l
same_column n i j k l p q e = sym (mod-mul-add i n j p) ∙ ap (λ (x : ℕ). x % n) e ∙ mod-mul-add k n l q

pub row-grows : (n i j k l : ℕ) → i ≤ k → j ≤ l → i * n + j ≤ k * n + l
row-grows n i j k l p q = grind arith

both : (a b c d x y : ℕ) → (a ≡ b → c ≡ d → x ≡ y) → (x ≡ y → (a ≡ b) × (c ≡ d)) → ((a == b) && (c == d)) ≡ (x == y)
both a b c d x y to from = by (a == b) refl
  where
    no : (x y : ℕ) → (x == y) ≡ false → x ≢ y
    no x y h = grind (nat_tests, arith)

    differ : (x y : ℕ) → x ≢ y → (x == y) ≡ false
    differ x y h = grind (nat_tests, arith)

    by : (s : Bool) → (a == b) ≡ s → ((a == b) && (c == d)) ≡ (x == y)
    by true p = ap (λ q. q && (c == d)) p ∙ tests-same c d x y (λ e. to (eqb-true a b p) e) (λ e. (from e).1)
    by false p = ap (λ q. q && (c == d)) p ∙ sym (differ x y (λ e. no a b p (from e).0))

-- ---- the four paths

pub need-direct : (g g' : Geometry) (h : Held) (a : List ℕ) (first page i block : ℕ) → g' ≡ g → IsPath g' (Direct i)
    → page_of g' (Direct i) ≡ page → first ≤ page → block ≡ get_or a i 0 → flag ((block == 0) && true) ≡ need_at g h a first page
need-direct g g' h a first page i block e is at low named =
    last first page i block low at
    ∙ (ap (λ q. flag (counts_at first page (record { from = i; block = q }))) named
    ∙ sym (need-is g g' h a (Direct i) first page e is at ∙ count-one (counts_at first page) (record { from = i; block = get_or a i 0 })))

pub need-single : (g g' : Geometry) (h : Held) (a : List ℕ) (first page i block : ℕ) → g' ≡ g → IsPath g' (Single i)
    → page_of g' (Single i) ≡ page → first ≤ page → block ≡ child h (get_or a 10 0) i
    → flag ((get_or a 10 0 == 0) && ((page == first) || (i == 0))) + flag ((block == 0) && true) ≡ need_at g h a first page
need-single g g' h a first page i block e is at low named =
    ap (λ q. q + flag ((block == 0) && true))
    (one first page (first_single + 0) (get_or a 10 0) (i == 0) low (omega (arith, at))
    (tests-same i 0 (first_single + 0) page (λ z. omega (arith, at, z)) (λ z. omega (arith, at, z))))
    ∙ (ap (λ q. flag (counts_at first page (record { from = first_single + 0; block = get_or a 10 0 })) + q)
    (last first page (first_single + i) block low at)
    ∙ (ap (λ q. flag (counts_at first page (record { from = first_single + 0; block = get_or a 10 0 })) + flag
    (counts_at first page (record { from = first_single + i; block = q }))) named
    ∙ sym (need-is g g' h a (Single i) first page e is at
    ∙ count-two (counts_at first page) (record { from = first_single + 0; block = get_or a 10 0 })
    (record { from = first_single + i; block = child h (get_or a 10 0) i }))))

sum-three : (a b c x y z : ℕ) → a ≡ x → b ≡ y → c ≡ z → a + b + c ≡ x + (y + z)
sum-three a b c x y z p q r = omega (arith, p, q, r)

sum-four : (a b c d w x y z : ℕ) → a ≡ w → b ≡ x → c ≡ y → d ≡ z → a + b + c + d ≡ w + (x + (y + z))
sum-four a b c d w x y z p q r s = omega (arith, p, q, r, s)

renamed : (first page from : ℕ) {x y : ℕ} → x ≡ y
    → flag (counts_at first page (record { from = from; block = x })) ≡ flag (counts_at first page (record { from = from; block = y }))
renamed first page from e = ap (λ q. flag (counts_at first page (record { from = from; block = q }))) e

pub need-double : (g g' : Geometry) (h : Held) (a : List ℕ) (first page i j middle block : ℕ) → g' ≡ g → IsPath g' (Double i j)
    → page_of g' (Double i j) ≡ page → first ≤ page → middle ≡ child h (get_or a 11 0) i → block ≡ child h (child h (get_or a 11 0) i) j
    → flag ((get_or a 11 0 == 0) && ((page == first) || ((i == 0) && (j == 0)))) + flag ((middle == 0) && ((page == first) || (j == 0)))
    + flag ((block == 0) && true) ≡ need_at g h a first page
need-double g g' h a first page i j middle block e is at low here there =
    let n : ℕ = block_numbers g' in
    let some : 0 < n = omega (arith, is.0) in
    sum-three _ _ _ _ _ _
    (one first page (first_double n + (0 * n + 0)) (get_or a 11 0) ((i == 0) && (j == 0)) low
    (omega (arith, at, row-grows n 0 0 i j (omega arith) (omega arith)))
    (both i 0 j 0 (first_double n + (0 * n + 0)) page
    (λ p q. ap (λ z. first_double n + (z * n + 0)) (sym p) ∙ (ap (λ z. first_double n + (i * n + z)) (sym q) ∙ at))
    (λ z. (let w : i * n + j ≡ 0 * n + 0 = omega (arith, at, z) in (same_row n i j 0 0 is.1 some w, same_column n i j 0 0 is.1 some w)))))
    (one first page (first_double n + (i * n + 0)) middle (j == 0) low (omega (arith, at))
    (tests-same j 0 (first_double n + (i * n + 0)) page (λ z. omega (arith, at, z)) (λ z. omega (arith, at, z)))
    ∙ renamed first page (first_double n + (i * n + 0)) here)
    (last first page (first_double n + (i * n + j)) block low at ∙ renamed first page (first_double n + (i * n + j)) there)
    ∙ sym (need-is g g' h a (Double i j) first page e is at
    ∙ count-three (counts_at first page) (record { from = first_double n + (0 * n + 0); block = get_or a 11 0 })
    (record { from = first_double n + (i * n + 0); block = child h (get_or a 11 0) i })
    (record { from = first_double n + (i * n + j); block = child h (child h (get_or a 11 0) i) j }))

pub need-triple : (g g' : Geometry) (h : Held) (a : List ℕ) (first page i j k upper lower block : ℕ) → g' ≡ g → IsPath g' (Triple i j k)
    → page_of g' (Triple i j k) ≡ page → first ≤ page → upper ≡ child h (get_or a 12 0) i → lower ≡ child h (child h (get_or a 12 0) i) j
    → block ≡ child h (child h (child h (get_or a 12 0) i) j) k
    → flag ((get_or a 12 0 == 0) && ((page == first) || ((i == 0) && ((j == 0) && (k == 0))))) + flag
    ((upper == 0) && ((page == first) || ((j == 0) && (k == 0)))) + flag ((lower == 0) && ((page == first) || (k == 0))) + flag
    ((block == 0) && true) ≡ need_at g h a first page
need-triple g g' h a first page i j k upper lower block e is at low here there lowest =
    let n : ℕ = block_numbers g' in
    let some : 0 < n = omega (arith, is.0) in
    let x : ℕ = first_triple n in
    let first-rows : 0 * n + 0 ≤ i * n + j = row-grows n 0 0 i j (omega arith) (omega arith) in
    let rows : i * n + 0 ≤ i * n + j = omega arith in
    sum-four _ _ _ _ _ _ _ _
    (one first page (x + ((0 * n + 0) * n + 0)) (get_or a 12 0) ((i == 0) && ((j == 0) && (k == 0))) low
    (omega (arith, at, row-grows n (0 * n + 0) 0 (i * n + j) k first-rows (omega arith)))
    (three-zero n x page i j k some is.1 is.2 at))
    (one first page (x + ((i * n + 0) * n + 0)) upper ((j == 0) && (k == 0)) low
    (omega (arith, at, row-grows n (i * n + 0) 0 (i * n + j) k rows (omega arith)))
    (two-zero n x page i j k some is.2 at)
    ∙ renamed first page (x + ((i * n + 0) * n + 0)) here)
    (one first page (x + ((i * n + j) * n + 0)) lower (k == 0) low (omega (arith, at))
    (tests-same k 0 (x + ((i * n + j) * n + 0)) page (λ z. omega (arith, at, z)) (λ z. omega (arith, at, z)))
    ∙ renamed first page (x + ((i * n + j) * n + 0)) there)
    (last first page (x + ((i * n + j) * n + k)) block low at ∙ renamed first page (x + ((i * n + j) * n + k)) lowest)
    ∙ sym (need-is g g' h a (Triple i j k) first page e is at
    ∙ count-four (counts_at first page) (record { from = x + ((0 * n + 0) * n + 0); block = get_or a 12 0 })
    (record { from = x + ((i * n + 0) * n + 0); block = child h (get_or a 12 0) i })
    (record { from = x + ((i * n + j) * n + 0); block = child h (child h (get_or a 12 0) i) j })
    (record { from = x + ((i * n + j) * n + k); block = child h (child h (child h (get_or a 12 0) i) j) k }))
  where
    two-zero : (n x page i j k : ℕ) → 0 < n → k < n → x + ((i * n + j) * n + k) ≡ page
        → ((j == 0) && (k == 0)) ≡ (x + ((i * n + 0) * n + 0) == page)
    two-zero n x page i j k some column at =
        both j 0 k 0 (x + ((i * n + 0) * n + 0)) page
        (λ p q. ap (λ z. x + ((i * n + z) * n + 0)) (sym p) ∙ (ap (λ z. x + ((i * n + j) * n + z)) (sym q) ∙ at))
        (λ z. (let w : (i * n + j) * n + k ≡ (i * n + 0) * n + 0 =
        omega (arith, at, z) in (
          let r : i * n + j ≡ i * n + 0 = same_row n (i * n + j) k (i * n + 0) 0 column some w in omega
              (arith, r),
          same_column n (i * n + j) k (i * n + 0) 0 column some w,
        )))

    three-zero : (n x page i j k : ℕ) → 0 < n → j < n → k < n → x + ((i * n + j) * n + k) ≡ page
        → ((i == 0) && ((j == 0) && (k == 0))) ≡ (x + ((0 * n + 0) * n + 0) == page)
    three-zero n x page i j k some row column at =
        ap (λ q. (i == 0) && q) (two-zero n x page i j k some column at)
        ∙ both i 0 (x + ((i * n + 0) * n + 0)) page (x + ((0 * n + 0) * n + 0)) page
        (λ p q. ap (λ z. x + ((z * n + 0) * n + 0)) (sym p) ∙ q)
        (λ z. (let w : (i * n + j) * n + k ≡ (0 * n + 0) * n + 0 = omega (arith, at, z) in let r : i * n + j ≡ 0 * n + 0 =
        same_row n (i * n + j) k (0 * n + 0) 0 column some w in let p : i ≡ 0 =
        same_row n i j 0 0 row some r in (p, ap (λ q. x + ((q * n + 0) * n + 0)) p ∙ z)))

-- what was so before the reads of a page is so after them
pub tree-after : {o o' : Origin} {h h' : Held} {a : List ℕ} → o' ≡ o → h' ≡ h → IsTree o h a → IsTree o' h' a
tree-after {o} {o'} {h} {h'} {a} p q tree =
    let P : Origin → Type 0 = λ x. IsTree x h' a in
    let Q : Held → Type 0 = λ x. IsTree o x a in
    subst P (sym p) (subst Q (sym q) tree)

pub need-after : (o o' : Origin) (h h' : Held) (a : List ℕ) (first page : ℕ) → o' ≡ o → h' ≡ h
    → need_at o'.sizes h' a first page ≡ need_at o.sizes h a first page
need-after o o' h h' a first page p q = ap (λ x. need_at x.sizes h' a first page) p ∙ ap (λ x. need_at o.sizes x a first page) q
