-- What the pages of a run count of the missing blocks: the first one those above it, and each the page itself.
use Rattle.std.proofs.Common.{◌≡◌, ◌≢◌, ◌+◌, ◌-◌, ◌*◌, ◌^◌, ◌<◌, ◌≤◌, ◌==◌, ◌&&◌, ◌||◌, ℕ, zero, suc, List, ◌∷◌, Bool, true, false}
use Rattle.std.proofs.Common.{get_or, arith, ap, refl, sym, subst, ◌∙◌}
use Rattle.std.specs.List.{count_by, sum_by, range_with_len}
use Rattle.std.proofs.lemmas.List.Sums.{sum_by-cons}
use Rattle.std.proofs.lemmas.Bool.Decides.{nat_tests}
use Rattle.sv_form.specs.Geometry.{IsGeometry}
use Rattle.sv_form.specs.PagePath.{IsPage, IsPath, page_of, block_numbers}
use Rattle.sv_form.specs.declared.geometry.Geometry.{Geometry}
use Rattle.sv_form.specs.declared.page_path.PagePath.TheVariants.{Direct, Single, Double, Triple}
use Rattle.sv_form.proofs.PageLemmas.{greatest_size_is}
use Rattle.sv_store.specs.Held.{Held, Origin}
use Rattle.sv_store.proofs.OwnLaws.{count-cons}
use Rattle.sv_bmap.specs.Tree.{child}
use Rattle.sv_bmap.specs.Need.{CountsRun, IsRun, need_at, need_of}
use Rattle.sv_bmap.proofs.Needs.{flag, need-direct, need-single, need-double, need-triple}

differ : (x y : ℕ) → x ≢ y → (x == y) ≡ false
differ x y h = grind (nat_tests, arith)

-- what is above a page is counted elsewhere, where the page is neither the first of the range nor the first below it
quiet : (s t u : Bool) → t ≡ false → u ≡ false → flag (s && (t || u)) ≡ 0
quiet s t u p q = ap (λ x. flag (s && (x || u))) p ∙ (ap (λ x. flag (s && (false || x))) q ∙ none s)
  where
    none : (s : Bool) → flag (s && (false || false)) ≡ 0
    none true = refl
    none false = refl

and-false : (s t : Bool) → t ≡ false → (s && t) ≡ false
and-false s t p = ap (λ x. s && x) p ∙ none s
  where
    none : (s : Bool) → (s && false) ≡ false
    none true = refl
    none false = refl

and-true : (t : Bool) → flag (t && true) ≡ flag t
and-true true = refl
and-true false = refl

-- a sum over a range, and a count over another one
each-same : (f : ℕ → ℕ) (c : ℕ → Bool) (x y n : ℕ) → ((q : ℕ) → q < n → f (x + q) ≡ flag (c (y + q)))
    → sum_by f (range_with_len x n) ≡ count_by c (range_with_len y n)
each-same f c x y zero each = refl
each-same f c x y (suc n) each =
    let here : f x ≡ flag (c y) = ap f (omega arith) ∙ (each 0 (omega arith) ∙ ap (λ z. flag (c z)) (omega arith)) in
    let rest : sum_by f (range_with_len (x + 1) n) ≡ count_by c (range_with_len (y + 1) n) =
    each-same f c (x + 1) (y + 1) n
    (λ q low. ap f (omega arith) ∙ (each (q + 1) (omega (arith, low)) ∙ ap (λ z. flag (c z)) (omega arith))) in
    let left : sum_by f (x ∷ range_with_len (x + 1) n) ≡ f x + sum_by f (range_with_len (x + 1) n) = sum_by-cons f x
    (range_with_len (x + 1) n) in
    let right : count_by c (y ∷ range_with_len (y + 1) n) ≡ flag (c y) + count_by c (range_with_len (y + 1) n) = count-cons c y
    (range_with_len (y + 1) n) in
    omega (arith, here, rest, left, right)

-- the first page counts what is above the run besides itself
run-is : (f : ℕ → ℕ) (c : ℕ → Bool) (x y n up holes : ℕ) → 1 ≤ n → f x ≡ up + flag (c y)
    → ((q : ℕ) → 0 < q → q < n → f (x + q) ≡ flag (c (y + q))) → holes ≡ count_by c (range_with_len y n)
    → up + holes ≡ sum_by f (range_with_len x n)
run-is f c x y zero up holes some first each e = absurd (omega (arith, some))
run-is f c x y (suc n) up holes some first each e =
    let rest : sum_by f (range_with_len (x + 1) n) ≡ count_by c (range_with_len (y + 1) n) =
    each-same f c (x + 1) (y + 1) n
    (λ q low. ap f (omega arith) ∙ (each (q + 1) (omega arith) (omega (arith, low)) ∙ ap (λ z. flag (c z)) (omega arith))) in
    let left : sum_by f (x ∷ range_with_len (x + 1) n) ≡ f x + sum_by f (range_with_len (x + 1) n) = sum_by-cons f x
    (range_with_len (x + 1) n) in
    let right : count_by c (y ∷ range_with_len (y + 1) n) ≡ flag (c y) + count_by c (range_with_len (y + 1) n) = count-cons c y
    (range_with_len (y + 1) n) in
    omega (arith, first, e, rest, left, right)

parts : {a b c : ℕ} → a ≡ 0 → b ≡ c → a + b ≡ c
parts p q = omega (arith, p, q)

three-parts : {a b c d : ℕ} → a ≡ 0 → b ≡ 0 → c ≡ d → a + b + c ≡ d
three-parts p q r = omega (arith, p, q, r)

four-parts : {a b c d e : ℕ} → a ≡ 0 → b ≡ 0 → c ≡ 0 → d ≡ e → a + b + c + d ≡ e
four-parts p q r s = omega (arith, p, q, r, s)

-- ---- the four paths

pub run-direct : (g g' : Geometry) (h : Held) (a : List ℕ) (first page i block : ℕ) → g' ≡ g → IsPath g' (Direct i)
    → page_of g' (Direct i) ≡ page → first ≤ page → block ≡ get_or a i 0
    → flag ((block == 0) && true) ≡ sum_by (need_at g h a first) (range_with_len page 1)
run-direct g g' h a first page i block e is at low named =
    let one : sum_by (need_at g h a first) (page ∷ range_with_len (page + 1) 0) ≡ need_at g h a first page + sum_by (need_at g h a first)
    (range_with_len (page + 1) 0) = sum_by-cons (need_at g h a first) page (range_with_len (page + 1) 0) in
    let none : sum_by (need_at g h a first) (range_with_len (page + 1) 0) ≡ 0 = refl in
    omega (arith, one, none, need-direct g g' h a first page i block e is at low named)

pub run-single : (g g' : Geometry) (h : Held) (a : List ℕ) (first page i n holes : ℕ) → g' ≡ g → IsPath g' (Single i)
    → page_of g' (Single i) ≡ page → first ≤ page → 1 ≤ n → i + n ≤ block_numbers g'
    → holes ≡ count_by (λ p. child h (get_or a 10 0) p == 0) (range_with_len i n)
    → flag ((get_or a 10 0 == 0) && ((page == first) || (i == 0))) + holes ≡ sum_by (need_at g h a first) (range_with_len page n)
run-single g g' h a first page i n holes e is at low some fits counted =
    let top : ℕ = get_or a 10 0 in
    run-is (need_at g h a first) (λ p. child h top p == 0) page i n (flag ((top == 0) && ((page == first) || (i == 0)))) holes some
    (sym (need-single g g' h a first page i (child h top i) e is at low refl)
    ∙ ap (λ z. flag ((top == 0) && ((page == first) || (i == 0))) + z) (and-true (child h top i == 0)))
    (λ q more inside.
    sym (need-single g g' h a first (page + q) (i + q) (child h top (i + q)) e (omega (arith, fits, inside)) (omega (arith, at))
    (omega (arith, low)) refl)
    ∙ parts
    (quiet (top == 0) (page + q == first) (i + q == 0) (differ (page + q) first (λ z. absurd (omega (arith, z, low, more))))
    (differ (i + q) 0 (λ z. absurd (omega (arith, z, more))))) (and-true (child h top (i + q) == 0))) counted

pub run-double : (g g' : Geometry) (h : Held) (a : List ℕ) (first page i j n middle holes : ℕ) → g' ≡ g → IsPath g' (Double i j)
    → page_of g' (Double i j) ≡ page → first ≤ page → 1 ≤ n → j + n ≤ block_numbers g' → middle ≡ child h (get_or a 11 0) i
    → holes ≡ count_by (λ p. child h middle p == 0) (range_with_len j n)
    → flag ((get_or a 11 0 == 0) && ((page == first) || ((i == 0) && (j == 0)))) + flag ((middle == 0) && ((page == first) || (j == 0)))
    + holes ≡ sum_by (need_at g h a first) (range_with_len page n)
run-double g g' h a first page i j n middle holes e is at low some fits here counted =
    let top : ℕ = get_or a 11 0 in
    let up : ℕ = flag ((top == 0) && ((page == first) || ((i == 0) && (j == 0)))) + flag ((middle == 0) && ((page == first) || (j == 0))) in
    run-is (need_at g h a first) (λ p. child h middle p == 0) page j n up holes some
    (sym (need-double g g' h a first page i j middle (child h middle j) e is at low here (ap (λ z. child h z j) here))
    ∙ ap (λ z. up + z) (and-true (child h middle j == 0)))
    (λ q more inside.
    (let later : (page + q == first) ≡ false = differ (page + q) first (λ z. absurd (omega (arith, z, low, more))) in
    let past : (j + q == 0) ≡ false = differ (j + q) 0 (λ z. absurd (omega (arith, z, more))) in
    sym (need-double g g' h a first (page + q) i (j + q) middle (child h middle (j + q)) e (is.0, omega (arith, fits, inside))
    (omega (arith, at)) (omega (arith, low)) here (ap (λ z. child h z (j + q)) here))
    ∙ three-parts (quiet (top == 0) (page + q == first) ((i == 0) && (j + q == 0)) later (and-false (i == 0) (j + q == 0) past))
    (quiet (middle == 0) (page + q == first) (j + q == 0) later past) (and-true (child h middle (j + q) == 0)))) counted

pub run-triple : (g g' : Geometry) (h : Held) (a : List ℕ) (first page i j k n upper lower holes : ℕ) → g' ≡ g
    → IsPath g' (Triple i j k) → page_of g' (Triple i j k) ≡ page → first ≤ page → 1 ≤ n → k + n ≤ block_numbers g'
    → upper ≡ child h (get_or a 12 0) i → lower ≡ child h (child h (get_or a 12 0) i) j
    → holes ≡ count_by (λ p. child h lower p == 0) (range_with_len k n)
    → flag ((get_or a 12 0 == 0) && ((page == first) || ((i == 0) && ((j == 0) && (k == 0))))) + flag
    ((upper == 0) && ((page == first) || ((j == 0) && (k == 0)))) + flag ((lower == 0) && ((page == first) || (k == 0)))
    + holes ≡ sum_by (need_at g h a first) (range_with_len page n)
run-triple g g' h a first page i j k n upper lower holes e is at low some fits here there counted =
    let top : ℕ = get_or a 12 0 in
    let up : ℕ = flag ((top == 0) && ((page == first) || ((i == 0) && ((j == 0) && (k == 0))))) + flag
    ((upper == 0) && ((page == first) || ((j == 0) && (k == 0)))) + flag ((lower == 0) && ((page == first) || (k == 0))) in
    run-is (need_at g h a first) (λ p. child h lower p == 0) page k n up holes some
    (sym (need-triple g g' h a first page i j k upper lower (child h lower k) e is at low here there (ap (λ z. child h z k) there))
    ∙ ap (λ z. up + z) (and-true (child h lower k == 0)))
    (λ q more inside.
    (let later : (page + q == first) ≡ false = differ (page + q) first (λ z. absurd (omega (arith, z, low, more))) in
    let past : (k + q == 0) ≡ false = differ (k + q) 0 (λ z. absurd (omega (arith, z, more))) in
    let past-two : ((j == 0) && (k + q == 0)) ≡ false = and-false (j == 0) (k + q == 0) past in
    sym (need-triple g g' h a first (page + q) i j (k + q) upper lower (child h lower (k + q)) e (is.0, is.1, omega (arith, fits, inside))
    (omega (arith, at)) (omega (arith, low)) here there (ap (λ z. child h z (k + q)) there))
    ∙ four-parts
    (quiet (top == 0) (page + q == first) ((i == 0) && ((j == 0) && (k + q == 0))) later
    (and-false (i == 0) ((j == 0) && (k + q == 0)) past-two))
    (quiet (upper == 0) (page + q == first) ((j == 0) && (k + q == 0)) later past-two)
    (quiet (lower == 0) (page + q == first) (k + q == 0) later past) (and-true (child h lower (k + q) == 0)))) counted

-- ---- one run after another

sum-run : (f : ℕ → ℕ) (a k n : ℕ)
    → sum_by f (range_with_len a (k + n)) ≡ sum_by f (range_with_len a k) + sum_by f (range_with_len (a + k) n)
sum-run f a zero n =
    let none : sum_by f (range_with_len a 0) ≡ 0 = refl in
    let same : sum_by f (range_with_len (a + 0) n) ≡ sum_by f (range_with_len a n) =
    ap (λ q. sum_by f (range_with_len q n)) (omega arith) in
    let turn : 0 + n ≡ n = omega arith in
    ap (λ q. sum_by f (range_with_len a q)) turn ∙ omega (arith, none, same)
sum-run f a (suc k) n =
    let turn : suc k + n ≡ suc (k + n) = omega arith in
    let all : sum_by f (a ∷ range_with_len (a + 1) (k + n)) ≡ f a + sum_by f (range_with_len (a + 1) (k + n)) = sum_by-cons f a
    (range_with_len (a + 1) (k + n)) in
    let front : sum_by f (a ∷ range_with_len (a + 1) k) ≡ f a + sum_by f (range_with_len (a + 1) k) = sum_by-cons f a
    (range_with_len (a + 1) k) in
    let rest : sum_by f (range_with_len (a + 1) (k + n)) ≡ sum_by f (range_with_len (a + 1) k) + sum_by f (range_with_len (a + 1 + k) n) =
    sum-run f (a + 1) k n in
    let same : sum_by f (range_with_len (a + 1 + k) n) ≡ sum_by f (range_with_len (a + suc k) n) =
    ap (λ q. sum_by f (range_with_len q n)) (omega arith) in
    ap (λ q. sum_by f (range_with_len a q)) turn ∙ omega (arith, all, front, rest, same)

pub need-run : (g : Geometry) (h : Held) (a : List ℕ) (first k n : ℕ)
    → need_of g h a first (k + n) ≡ need_of g h a first k + sum_by (need_at g h a first) (range_with_len (first + k) n)
unfolding need_of
need-run g h a first k n = sum-run (need_at g h a first) first k n

-- a count of at most four a page is a number of 32 bits, where the last of the pages is one that a file may have
pub sum-fits : (g : Geometry) → IsGeometry g → (first done n missing more : ℕ) → IsPage g (first + (done + n - 1)) → 1 ≤ n
    → missing ≤ 4 * done → more ≤ 4 * n → missing + more < 2 ^ 32
sum-fits g is first done n missing more page some few least =
    let bytes : (first + (done + n - 1)) * g.block_size ≡ (first + (done + n - 1)) * 1024 =
    ap (λ q. (first + (done + n - 1)) * q) is.block_size in
    omega (arith, greatest_size_is g is, bytes, page, some, few, least)

-- ---- the runs of the code

-- one page by its address
pub counts-direct : (g g' : Geometry) (h : Held) (a : List ℕ) (first page left i block missing : ℕ) → g' ≡ g → IsPath g' (Direct i)
    → page_of g' (Direct i) ≡ page → first ≤ page → 1 ≤ left → block ≡ get_or a i 0 → missing ≡ flag ((block == 0) && true) → missing ≤ 1
    → CountsRun g h a first page left 1 missing
counts-direct g g' h a first page left i block missing e is at low some named counted few = record {
  some = omega arith;
  most = some;
  counted = counted ∙ run-direct g g' h a first page i block e is at low named;
  few = omega (arith, few);
}

counts-below : {h : Held} {n b k left above pages missing : ℕ} (g : Geometry) (a : List ℕ) (first page : ℕ) → above ≤ 3
    → IsRun h n b k left above pages missing
    → ((holes : ℕ) → holes ≡ count_by (λ p. child h b p == 0) (range_with_len k pages)
    → above + holes ≡ sum_by (need_at g h a first) (range_with_len page pages)) → CountsRun g h a first page left pages missing
counts-below g a first page few run counts = record {
  some = run.some;
  most = run.most;
  counted = run.counted ∙ counts _ refl;
  few = omega (arith, few, run.some, run.few);
}

pub counts-single : (g g' : Geometry) (h : Held) (a : List ℕ) (first page left i above pages missing : ℕ) → g' ≡ g → IsPath g' (Single i)
    → page_of g' (Single i) ≡ page → first ≤ page → above ≤ 3
    → above ≡ flag ((get_or a 10 0 == 0) && ((page == first) || (i == 0)))
    → IsRun h (block_numbers g) (get_or a 10 0) i left above pages missing → CountsRun g h a first page left pages missing
counts-single g g' h a first page left i above pages missing e is at low few up run =
    counts-below g a first page few run (λ holes counted.
    ap (λ z. z + holes) up
    ∙ run-single g g' h a first page i pages holes e is at low run.some (omega (arith, run.within, ap block_numbers e)) counted)

pub counts-double : (g g' : Geometry) (h : Held) (a : List ℕ) (first page left i j middle above pages missing : ℕ) → g' ≡ g
    → IsPath g' (Double i j) → page_of g' (Double i j) ≡ page → first ≤ page → above ≤ 3 → middle ≡ child h (get_or a 11 0) i
    → above ≡ flag ((get_or a 11 0 == 0) && ((page == first) || ((i == 0) && (j == 0)))) + flag
    ((middle == 0) && ((page == first) || (j == 0))) → IsRun h (block_numbers g) middle j left above pages missing
    → CountsRun g h a first page left pages missing
counts-double g g' h a first page left i j middle above pages missing e is at low few here up run =
    counts-below g a first page few run (λ holes counted.
    ap (λ z. z + holes) up
    ∙ run-double g g' h a first page i j pages middle holes e is at low run.some (omega (arith, run.within, ap block_numbers e)) here
    counted)

pub counts-triple : (g g' : Geometry) (h : Held) (a : List ℕ) (first page left i j k upper lower above pages missing : ℕ) → g' ≡ g
    → IsPath g' (Triple i j k) → page_of g' (Triple i j k) ≡ page → first ≤ page → above ≤ 3 → upper ≡ child h (get_or a 12 0) i
    → lower ≡ child h (child h (get_or a 12 0) i) j
    → above ≡ flag ((get_or a 12 0 == 0) && ((page == first) || ((i == 0) && ((j == 0) && (k == 0))))) + flag
    ((upper == 0) && ((page == first) || ((j == 0) && (k == 0)))) + flag ((lower == 0) && ((page == first) || (k == 0)))
    → IsRun h (block_numbers g) lower k left above pages missing → CountsRun g h a first page left pages missing
counts-triple g g' h a first page left i j k upper lower above pages missing e is at low few here there up run =
    counts-below g a first page few run (λ holes counted.
    ap (λ z. z + holes) up
    ∙ run-triple g g' h a first page i j k pages upper lower holes e is at low run.some (omega (arith, run.within, ap block_numbers e)) here
    there counted)

-- a run is the same after reads
pub run-since : {o o' : Origin} {h h' : Held} {b k left above pages missing : ℕ} → o' ≡ o → h' ≡ h
    → IsRun h' (block_numbers o'.sizes) b k left above pages missing → IsRun h (block_numbers o.sizes) b k left above pages missing
run-since {o} {o'} {h} {h'} {b} {k} {left} {above} {pages} {missing} p q run =
    let P : Origin → Type 0 = λ z. IsRun h (block_numbers z.sizes) b k left above pages missing in
    let Q : Held → Type 0 = λ z. IsRun z (block_numbers o'.sizes) b k left above pages missing in
    subst P p (subst Q q run)

pub counts-since : {o o' : Origin} {h h' : Held} {a : List ℕ} {first page left pages missing : ℕ} → o' ≡ o → h' ≡ h
    → CountsRun o'.sizes h' a first page left pages missing → CountsRun o.sizes h a first page left pages missing
counts-since {o} {o'} {h} {h'} {a} {first} {page} {left} {pages} {missing} p q run =
    let P : Origin → Type 0 = λ z. CountsRun z.sizes h a first page left pages missing in
    let Q : Held → Type 0 = λ z. CountsRun o'.sizes z a first page left pages missing in
    subst P p (subst Q q run)
