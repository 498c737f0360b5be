-- How many blocks the pages of a range need, counted page by page while they are made present.
use Rattle.std.proofs.Common.{◌≡◌, ◌≢◌, ◌≤◌, ◌<◌, ◌+◌, ◌-◌, ◌*◌, ◌/◌, ◌%◌, ◌==◌, ◌&&◌, ◌⊎◌, inl, inr, ℕ, zero, suc, Bool, true, false}
use Rattle.std.proofs.Common.{List, [], ◌∷◌, length, take, max, get_or, nat_le, Some, arith, refl, sym, ap, ◌∙◌, subst}
use Rattle.std.specs.List.{range_with_len, sum_by}
use Rattle.std.proofs.lemmas.Bool.{eqb-true}
use Rattle.std.proofs.lemmas.Bool.Decides.{nat_tests}
use Rattle.std.proofs.lemmas.List.Sums.{sum_by-cons}
use Rattle.std.proofs.lemmas.Nat.{div-mul-add, mod-mul-add}
use Rattle.std.proofs.Math.Nat.{mul-le-mul_right}
use Rattle.sv_form.specs.Geometry.{IsGeometry}
use Rattle.sv_form.specs.PagePath.{IsPage, IsPath, block_numbers, first_double, first_triple, page_limit, page_of}
use Rattle.sv_form.specs.declared.geometry.Geometry.{Geometry}
use Rattle.sv_form.specs.declared.page_path.PagePath.{PagePath}
use Rattle.sv_form.specs.declared.page_path.PagePath.TheVariants.{Direct, Single, Double, Triple}
use Rattle.sv_store.specs.Held.{Held, Origin, put}
use Rattle.sv_bmap.specs.Attach.{Attaches, page_places, page_slot}
use Rattle.sv_bmap.specs.Need.{counts_at, need_at, need_of}
use Rattle.sv_bmap.specs.Tree.{IsSpot, IsTree, block_at, child, down, page_block, path, places_of, slot_of}
use Rattle.sv_bmap.proofs.Empty.{down-hole}
use Rattle.sv_bmap.proofs.Gaps.{need-zeros, zeros}
use Rattle.sv_bmap.proofs.Hang.{New, became, front-spot, length-front}
use Rattle.sv_bmap.proofs.Needs.{count-four, count-one, count-three, count-two, flag, need-is, need-more, need-none, plus, row-grows}
use Rattle.sv_bmap.proofs.PageSpots.{path-spot}
use Rattle.sv_inode.specs.Contents.{block_of}
use Rattle.sv_inode.proofs.WrittenTree.{at-page, path-own, some-block, within-reach, written-spots}

no : (x y : ℕ) → (x == y) ≡ false → x ≢ y
no x y h = grind (nat_tests, arith)

differ : (x y : ℕ) → x ≢ y → (x == y) ≡ false
differ x y h = grind (nat_tests, arith)

alike : (x y : ℕ) → x ≡ y → (x == y) ≡ true
alike x y h = grind (nat_tests, arith)

-- ---- ranges

-- a range is cut in two: the second part counts what the first page of the whole range does not count
pub need-split : (g : Geometry) (h : Held) (a : List ℕ) (first n m : ℕ)
    → need_of g h a first (n + m) ≡ need_of g h a first n + sum_by (need_at g h a first) (range_with_len (first + n) m)
need-split g h a first n zero =
    let none : n + zero ≡ n = omega arith in
    let nothing : sum_by (need_at g h a first) [] ≡ 0 = refl in
    ap (need_of g h a first) none ∙ omega (arith, nothing)
need-split g h a first n (suc m) =
    let f : ℕ → ℕ = need_at g h a first in
    let turn : n + suc m ≡ n + 1 + m = omega arith in
    let at : first + (n + 1) ≡ first + n + 1 = omega arith in
    let rest : need_of g h a first (n + 1 + m) ≡ need_of g h a first (n + 1) + sum_by f (range_with_len (first + (n + 1)) m) =
    need-split g h a first (n + 1) m in
    let one : sum_by f ((first + n) ∷ range_with_len (first + n + 1) m) ≡ f (first + n) + sum_by f (range_with_len (first + n + 1) m) =
    sum_by-cons f (first + n) (range_with_len (first + n + 1) m) in
    ap (need_of g h a first) turn ∙ omega (arith, rest, one, need-more g h a first n, ap (λ q. sum_by f (range_with_len q m)) at)

-- fewer pages need no more
pub need-fewer : (g : Geometry) (h : Held) (a : List ℕ) (first n m : ℕ) → n ≤ m → need_of g h a first n ≤ need_of g h a first m
need-fewer g h a first n m low =
    let whole : n + (m - n) ≡ m = omega (arith, low) in
    omega (arith, ap (need_of g h a first) whole, need-split g h a first n (m - n))

-- ---- a page that is there

-- all blocks on the way to a block that is there are there
pub above-there : (h : Held) (b : ℕ) (ks : List ℕ) (m : ℕ) → down h b ks ≢ 0 → down h b (take m ks) ≢ 0
above-there h b [] zero there = there
above-there h b [] (suc m) there = there
above-there h b (k ∷ ks) zero there = λ e. there (down-hole h b (k ∷ ks) e)
above-there h b (k ∷ ks) (suc m) there = above-there h (child h b k) ks m there

no-zeros : (h : Held) (b : ℕ) (ks : List ℕ) → down h b ks ≢ 0 → zeros h b ks ≡ 0
no-zeros h b [] there = ap flag (differ b 0 there)
no-zeros h b (k ∷ ks) there = plus (ap flag (differ b 0 (λ e. there (down-hole h b (k ∷ ks) e)))) (no-zeros h (child h b k) ks there)

-- a page that is there needs nothing
pub need-nothing : (g : Geometry) (h : Held) (a : List ℕ) (page : ℕ) → IsGeometry g → IsPage g page → page_block g h a page ≢ 0
    → need_of g h a page 1 ≡ 0
need-nothing g h a page sizes is there =
    let own = path-own g page sizes (within-reach g page sizes is) in
    need-zeros g h a (path (block_numbers g) page) page own.0 own.1
    ∙ no-zeros h (get_or a (page_slot g page) 0) (page_places g page) (λ e. there (at-page g h a page ∙ e))

-- ---- where the blocks on the way to a page begin

-- the first page below the block that so many places on the way to a page lead to
abbrev begins : Geometry → PagePath → ℕ → ℕ
begins g (Direct i) m = page_of g (Direct i)
begins g (Single i) zero = page_of g (Single 0)
begins g (Single i) (suc m) = page_of g (Single i)
begins g (Double i j) zero = page_of g (Double 0 0)
begins g (Double i j) (suc zero) = page_of g (Double i 0)
begins g (Double i j) (suc (suc m)) = page_of g (Double i j)
begins g (Triple i j k) zero = page_of g (Triple 0 0 0)
begins g (Triple i j k) (suc zero) = page_of g (Triple i 0 0)
begins g (Triple i j k) (suc (suc zero)) = page_of g (Triple i j 0)
begins g (Triple i j k) (suc (suc (suc m))) = page_of g (Triple i j k)

-- the first page below its address
abbrev base : Geometry → PagePath → ℕ
base g (Direct i) = i
base g (Single i) = 10
base g (Double i j) = first_double (block_numbers g)
base g (Triple i j k) = first_triple (block_numbers g)

-- it is no later page
begins-low : (g : Geometry) (q : PagePath) (m : ℕ) → begins g q m ≤ page_of g q
begins-low g (Direct i) m = omega arith
begins-low g (Single i) zero = omega arith
begins-low g (Single i) (suc m) = omega arith
begins-low g (Double i j) zero = omega (arith, row-grows (block_numbers g) 0 0 i j (omega arith) (omega arith))
begins-low g (Double i j) (suc zero) = omega arith
begins-low g (Double i j) (suc (suc m)) = omega arith
begins-low g (Triple i j k) zero =
    omega (
      arith,
      row-grows (block_numbers g) (0 * block_numbers g + 0) 0 (i * block_numbers g + j) k
          (row-grows (block_numbers g) 0 0 i j (omega arith) (omega arith)) (omega arith),
    )
begins-low g (Triple i j k) (suc zero) =
    omega (arith, row-grows (block_numbers g) (i * block_numbers g + 0) 0 (i * block_numbers g + j) k (omega arith) (omega arith))
begins-low g (Triple i j k) (suc (suc zero)) = omega arith
begins-low g (Triple i j k) (suc (suc (suc m))) = omega arith

-- it is not before the first page below its address
begins-base : (g : Geometry) (q : PagePath) (m : ℕ) → base g q ≤ begins g q m
begins-base g (Direct i) m = omega arith
begins-base g (Single i) zero = omega arith
begins-base g (Single i) (suc m) = omega arith
begins-base g (Double i j) zero = omega arith
begins-base g (Double i j) (suc zero) = omega arith
begins-base g (Double i j) (suc (suc m)) = omega arith
begins-base g (Triple i j k) zero = omega arith
begins-base g (Triple i j k) (suc zero) = omega arith
begins-base g (Triple i j k) (suc (suc zero)) = omega arith
begins-base g (Triple i j k) (suc (suc (suc m))) = omega arith

-- a page before a page that a file may have is one too
pub page-before : (g : Geometry) (q page : ℕ) → q ≤ page → IsPage g page → IsPage g q
page-before g q page low is =
    (let less : q * g.block_size ≤ page * g.block_size = mul-le-mul_right g.block_size low in omega (arith, less, is))

pair-bound : (n i j : ℕ) → i < n → j < n → i * n + j < n * n
pair-bound n i j low high = grind arith

-- rows: i rows and j are more than k rows and l only where i is no less than k
row-low : (n i k l : ℕ) → i * n ≤ k * n + l → l < n → i ≤ k
row-low n i k l some low = by (nat_le i k) refl
  where
    by : (t : Bool) → nat_le i k ≡ t → i ≤ k
    by true e = grind (nat_tests, arith)
    by false e = (let more : suc k ≤ i = grind (nat_tests, arith) in let rows : suc k * n + 0 ≤ i * n + 0 = row-grows n (suc k) 0 i 0 more
        (omega arith) in let one : suc k * n ≡ k * n + n = grind arith in absurd (omega (arith, rows, one, some, low)))

row-same : (n i j k l : ℕ) → j < n → l < n → i * n + j ≡ k * n + l → (i ≡ k) × (j ≡ l)
row-same n i j k l p q e = (
  sym (div-mul-add i n j p) ∙ ap (λ (x : ℕ). x / n) e ∙ div-mul-add k n l q,
  sym (mod-mul-add i n j p) ∙ ap (λ (x : ℕ). x % n) e
      ∙ mod-mul-add k n l q,
)

-- a page between the beginning of a row and another page of it is in the row
row-between : (n i j k l : ℕ) → j < n → l < n → i * n ≤ k * n + l → k * n + l < i * n + j → k ≡ i
row-between n i j k l p q low high =
    let one : i ≤ k = row-low n i k l low q in
    let two : k ≤ i = row-low n k i j (omega (arith, high)) p in
    omega (arith, one, two)

-- A block that begins at or before page p and stands above a later page q stands above p too: the way to p goes by it.
climbs : (g : Geometry) (q p : PagePath) → IsPath g q → IsPath g p → (m : ℕ) → begins g q m ≤ page_of g p → page_of g p < page_of g q
    → (slot_of q ≡ slot_of p) × (take m (places_of q) ≡ take m (places_of p))
climbs g (Direct j) p is also m low high = absurd (omega (arith, low, high))
climbs g (Single j) (Direct i) is also zero low high = absurd (omega (arith, low, also))
climbs g (Single j) (Direct i) is also (suc m) low high = absurd (omega (arith, low, high))
climbs g (Single j) (Single i) is also zero low high = (refl, refl)
climbs g (Single j) (Single i) is also (suc m) low high = absurd (omega (arith, low, high))
climbs g (Single j) (Double i k) is also m low high = absurd (omega (arith, high, is))
climbs g (Single j) (Triple i k l) is also m low high = absurd (omega (arith, high, is))
climbs g (Double j k) (Direct i) is also m low high = absurd (omega (arith, begins-base g (Double j k) m, low, also))
climbs g (Double j k) (Single i) is also m low high = absurd (omega (arith, begins-base g (Double j k) m, low, also))
climbs g (Double j k) (Double i l) is also zero low high = (refl, refl)
climbs g (Double j k) (Double i l) is also (suc zero) low high =
    let n : ℕ = block_numbers g in
    let same : i ≡ j = row-between n j k i l is.1 also.1 (omega (arith, low)) (omega (arith, high)) in
    (refl, ap (λ x. x ∷ []) (sym same))
climbs g (Double j k) (Double i l) is also (suc (suc m)) low high = absurd (omega (arith, low, high))
climbs g (Double j k) (Triple i l u) is also m low high = absurd (omega (arith, high, pair-bound (block_numbers g) j k is.0 is.1))
climbs g (Triple j k l) (Direct i) is also m low high = absurd (omega (arith, begins-base g (Triple j k l) m, low, also))
climbs g (Triple j k l) (Single i) is also m low high = absurd (omega (arith, begins-base g (Triple j k l) m, low, also))
climbs g (Triple j k l) (Double i u) is also m low high =
    absurd (omega (arith, begins-base g (Triple j k l) m, low, pair-bound (block_numbers g) i u also.0 also.1))
climbs g (Triple j k l) (Triple i u v) is also zero low high = (refl, refl)
climbs g (Triple j k l) (Triple i u v) is also (suc zero) low high =
    let n : ℕ = block_numbers g in
    let rows : j * n + 0 ≤ i * n + u = row-low n (j * n + 0) (i * n + u) v (omega (arith, low)) also.2 in
    let less : i * n + u ≤ j * n + k = row-low n (i * n + u) (j * n + k) l (omega (arith, high)) is.2 in
    let one : j ≤ i = row-low n j i u (omega (arith, rows)) also.1 in
    let two : i ≤ j = row-low n i j k (omega (arith, less)) is.1 in
    let same : j ≡ i = omega (arith, one, two) in
    (refl, ap (λ x. x ∷ []) same)
climbs g (Triple j k l) (Triple i u v) is also (suc (suc zero)) low high =
    let n : ℕ = block_numbers g in
    let same : i * n + u ≡ j * n + k = row-between n (j * n + k) l (i * n + u) v is.2 also.2 (omega (arith, low)) (omega (arith, high)) in
    let each = row-same n i u j k also.1 is.1 same in
    (refl, ap (λ x. x ∷ k ∷ []) (sym each.0) ∙ ap (λ x. i ∷ x ∷ []) (sym each.1))
climbs g (Triple j k l) (Triple i u v) is also (suc (suc (suc m))) low high = absurd (omega (arith, low, high))

-- a block on the way to page p begins at or before p
on-way-low : (g : Geometry) (q p : PagePath) → IsPath g q → IsPath g p → (m : ℕ) → slot_of q ≡ slot_of p
    → take m (places_of q) ≡ take (length (take m (places_of q))) (places_of p) → begins g q m ≤ page_of g p
on-way-low g (Direct j) (Direct i) is also m e f = omega (arith, e)
on-way-low g (Direct j) (Single i) is also m e f = absurd (omega (arith, is, e))
on-way-low g (Direct j) (Double i k) is also m e f = absurd (omega (arith, is, e))
on-way-low g (Direct j) (Triple i k l) is also m e f = absurd (omega (arith, is, e))
on-way-low g (Single j) (Direct i) is also m e f = absurd (omega (arith, also, e))
on-way-low g (Single j) (Single i) is also zero e f = omega arith
on-way-low g (Single j) (Single i) is also (suc m) e f = omega (arith, ap (λ x. get_or x 0 0) f)
on-way-low g (Single j) (Double i k) is also m e f = absurd (omega (arith, e))
on-way-low g (Single j) (Triple i k l) is also m e f = absurd (omega (arith, e))
on-way-low g (Double j k) (Direct i) is also m e f = absurd (omega (arith, also, e))
on-way-low g (Double j k) (Single i) is also m e f = absurd (omega (arith, e))
on-way-low g (Double j k) (Double i l) is also zero e f = omega (arith, row-grows (block_numbers g) 0 0 i l (omega arith) (omega arith))
on-way-low g (Double j k) (Double i l) is also (suc zero) e f =
    let same : j ≡ i = ap (λ x. get_or x 0 0) f in
    omega (arith, row-grows (block_numbers g) j 0 i l (omega (arith, same)) (omega arith))
on-way-low g (Double j k) (Double i l) is also (suc (suc m)) e f =
    let one : j ≡ i = ap (λ x. get_or x 0 0) f in
    let two : k ≡ l = ap (λ x. get_or x 1 0) f in
    omega (arith, row-grows (block_numbers g) j k i l (omega (arith, one)) (omega (arith, two)))
on-way-low g (Double j k) (Triple i l u) is also m e f = absurd (omega (arith, e))
on-way-low g (Triple j k l) (Direct i) is also m e f = absurd (omega (arith, also, e))
on-way-low g (Triple j k l) (Single i) is also m e f = absurd (omega (arith, e))
on-way-low g (Triple j k l) (Double i u) is also m e f = absurd (omega (arith, e))
on-way-low g (Triple j k l) (Triple i u v) is also zero e f =
    let n : ℕ = block_numbers g in
    omega (arith, row-grows n (0 * n + 0) 0 (i * n + u) v (row-grows n 0 0 i u (omega arith) (omega arith)) (omega arith))
on-way-low g (Triple j k l) (Triple i u v) is also (suc zero) e f =
    let n : ℕ = block_numbers g in
    let one : j ≡ i = ap (λ x. get_or x 0 0) f in
    omega (arith, row-grows n (j * n + 0) 0 (i * n + u) v (row-grows n j 0 i u (omega (arith, one)) (omega arith)) (omega arith))
on-way-low g (Triple j k l) (Triple i u v) is also (suc (suc zero)) e f =
    let n : ℕ = block_numbers g in
    let one : j ≡ i = ap (λ x. get_or x 0 0) f in
    let two : k ≡ u = ap (λ x. get_or x 1 0) f in
    omega (arith, row-grows n (j * n + k) 0 (i * n + u) v (row-grows n j k i u (omega (arith, one)) (omega (arith, two))) (omega arith))
on-way-low g (Triple j k l) (Triple i u v) is also (suc (suc (suc m))) e f =
    let n : ℕ = block_numbers g in
    let one : j ≡ i = ap (λ x. get_or x 0 0) f in
    let two : k ≡ u = ap (λ x. get_or x 1 0) f in
    let three : l ≡ v = ap (λ x. get_or x 2 0) f in
    omega (
      arith,
      row-grows n (j * n + k) l (i * n + u) v (row-grows n j k i u (omega (arith, one)) (omega (arith, two)))
          (omega (arith, three)),
    )

-- ---- the pages after one that is there now

and-false : (t : Bool) → (t && false) ≡ false
and-false true = refl
and-false false = refl

-- A block on the way to a later page: it is counted from the next page on where it was counted before.
same-step : (first page from old now : ℕ) → first < page → from ≤ page → (from ≡ page → old ≡ now) → (from ≤ first → now ≢ 0)
    → flag (counts_at first page (record { from = from; block = old })) ≡ flag
    (counts_at (suc first) page (record { from = from; block = now }))
same-step first page from old now later low stays there = by (from == page) refl
  where
    least : (a b : ℕ) → nat_le a b ≡ true → a ≤ b
    least a b e = grind (nat_tests, arith)

    more : (a b : ℕ) → nat_le a b ≡ false → b < a
    more a b e = grind (nat_tests, arith)

    none : (a c : ℕ) → c ≢ page → flag ((a == 0) && (c == page)) ≡ 0
    none a c apart = ap (λ q. flag ((a == 0) && q)) (differ c page apart) ∙ ap flag (and-false (a == 0))

    by : (t : Bool) → (from == page) ≡ t
        → flag ((old == 0) && (max first from == page)) ≡ flag ((now == 0) && (max (suc first) from == page))
    by true e =
        (let at : from ≡ page = eqb-true from page e in
        ap (λ q. flag ((q == 0) && (max first from == page))) (stays at)
        ∙ (ap (λ q. flag ((now == 0) && q)) (alike (max first from) page (omega (arith, at, later)))
        ∙ ap (λ q. flag ((now == 0) && q)) (sym (alike (max (suc first) from) page (omega (arith, at, later))))))
    by false e = none old (max first from) (λ z. (let apart : from ≢ page = no from page e in absurd (omega (arith, z, later))))
        ∙ sym (rest (nat_le from first) refl)
      where
        rest : (u : Bool) → nat_le from first ≡ u → flag ((now == 0) && (max (suc first) from == page)) ≡ 0
        rest true f = ap (λ q. flag (q && (max (suc first) from == page))) (differ now 0 (there (least from first f)))
        rest false f =
            none now (max (suc first) from)
            (λ z. (let apart : from ≢ page = no from page e in let past : first < from = more from first f in absurd
            (omega (arith, z, past))))

-- the spot is not on the way to this page
abbrev IsOff : PagePath → ℕ → List ℕ → Type 0
IsOff p t ks = t ≡ slot_of p → ks ≢ take (length ks) (places_of p)

module _ (g : Geometry) (h new : Held) (a b : List ℕ) (p : PagePath) (path-p : IsPath g p)
    (there : block_at new b (slot_of p) (places_of p) ≢ 0)
    (stays : (t : ℕ) (ks : List ℕ) → IsSpot (block_numbers g) t ks → IsOff p t ks → block_at new b t ks ≡ block_at h a t ks) where
  module _ (q : PagePath) (path-q : IsPath g q) (later : page_of g p < page_of g q) where
    step-same : (m : ℕ) → m ≤ length (places_of q)
        → flag (counts_at (page_of g p) (page_of g q)
        (record { from = begins g q m; block = block_at h a (slot_of q) (take m (places_of q)) })) ≡ flag
        (counts_at (suc (page_of g p)) (page_of g q)
        (record { from = begins g q m; block = block_at new b (slot_of q) (take m (places_of q)) }))
    step-same m low =
        same-step (page_of g p) (page_of g q) (begins g q m) (block_at h a (slot_of q) ks) (block_at new b (slot_of q) ks) later
        (begins-low g q m)
        (λ e. sym (stays (slot_of q) ks (front-spot (places_of q) m low (path-spot g q path-q))
        (λ one two. absurd (omega (arith, e, later, on-way-low g q p path-q path-p m one two)))))
        (λ early. present (climbs g q p path-q path-p m early later))
      where
        ks : List ℕ
        ks = take m (places_of q)

        present : (slot_of q ≡ slot_of p) × (ks ≡ take m (places_of p)) → block_at new b (slot_of q) ks ≢ 0
        present same e =
            above-there new (get_or b (slot_of p) 0) (places_of p) m there
            (sym (ap (λ t. block_at new b t (take m (places_of p))) same.0) ∙ (sym (ap (block_at new b (slot_of q)) same.1) ∙ e))

  page-same : (q : PagePath) → IsPath g q → page_of g p < page_of g q
      → need_at g h a (page_of g p) (page_of g q) ≡ need_at g new b (suc (page_of g p)) (page_of g q)
  page-same (Direct i) is later =
      need-is g g h a (Direct i) (page_of g p) (page_of g (Direct i)) refl is refl
      ∙ (count-one (counts_at (page_of g p) (page_of g (Direct i))) _
      ∙ (step-same (Direct i) is later 0 (omega arith)
      ∙ sym (need-is g g new b (Direct i) (suc (page_of g p)) (page_of g (Direct i)) refl is refl
      ∙ count-one (counts_at (suc (page_of g p)) (page_of g (Direct i))) _)))
  page-same (Single i) is later =
      need-is g g h a (Single i) (page_of g p) (page_of g (Single i)) refl is refl
      ∙ (count-two (counts_at (page_of g p) (page_of g (Single i))) _ _
      ∙ (plus (step-same (Single i) is later 0 (omega arith)) (step-same (Single i) is later 1 (omega arith))
      ∙ sym (need-is g g new b (Single i) (suc (page_of g p)) (page_of g (Single i)) refl is refl
      ∙ count-two (counts_at (suc (page_of g p)) (page_of g (Single i))) _ _)))
  page-same (Double i j) is later =
      need-is g g h a (Double i j) (page_of g p) (page_of g (Double i j)) refl is refl
      ∙ (count-three (counts_at (page_of g p) (page_of g (Double i j))) _ _ _
      ∙ (plus (step-same (Double i j) is later 0 (omega arith))
      (plus (step-same (Double i j) is later 1 (omega arith)) (step-same (Double i j) is later 2 (omega arith)))
      ∙ sym (need-is g g new b (Double i j) (suc (page_of g p)) (page_of g (Double i j)) refl is refl
      ∙ count-three (counts_at (suc (page_of g p)) (page_of g (Double i j))) _ _ _)))
  page-same (Triple i j k) is later =
      need-is g g h a (Triple i j k) (page_of g p) (page_of g (Triple i j k)) refl is refl
      ∙ (count-four (counts_at (page_of g p) (page_of g (Triple i j k))) _ _ _ _
      ∙ (plus (step-same (Triple i j k) is later 0 (omega arith))
      (plus (step-same (Triple i j k) is later 1 (omega arith))
      (plus (step-same (Triple i j k) is later 2 (omega arith)) (step-same (Triple i j k) is later 3 (omega arith))))
      ∙ sym (need-is g g new b (Triple i j k) (suc (page_of g p)) (page_of g (Triple i j k)) refl is refl
      ∙ count-four (counts_at (suc (page_of g p)) (page_of g (Triple i j k))) _ _ _ _)))

-- a spot is not on the way to a page, by the page's number
abbrev pub IsOffPage : Geometry → ℕ → ℕ → List ℕ → Type 0
IsOffPage g page t ks = t ≡ page_slot g page → ks ≢ take (length ks) (page_places g page)

-- The first page of a range is there now, and what is not on its way stays: what the whole range needed is what this page
-- needed, and what the other pages need now.
pub need-next : (g : Geometry) (h new : Held) (a b : List ℕ) (first n : ℕ) → IsGeometry g → first + n < page_limit (block_numbers g)
    → page_block g new b first ≢ 0
    → ((t : ℕ) (ks : List ℕ) → IsSpot (block_numbers g) t ks → IsOffPage g first t ks → block_at new b t ks ≡ block_at h a t ks)
    → need_of g h a first (suc n) ≡ need_of g h a first 1 + need_of g new b (suc first) n
need-next g h new a b first zero sizes reach there stays = omega (arith, need-none g new b (suc first))
need-next g h new a b first (suc n) sizes reach there stays =
    let rest : need_of g h a first (suc n) ≡ need_of g h a first 1 + need_of g new b (suc first) n = need-next g h new a b first n sizes
    (omega (arith, reach)) there stays in
    let turn : suc (suc n) ≡ suc n + 1 = omega arith in
    let last : suc n ≡ n + 1 = omega arith in
    let at : suc first + n ≡ first + suc n = omega arith in
    ap (need_of g h a first) turn
    ∙ omega (
      arith,
      rest,
      need-more g h a first (suc n),
      ap (need_of g new b (suc first)) last,
      need-more g new b (suc first) n,
      ap (need_at g new b (suc first)) at,
      same,
    )
  where
    one : IsPath g (path (block_numbers g) first) × (page_of g (path (block_numbers g) first) ≡ first)
    one = path-own g first sizes (omega (arith, reach))

    two : IsPath g (path (block_numbers g) (first + suc n)) × (page_of g (path (block_numbers g) (first + suc n)) ≡ first + suc n)
    two = path-own g (first + suc n) sizes reach

    paths : need_at g h a (page_of g (path (block_numbers g) first)) (page_of g (path (block_numbers g) (first + suc n))) ≡ need_at g new b
        (suc (page_of g (path (block_numbers g) first))) (page_of g (path (block_numbers g) (first + suc n)))
    paths = page-same g h new a b (path (block_numbers g) first) one.0 (λ e. there (at-page g new b first ∙ e)) stays
        (path (block_numbers g) (first + suc n)) two.0 (omega (arith, one.1, two.1))

    same : need_at g h a first (first + suc n) ≡ need_at g new b (suc first) (first + suc n)
    same =
        (let P : ℕ → Type 0 = λ x. need_at g h a x (page_of g (path (block_numbers g) (first + suc n))) ≡ need_at g new b (suc x)
        (page_of g (path (block_numbers g) (first + suc n))) in
        let Q : ℕ → Type 0 = λ x. need_at g h a first x ≡ need_at g new b (suc first) x in
        subst Q two.1 (subst P one.1 paths))

-- the first page of a range was written in place
pub need-written : {o : Origin} {h new : Held} {a : List ℕ} {p : ℕ} (bytes : List ℕ) (first n : ℕ) → IsGeometry o.sizes
    → IsPage o.sizes (first + n) → IsTree o h a → block_of o.sizes h a first ≡ Some p → new ≡ put p bytes h
    → need_of o.sizes h a first (suc n) ≡ need_of o.sizes new a (suc first) n
need-written {o} {h} {new} {a} {p} bytes first n sizes is tree block puts =
    omega (
      arith,
      need-next g h new a a first n sizes (within-reach g (first + n) sizes is) there (λ t ks spot off. same t ks spot),
      need-nothing g h a first sizes is-first (λ e. some.1 (sym some.0 ∙ e)),
    )
  where
    g : Geometry
    g = o.sizes

    is-first : IsPage g first
    is-first = page-before g first (first + n) (omega arith) is

    some : (page_block g h a first ≡ p) × (p ≢ 0)
    some = some-block g h a first p block

    same : (t : ℕ) (ks : List ℕ) → IsSpot (block_numbers g) t ks → block_at new a t ks ≡ block_at h a t ks
    same t ks spot = written-spots first bytes sizes is-first tree block puts t ks spot

    there : page_block g new a first ≢ 0
    there e =
        (let own = path-own g first sizes (within-reach g first sizes is-first) in
        some.1 (sym some.0 ∙ (at-page g h a first
        ∙ (sym (same (page_slot g first) (page_places g first) (path-spot g (path (block_numbers g) first) own.0))
        ∙ (sym (at-page g new a first) ∙ e)))))

-- the first page of a range was attached
pub need-attached : {o : Origin} {h new : Held} {a b : List ℕ} {blocks : List ℕ} {parts : List Held} {bytes : List ℕ} (first n : ℕ)
    → IsGeometry o.sizes → IsPage o.sizes (first + n) → IsTree o h a → length blocks ≡ need_of o.sizes h a first 1
    → Attaches o h new a b first blocks parts bytes
    → need_of o.sizes h a first (suc n) ≡ length blocks + need_of o.sizes new b (suc first) n
need-attached {o} {h} {new} {a} {b} {blocks} first n sizes is tree count attaches =
    omega (arith, count, need-next g h new a b first n sizes (within-reach g (first + n) sizes is) there stays)
  where
    g : Geometry
    g = o.sizes

    places : List ℕ
    places = page_places g first

    above : ℕ
    above = length places + 1 - length blocks

    there : page_block g new b first ≢ 0
    there e = attaches.hangs.named (length blocks - 1) (omega (arith, attaches.hangs.some)) (sym attaches.block ∙ e)

    stays : (t : ℕ) (ks : List ℕ) → IsSpot (block_numbers g) t ks → IsOffPage g first t ks → block_at new b t ks ≡ block_at h a t ks
    stays t ks spot off = by (became attaches.hangs tree (length ks) t ks refl spot)
      where
        by : (block_at new b t ks ≡ block_at h a t ks) ⊎ ((i : ℕ) × New attaches.hangs t ks i) → block_at new b t ks ≡ block_at h a t ks
        by (inl was) = was
        by (inr is) =
            (let long : length ks ≡ above + is.0 = ap length is.1.on
            ∙ length-front places (above + is.0) (omega (arith, is.1.low, attaches.hangs.shape)) in
            absurd (off is.1.same (is.1.on ∙ ap (λ m. take m places) (sym long))))

-- ---- a range of which the first pages are done

-- So many pages of the range are present, and took so many blocks: what any number of its pages needed in the tree as it was
-- is what was taken, and what the pages after those need in the tree as it is.
pub record NeedsLeft (g : Geometry) (was : Held) (old : List ℕ) (first count done taken : ℕ) (h : Held) (a : List ℕ) : Type 0 where
  pub at : (n : ℕ) → done + n ≤ count → need_of g was old first (done + n) ≡ taken + need_of g h a (first + done) n

-- the next page takes no more than is left
pub needs-next : {g : Geometry} {was h : Held} {old a : List ℕ} {first count done taken : ℕ}
    → NeedsLeft g was old first count done taken h a → done < count → taken + need_of g h a (first + done) 1 ≤ need_of g was old first count
needs-next {g} {was} {h} {old} {a} {first} {count} {done} {taken} left low =
    omega (arith, left.at 1 (omega (arith, low)), need-fewer g was old first (done + 1) count (omega (arith, low)))
