-- The blocks of an address tree as a list: each block of the tree stands in it once, and nothing else does.
use Rattle.std.proofs.Common.{◌≡◌, ◌≢◌, ◌≤◌, ◌<◌, ◌+◌, ◌-◌, ◌++◌, ◌==◌, ℕ, zero, suc, Bool, true, false, cond, List, [], ◌∷◌, length}
use Rattle.std.proofs.Common.{get_or, nat_lt, ap, refl, sym, ◌∙◌, subst, arith}
use Rattle.std.specs.List.{flat_map, range_with_len}
use Rattle.std.proofs.lemmas.Bool.{eqb-true}
use Rattle.std.proofs.lemmas.Bool.Decides.{nat_tests}
use Rattle.std.proofs.lemmas.List.{flat_map_more}
use Rattle.sv_form.proofs.OwnerLemmas.{range_more}
use Rattle.sv_form.specs.Geometry.{IsDataBlock, IsGeometry}
use Rattle.sv_form.specs.PagePath.{block_numbers}
use Rattle.sv_form.specs.declared.geometry.Geometry.{Geometry}
use Rattle.sv_store.specs.Held.{Held, Origin, HoldsBlock}
use Rattle.sv_bmap.specs.Order.{blocks_below, blocks_of}
use Rattle.sv_bmap.specs.Tree.{IsSpot, IsTree, block_at, child, down}
use Rattle.sv_bmap.proofs.Empty.{down-hole}
use Rattle.sv_bmap.proofs.Paths.{child-hole}
use Rattle.sv_bmap.proofs.Orders.{below-hole, below-there, page-below}
use Rattle.sv_super.specs.Count.{one_if, sum_below, times}
use Rattle.sv_super.proofs.Counts.{apart, few, one-le, sum-more, sum-zero, times-append, times-cons, times-nil, times-snoc}
use Rattle.sv_inode.specs.StandsFor.{HasDataBlocks}
use Rattle.sv_inode.specs.Truncate.{AreBlocks}

is-none : (n : ℕ) → nat_lt 0 n ≡ false → n ≡ 0
is-none n h = grind (nat_tests, arith)

is-more : (n : ℕ) → nat_lt 0 n ≡ true → 0 < n
is-more n h = grind (nat_tests, arith)

-- ---- sums

sum-some : (n : ℕ) (f : ℕ → ℕ) → 0 < sum_below n f → (k : ℕ) × ((k < n) × (0 < f k))
unfolding sum_below
sum-some zero f is = absurd (omega (arith, is))
sum-some (suc n) f is = by (nat_lt 0 (f n)) refl (sum-some n f)
  where
    by : (t : Bool) → nat_lt 0 (f n) ≡ t → (0 < sum_below n f → (k : ℕ) × ((k < n) × (0 < f k))) → (k : ℕ) × ((k < suc n) × (0 < f k))
    by true e rest = (n, (omega arith, is-more (f n) e))
    by false e rest = (let q = rest (omega (arith, is, is-none (f n) e)) in (q.0, (omega (arith, q.1.0), q.1.1)))

sum-once : (n : ℕ) (f : ℕ → ℕ) → ((k : ℕ) → k < n → f k ≤ 1) → ((k j : ℕ) → k < n → j < n → 0 < f k → 0 < f j → k ≡ j) → sum_below n f ≤ 1
unfolding sum_below
sum-once zero f each same = omega arith
sum-once (suc n) f each same =
    by (nat_lt 0 (f n)) refl (nat_lt 0 (sum_below n f)) refl
    (sum-once n f (λ k low. each k (omega (arith, low))) (λ k j low below. same k j (omega (arith, low)) (omega (arith, below))))
    (sum-some n f)
  where
    by : (t : Bool) → nat_lt 0 (f n) ≡ t → (u : Bool) → nat_lt 0 (sum_below n f) ≡ u → sum_below n f ≤ 1
        → (0 < sum_below n f → (k : ℕ) × ((k < n) × (0 < f k))) → sum_below n f + f n ≤ 1
    by false e u d few_of more = omega (arith, few_of, is-none (f n) e)
    by true e false d few_of more = omega (arith, is-none (sum_below n f) d, each n (omega arith))
    by true e true d few_of more =
        (let q = more (is-more (sum_below n f) d) in
        absurd (omega (arith, same q.0 n (omega (arith, q.1.0)) (omega arith) q.1.1 (is-more (f n) e), q.1.0)))

sum-least : (n : ℕ) (f : ℕ → ℕ) (k : ℕ) → k < n → f k ≤ sum_below n f
unfolding sum_below
sum-least zero f k low = absurd (omega (arith, low))
sum-least (suc n) f k low = by (k == n) refl (sum-least n f k)
  where
    by : (t : Bool) → (k == n) ≡ t → (k < n → f k ≤ sum_below n f) → f k ≤ sum_below n f + f n
    by true e rest = omega (arith, ap f (eqb-true k n e))
    by false e rest = (let differs : k ≢ n = apart k n e in omega (arith, rest (omega (arith, low))))

flat-sum : (b : ℕ) (f : ℕ → List ℕ) (n : ℕ) → times b (flat_map f (range_with_len 0 n)) ≡ sum_below n (λ k. times b (f k))
flat-sum b f zero = times-nil b ∙ sym (sum-zero (λ k. times b (f k)))
flat-sum b f (suc n) =
    let e : suc n ≡ n + 1 = omega arith in
    let at : 0 + n ≡ n = omega arith in
    let more : flat_map f (range_with_len 0 (suc n)) ≡ flat_map f (range_with_len 0 n) ++ f n =
    ap (λ q. flat_map f (range_with_len 0 q)) e
    ∙ (ap (flat_map f) (range_more 0 n)
    ∙ (ap (λ q. flat_map f (range_with_len 0 n ++ q ∷ [])) at ∙ sym (flat_map_more f [] (range_with_len 0 n) n))) in
    let rest = flat-sum b f n in
    ap (times b) more
    ∙ (times-append b (flat_map f (range_with_len 0 n)) (f n)
    ∙ (ap (λ q. q + times b (f n)) rest ∙ (sym (sum-more n (λ k. times b (f k))) ∙ ap (λ q. sum_below q (λ k. times b (f k))) (sym e))))

-- ---- the blocks below one

-- places on the way down from a block with so many indirect blocks
record IsWay (n d : ℕ) (ks : List ℕ) : Type 0 where
  pub deep : length ks ≤ d
  pub places : (i : ℕ) → i < length ks → get_or ks i 0 < n

no-way : (n d : ℕ) → IsWay n d []
no-way n d = record { deep = omega arith; places = λ i low. absurd (omega (arith, low)) }

way-cons : (n d k : ℕ) (ks : List ℕ) → k < n → IsWay n d ks → IsWay n (suc d) (k ∷ ks)
way-cons n d k ks low way = record { deep = omega (arith, way.deep); places = places }
  where
    places : (i : ℕ) → i < length (k ∷ ks) → get_or (k ∷ ks) i 0 < n
    places zero inside = low
    places (suc m) inside = way.places m (omega (arith, inside))

-- block b is where a way from r leads
abbrev IsBelow : ℕ → Held → ℕ → ℕ → ℕ → Type 0
IsBelow n h d r b = (ks : List ℕ) × (IsWay n d ks × ((down h r ks ≡ b) × (b ≢ 0)))

times-one : (b x : ℕ) → times b (x ∷ []) ≡ one_if (x == b)
times-one b x = times-cons b x [] ∙ (ap (λ q. one_if (x == b) + q) (times-nil b) ∙ omega arith)

times-below : (n : ℕ) (h : Held) (d r b : ℕ) → r ≢ 0
    → times b (blocks_below n h (suc d) r) ≡ sum_below n (λ k. times b (blocks_below n h d (child h r k))) + one_if (r == b)
times-below n h d r b some =
    ap (times b) (below-there n h d r some)
    ∙ (times-snoc b r (flat_map (λ k. blocks_below n h d (child h r k)) (range_with_len 0 n))
    ∙ ap (λ q. q + one_if (r == b)) (flat-sum b (λ k. blocks_below n h d (child h r k)) n))

times-hole : (n : ℕ) (h : Held) (d r b : ℕ) → r ≡ 0 → times b (blocks_below n h (suc d) r) ≡ 0
times-hole n h d r b e = ap (times b) (below-hole n h d r e) ∙ times-nil b

times-page : (n : ℕ) (h : Held) (r b : ℕ) (t : Bool) → (r == 0) ≡ t → times b (blocks_below n h 0 r) ≡ cond t 0 (one_if (r == b))
times-page n h r b true e = ap (times b) (page-below n h r ∙ ap (λ q. cond q [] (r ∷ [])) e) ∙ times-nil b
times-page n h r b false e = ap (times b) (page-below n h r ∙ ap (λ q. cond q [] (r ∷ [])) e) ∙ times-one b r

below-some : (n : ℕ) (h : Held) (d r b : ℕ) → 0 < times b (blocks_below n h d r) → IsBelow n h d r b
below-some n h zero r b is = by (r == 0) refl (r == b) refl
  where
    by : (t : Bool) → (r == 0) ≡ t → (u : Bool) → (r == b) ≡ u → IsBelow n h zero r b
    by true e u d = absurd (omega (arith, is, times-page n h r b true e))
    by false e false d = absurd (omega (arith, is, times-page n h r b false e ∙ ap one_if d))
    by false e true d = ([], (no-way n 0, (eqb-true r b d, λ q. apart r 0 e (eqb-true r b d ∙ q))))
below-some n h (suc d) r b is = by (r == 0) refl (r == b) refl (λ k. below-some n h d (child h r k) b)
  where
    by : (t : Bool) → (r == 0) ≡ t → (u : Bool) → (r == b) ≡ u
        → ((k : ℕ) → 0 < times b (blocks_below n h d (child h r k)) → IsBelow n h d (child h r k) b) → IsBelow n h (suc d) r b
    by true e u q rest = absurd (omega (arith, is, times-hole n h d r b (eqb-true r 0 e)))
    by false e true q rest = ([], (no-way n (suc d), (eqb-true r b q, λ z. apart r 0 e (eqb-true r b q ∙ z))))
    by false e false q rest =
        (let all : times b (blocks_below n h (suc d) r) ≡ sum_below n (λ k. times b (blocks_below n h d (child h r k))) + 0 =
        times-below n h d r b (apart r 0 e) ∙ ap (λ z. sum_below n (λ k. times b (blocks_below n h d (child h r k))) + one_if z) q in
        let at = sum-some n (λ k. times b (blocks_below n h d (child h r k))) (omega (arith, is, all)) in
        let one = rest at.0 at.1.1 in
        (at.0 ∷ one.0, (way-cons n d at.0 one.0 at.1.0 one.1.0, (one.1.1.0, one.1.1.1))))

-- no two ways lead to one block
abbrev IsOnce : ℕ → Held → ℕ → ℕ → Type 0
IsOnce n h d r = (ks js : List ℕ) → IsWay n d ks → IsWay n d js → down h r ks ≢ 0 → down h r ks ≡ down h r js → ks ≡ js

below-once : (n : ℕ) (h : Held) (d r b : ℕ) → IsOnce n h d r → times b (blocks_below n h d r) ≤ 1
below-once n h zero r b once = by (r == 0) refl
  where
    by : (t : Bool) → (r == 0) ≡ t → times b (blocks_below n h zero r) ≤ 1
    by true e = omega (arith, times-page n h r b true e)
    by false e = omega (arith, times-page n h r b false e, one-le (r == b))
below-once n h (suc d) r b once = by (r == 0) refl (r == b) refl (λ k. below-once n h d (child h r k) b)
  where
    g : ℕ → ℕ
    g k = times b (blocks_below n h d (child h r k))

    by : (t : Bool) → (r == 0) ≡ t → (u : Bool) → (r == b) ≡ u
        → ((k : ℕ) → IsOnce n h d (child h r k) → times b (blocks_below n h d (child h r k)) ≤ 1) → times b (blocks_below n h (suc d) r) ≤ 1
    by true e u q rest = omega (arith, times-hole n h d r b (eqb-true r 0 e))
    by false e u q rest = finish u q
      where
        all : times b (blocks_below n h (suc d) r) ≡ sum_below n g + one_if (r == b)
        all = times-below n h d r b (apart r 0 e)

        each : (k : ℕ) → k < n → g k ≤ 1
        each k low =
            rest k
            (λ ks js way other some same. ap (λ z. drop_first z)
            (once (k ∷ ks) (k ∷ js) (way-cons n d k ks low way) (way-cons n d k js low other) some same))
          where
            drop_first : List ℕ → List ℕ
            drop_first [] = []
            drop_first (x ∷ xs) = xs

        same_place : (k j : ℕ) → k < n → j < n → 0 < g k → 0 < g j → k ≡ j
        same_place k j low below one two =
            (let p = below-some n h d (child h r k) b one in
            let s = below-some n h d (child h r j) b two in
            ap (λ z. get_or z 0 0)
            (once (k ∷ p.0) (j ∷ s.0) (way-cons n d k p.0 low p.1.0) (way-cons n d j s.0 below s.1.0) (λ z. p.1.1.1 (sym p.1.1.0 ∙ z))
            (p.1.1.0 ∙ sym s.1.1.0)))

        finish : (u : Bool) → (r == b) ≡ u → times b (blocks_below n h (suc d) r) ≤ 1
        finish false z = omega (arith, all, ap one_if z, sum-once n g each same_place)
        finish true z = omega (arith, all, ap one_if z, none (nat_lt 0 (sum_below n g)) refl)
          where
            none : (t : Bool) → nat_lt 0 (sum_below n g) ≡ t → sum_below n g ≡ 0
            none false w = is-none (sum_below n g) w
            none true w =
                (let at = sum-some n g (is-more (sum_below n g) w) in
                let p = below-some n h d (child h r at.0) b at.1.1 in
                let clash : at.0 ∷ p.0 ≡ [] = once (at.0 ∷ p.0) [] (way-cons n d at.0 p.0 at.1.0 p.1.0) (no-way n (suc d))
                (λ y. p.1.1.1 (sym p.1.1.0 ∙ y)) (p.1.1.0 ∙ sym (eqb-true r b z)) in
                absurd (omega (arith, ap length clash)))

-- ---- the whole tree

-- how often a block stands below each of the thirteen addresses
abbrev below_slot : ℕ → Held → List ℕ → ℕ → ℕ → ℕ
below_slot n h a b slot = times b (blocks_below n h (slot - 9) (get_or a slot 0))

blocks-sum : (g : Geometry) (h : Held) (a : List ℕ) (b : ℕ) → times b (blocks_of g h a) ≡ sum_below 13 (below_slot (block_numbers g) h a b)
unfolding sum_below
blocks-sum g h a b =
    times-append b (pages ++ one ++ two) three
    ∙ (ap (λ q. q + times b three) (times-append b (pages ++ one) two)
    ∙ (ap (λ q. q + times b two + times b three) (times-append b pages one)
    ∙ ap (λ q. q + times b one + times b two + times b three)
    (flat-sum b (λ slot. blocks_below (block_numbers g) h 0 (get_or a slot 0)) 10)))
  where
    pages : List ℕ
    pages = flat_map (λ slot. blocks_below (block_numbers g) h 0 (get_or a slot 0)) (range_with_len 0 10)

    one : List ℕ
    one = blocks_below (block_numbers g) h 1 (get_or a 10 0)

    two : List ℕ
    two = blocks_below (block_numbers g) h 2 (get_or a 11 0)

    three : List ℕ
    three = blocks_below (block_numbers g) h 3 (get_or a 12 0)

way-spot : (n slot : ℕ) (ks : List ℕ) → slot < 13 → IsWay n (slot - 9) ks → IsSpot n slot ks
way-spot n slot ks low way = record { among = low; deep = way.deep; places = way.places }

-- a block of the list stands at a spot of the tree
tree-some : (g : Geometry) (h : Held) (a : List ℕ) (b : ℕ) → 0 < times b (blocks_of g h a)
    → (slot : ℕ) × ((ks : List ℕ) × (IsSpot (block_numbers g) slot ks × ((block_at h a slot ks ≡ b) × (b ≢ 0))))
tree-some g h a b is =
    let at = sum-some 13 (below_slot (block_numbers g) h a b) (omega (arith, is, blocks-sum g h a b)) in
    let one = below-some (block_numbers g) h (at.0 - 9) (get_or a at.0 0) b at.1.1 in
    (at.0, (one.0, (way-spot (block_numbers g) at.0 one.0 at.1.0 one.1.0, (one.1.1.0, one.1.1.1))))

tree-once : {o : Origin} {h : Held} {a : List ℕ} → IsTree o h a → (b : ℕ) → times b (blocks_of o.sizes h a) ≤ 1
tree-once {o} {h} {a} tree b =
    omega (arith, blocks-sum o.sizes h a b, sum-once 13 (below_slot n h a b) each same)
  where
    n : ℕ
    n = block_numbers o.sizes

    each : (slot : ℕ) → slot < 13 → below_slot n h a b slot ≤ 1
    each slot low =
        below-once n h (slot - 9) (get_or a slot 0) b
        (λ ks js way other some is. (tree.once slot ks slot js (way-spot n slot ks low way) (way-spot n slot js low other) some is).1)

    same : (slot other : ℕ) → slot < 13 → other < 13 → 0 < below_slot n h a b slot → 0 < below_slot n h a b other → slot ≡ other
    same slot other low below one two =
        (let p = below-some n h (slot - 9) (get_or a slot 0) b one in
        let s = below-some n h (other - 9) (get_or a other 0) b two in
        (tree.once slot p.0 other s.0 (way-spot n slot p.0 low p.1.0) (way-spot n other s.0 below s.1.0) (λ z. p.1.1.1 (sym p.1.1.0 ∙ z))
        (p.1.1.0 ∙ sym s.1.1.0)).0)

alike : (x y : ℕ) → x ≡ y → (x == y) ≡ true
alike x y h = grind (nat_tests, arith)

way-tail : (n d k : ℕ) (ks : List ℕ) → IsWay n (suc d) (k ∷ ks) → IsWay n d ks
way-tail n d k ks way = record { deep = omega (arith, way.deep); places = λ i low. way.places (suc i) (omega (arith, low)) }

-- what a way leads to stands in the list
some-below : (n : ℕ) (h : Held) (d : ℕ) (ks : List ℕ) (r b : ℕ) → IsWay n d ks → down h r ks ≡ b → b ≢ 0
    → 0 < times b (blocks_below n h d r)
some-below n h zero (k ∷ ks) r b way at some = absurd (omega (arith, way.deep))
some-below n h zero [] r b way at some = by (r == 0) refl
  where
    by : (t : Bool) → (r == 0) ≡ t → 0 < times b (blocks_below n h 0 r)
    by true e = absurd (some (sym at ∙ eqb-true r 0 e))
    by false e = omega (arith, times-page n h r b false e, ap one_if (alike r b at))
some-below n h (suc d) [] r b way at some = by (r == 0) refl
  where
    by : (t : Bool) → (r == 0) ≡ t → 0 < times b (blocks_below n h (suc d) r)
    by true e = absurd (some (sym at ∙ eqb-true r 0 e))
    by false e = omega (arith, times-below n h d r b (apart r 0 e), ap one_if (alike r b at))
some-below n h (suc d) (k ∷ ks) r b way at some =
    by (r == 0) refl (some-below n h d ks (child h r k) b (way-tail n d k ks way) at some)
  where
    by : (t : Bool) → (r == 0) ≡ t → 0 < times b (blocks_below n h d (child h r k)) → 0 < times b (blocks_below n h (suc d) r)
    by true e more = absurd (some (sym at ∙ down-hole h (child h r k) ks (child-hole h r k (eqb-true r 0 e))))
    by false e more =
        omega (
          arith,
          more,
          times-below n h d r b (apart r 0 e),
          sum-least n (λ j. times b (blocks_below n h d (child h r j))) k (way.places 0 (omega arith)),
        )

-- a block of the tree stands in the list
pub some-tree : (g : Geometry) (h : Held) (a : List ℕ) (b slot : ℕ) (ks : List ℕ) → IsSpot (block_numbers g) slot ks
    → block_at h a slot ks ≡ b → b ≢ 0 → 0 < times b (blocks_of g h a)
some-tree g h a b slot ks spot at some =
    omega (
      arith,
      blocks-sum g h a b,
      sum-least 13 (below_slot (block_numbers g) h a b) slot spot.among,
      some-below (block_numbers g) h (slot - 9) ks (get_or a slot 0) b (record { deep = spot.deep; places = spot.places }) at some,
    )

pub tree-blocks : {o : Origin} {h : Held} {a : List ℕ} → IsTree o h a → HasDataBlocks o.sizes h a → AreBlocks o h (blocks_of o.sizes h a)
tree-blocks {o} {h} {a} tree data_blocks = record {
  once = tree-once tree;
  in_data = λ b is.
      (let at = tree-some o.sizes h a b is in
      let P : ℕ → Type 0 = IsDataBlock o.sizes in
      subst P at.1.1.1.0 (data_blocks.at at.0 at.1.0 at.1.1.0 (λ z. at.1.1.1.1 (sym at.1.1.1.0 ∙ z))));
  whole = λ b is.
      (let at = tree-some o.sizes h a b is in
      let P : ℕ → Type 0 = HoldsBlock o h in
      subst P at.1.1.1.0 (tree.whole at.0 at.1.0 at.1.1.0 (λ z. at.1.1.1.1 (sym at.1.1.1.0 ∙ z))));
}

-- there are no more of them than the disk has
pub few-blocks : {o : Origin} {h : Held} (xs : List ℕ) → AreBlocks o h xs → IsGeometry o.sizes → length xs ≤ 65536
few-blocks {o} xs all sizes =
    omega (
      arith,
      few o.sizes.blocks xs [] (λ b is. (all.in_data b (omega (arith, is, times-nil b))).most)
          (λ b. omega (arith, all.once b, times-nil b)),
      sizes.most_blocks,
    )
