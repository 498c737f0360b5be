-- The blocks of an address tree as a node counts them: each by its height and its number there. Each stands in the tree once, and it
-- stands there exactly where a spot of the tree has a block.
use Rattle.std.proofs.Common.{◌≡◌, ◌≢◌, ◌≤◌, ◌<◌, ◌+◌, ◌-◌, ◌*◌, ◌/◌, ◌%◌, ◌==◌, ◌++◌, ℕ, zero, suc, Bool, true, false, not, List, []}
use Rattle.std.proofs.Common.{◌∷◌, inl}
use Rattle.std.proofs.Common.{inr, filter, flat_map, cond, length, get_or, nat_lt, arith, ap, refl, sym, subst, ◌∙◌}
use Rattle.std.specs.List.{range_with_len}
use Rattle.std.specs.Cmp.{Equal-is, tied_itself}
use Rattle.std.specs.Ordering.{eq_by_cmp, is_eq}
use Rattle.std.proofs.lemmas.Bool.{cases_eq, cases_lt, lt-ltb, le-ltb}
use Rattle.std.proofs.lemmas.Nat.{div-mul-add, mod-mul-add}
use Rattle.sv_form.specs.AddressTree.{Numbers, block_at, child, down}
use Rattle.sv_form.specs.PagePath.{IsSpot, first_single, height_of, slots}
use Rattle.sv_form.specs.Pair.{pair_cmp, pair_cmp_total, pair_cmp-IsAntisymmetric}
use Rattle.sv_form.proofs.ReaderLemmas.{child-some, down-hole}
use Rattle.sv_super.specs.Count.{one_if}
use Rattle.sv_files.proofs.NodePages.{named}
use Rattle.sv_files.proofs.TreeSpots.{IsWay, both_ends, no_zero, way-first, way-rest}
use Rattle.sv_files.proofs.Hits.{hits, hits-append, one-of, some-of}

-- a block by its height and its number there
abbrev pub Block : Type 0
Block = ℕ × ℕ

abbrev pub is_code : Block → Block → Bool
is_code q b = eq_by_cmp pair_cmp q b

pub code-is : (q b : Block) → is_code q b ≡ true → q ≡ b
code-is q b e = pair_cmp-IsAntisymmetric q b ((Equal-is (pair_cmp q b)).0 e)

pub code-itself : (q : Block) → is_code q q ≡ true
code-itself q = ap is_eq (tied_itself pair_cmp_total q)

pub code-same : (q b : Block) → q ≡ b → is_code q b ≡ true
code-same q b e = subst (λ (x : Block). is_code q x ≡ true) e (code-itself q)

-- ---- numbers of blocks

-- the number of the first block at a height that stands below an indirect block
abbrev pub start : ℕ → ℕ
start zero = first_single
start (suc h) = 1

-- the number of the block to which number k of block i leads
abbrev pub kid : ℕ → ℕ → ℕ → ℕ → ℕ
kid n h i k = start h + (i * n + k)

-- the number of the block to which these places lead, from block i at a height
abbrev pub led : ℕ → ℕ → ℕ → List ℕ → ℕ
led n h i [] = i
led n zero i (k ∷ ks) = i
led n (suc h) i (k ∷ ks) = led n h (kid n h i k) ks

-- the number of the block at a slot
abbrev pub top_of : ℕ → ℕ
top_of slot = cond (nat_lt slot first_single) slot 0

-- a spot's block by its height and its number
abbrev pub code_at : ℕ → ℕ → List ℕ → Block
code_at n slot ks = (height_of slot - length ks, led n (height_of slot) (top_of slot) ks)

pub way-none : (n h : ℕ) → IsWay n h []
way-none n h = record { deep = omega arith; places = λ i low. absurd (omega (arith, low)) }

placed_at : (n k : ℕ) (ks : List ℕ) → k < n → ((i : ℕ) → i < length ks → get_or ks i 0 < n) → (i : ℕ) → i < length (k ∷ ks)
    → get_or (k ∷ ks) i 0 < n
placed_at n k ks low rest zero below = low
placed_at n k ks low rest (suc i) below = rest i (omega (arith, below))

pub way-more : (n h k : ℕ) (ks : List ℕ) → k < n → IsWay n h ks → IsWay n (suc h) (k ∷ ks)
way-more n h k ks low way = record { deep = (let deep = way.deep in omega (arith, deep)); places = placed_at n k ks low way.places }

same_row : (n i j k l : ℕ) → k < n → l < n → i * n + k ≡ j * n + l → i ≡ j
same_row n i j k l p q e = sym (div-mul-add i n k p) ∙ ap (λ (x : ℕ). x / n) e ∙ div-mul-add j n l q

same_column : (n i j k l : ℕ) → k < n → l < n → i * n + k ≡ j * n + l → k ≡ l
same_column n i j k l p q e = sym (mod-mul-add i n k p) ∙ ap (λ (x : ℕ). x % n) e ∙ mod-mul-add j n l q

pub kid-row : (n h i j k l : ℕ) → k < n → l < n → kid n h i k ≡ kid n h j l → i ≡ j
kid-row n h i j k l p q e = same_row n i j k l p q (omega (arith, e))

pub kid-column : (n h i j k l : ℕ) → k < n → l < n → kid n h i k ≡ kid n h j l → k ≡ l
kid-column n h i j k l p q e = same_column n i j k l p q (omega (arith, e))

-- two ways of one length that lead to one block are one way
pub led-same : (n h i j : ℕ) (ks js : List ℕ) → IsWay n h ks → IsWay n h js → length ks ≡ length js
    → led n h i ks ≡ led n h j js → (i ≡ j) × (ks ≡ js)
led-same n h i j [] [] one two size e = (e, refl)
led-same n h i j [] (l ∷ js) one two size e = absurd (omega (arith, size))
led-same n h i j (k ∷ ks) [] one two size e = absurd (omega (arith, size))
led-same n zero i j (k ∷ ks) (l ∷ js) one two size e = (let deep = one.deep in absurd (omega (arith, deep)))
led-same n (suc h) i j (k ∷ ks) (l ∷ js) one two size e =
    let rest =
    led-same n h (kid n h i k) (kid n h j l) ks js (way-rest n h k ks one) (way-rest n h l js two) (omega (arith, size)) e in
    let p = way-first n (suc h) k ks one in
    let q = way-first n (suc h) l js two in
    (kid-row n h i j k l p q rest.0, both_ends k l ks js (kid-column n h i j k l p q rest.0) rest.1)

-- a block below a higher one has no number before the first
pub led-start : (n h H i j : ℕ) (ks js : List ℕ) → h < H → IsWay n h ks → IsWay n H js → h + length js ≡ H + length ks
    → led n h i ks ≡ led n H j js → start h ≤ i
led-start n h zero i j ks js less one two size e = absurd (omega (arith, less))
led-start n h (suc H) i j ks [] less one two size e = absurd (omega (arith, less, size))
led-start n h (suc H) i j ks (l ∷ js) less one two size e =
    elim (cases_eq h H) as (λ _. start h ≤ i) [
      | inl same ↦
          let here : led n H i ks ≡ led n H (kid n H j l) js = ap (λ (x : ℕ). led n x i ks) (sym same) ∙ e in
          let all = led-same n H i (kid n H j l) ks js (subst (λ (x : ℕ). IsWay n x ks) same one) (way-rest n H l js two)
          (omega (arith, size, same)) here in
          (let from : start h ≡ start H = ap start same in omega (arith, all.0, from))
      | inr ne ↦ led-start n h H i (kid n H j l) ks js (omega (arith, less, ne)) one (way-rest n H l js two) (omega (arith, size)) e
    ]

-- ---- joined lists

few_step : {X : Type 0} (t : X → Bool) (f : ℕ → List X) (s : ℕ → Bool) (m a : ℕ) (u : Bool) → s a ≡ u
    → (u ≡ true → hits t (f a) ≤ 1) → hits t (flat_map f (filter s (range_with_len (a + 1) m))) ≤ 1
    → (u ≡ true → 0 < hits t (f a) → 0 < hits t (flat_map f (filter s (range_with_len (a + 1) m))) → ⊥)
    → hits t (flat_map f (cond u (a ∷ filter s (range_with_len (a + 1) m)) (filter s (range_with_len (a + 1) m)))) ≤ 1
few_step t f s m a false is here rest apart = rest
few_step t f s m a true is here rest apart =
    let more : List ℕ = filter s (range_with_len (a + 1) m) in
    let all = hits-append t (f a) (flat_map f more) in
    let first = here refl in
    elim (cases_lt 0 (hits t (f a))) as (λ _. hits t (f a ++ flat_map f more) ≤ 1) [
      | inr none ↦ omega (arith, none, rest, all)
      | inl some ↦ elim (cases_lt 0 (hits t (flat_map f more))) as (λ _. hits t (f a ++ flat_map f more) ≤ 1) [
        | inr none ↦ omega (arith, none, first, all)
        | inl also ↦ absurd (apart refl some also)
      ]
    ]

-- it is hit once where each part has it once and no two have it
pub few-of : {X : Type 0} (t : X → Bool) (f : ℕ → List X) (s : ℕ → Bool) (m a : ℕ)
    → ((k : ℕ) → a ≤ k → k < a + m → s k ≡ true → hits t (f k) ≤ 1)
    → ((j k : ℕ) → a ≤ j → j < a + m → a ≤ k → k < a + m → s j ≡ true → s k ≡ true → 0 < hits t (f j) → 0 < hits t (f k) → j ≡ k)
    → hits t (flat_map f (filter s (range_with_len a m))) ≤ 1
few-of t f s zero a each once = omega arith
few-of t f s (suc m) a each once =
    few_step t f s m a (s a) refl (λ is. each a (omega arith) (omega arith) is)
    (few-of t f s m (a + 1) (λ k low high is. each k (omega (arith, low)) (omega (arith, high)) is)
    (λ j k jl jh kl kh js ks one two. once j k (omega (arith, jl)) (omega (arith, jh)) (omega (arith, kl))
    (omega (arith, kh)) js ks one two))
    (λ is one more.
    (let p = some-of t f s m (a + 1) more in
    let low = p.low in
    let high = p.high in
    let same : a ≡ p.part =
    once a p.part (omega arith) (omega arith) (omega (arith, low)) (omega (arith, high)) is p.passes one p.some in
    omega (arith, same, low)))

-- ---- the tree

-- a block at a height, by its number there, and all that is below it
unfoldable pub coded : ℕ → Numbers → ℕ → ℕ → ℕ → List Block
coded n numbers zero i b = (0, i) ∷ []
coded n numbers (suc h) i b =
    (suc h, i) ∷ flat_map (λ k. coded n numbers h (kid n h i k) (numbers b k)) (filter (λ k. not (numbers b k == 0)) (range_with_len 0 n))

module _ (n : ℕ) (numbers : Numbers) where
  abbrev under : ℕ → ℕ → ℕ → ℕ → List Block
  under h i b k = coded n numbers h (kid n h i k) (numbers b k)

  abbrev some_at : ℕ → ℕ → Bool
  some_at b k = not (numbers b k == 0)

  abbrev kids : ℕ → ℕ → ℕ → List Block
  kids h i b = flat_map (under h i b) (filter (some_at b) (range_with_len 0 n))

  leaf-hits : (t : Block → Bool) (i b : ℕ) → hits t (coded n numbers 0 i b) ≡ one_if (t (0, i))
  unfolding coded
  leaf-hits t i b = omega arith

  top-hits : (t : Block → Bool) (h i b : ℕ) → hits t (coded n numbers (suc h) i b) ≡ one_if (t (suc h, i)) + hits t (kids h i b)
  unfolding coded
  top-hits t h i b = refl

  -- a block with this height and number stands at the end of a way
  pub record IsLed (q : Block) (h i b : ℕ) : Type 0 where
    pub ks : List ℕ
    pub placed : IsWay n h ks
    pub deep : q.0 + length ks ≡ h
    pub is : q.1 ≡ led n h i ks
    pub there : down numbers b ks ≢ 0

  led-top : (q : Block) (h i b : ℕ) → b ≢ 0 → q ≡ (h, i) → IsLed q h i b
  led-top q h i b some e =
      record {
        ks = [];
        placed = way-none n h;
        deep = (let at : q.0 ≡ h = ap (λ (x : Block). x.0) e in omega (arith, at));
        is = ap (λ (x : Block). x.1) e;
        there = some;
      }

  led-kid : (q : Block) (h i b k : ℕ) → b ≢ 0 → k < n → IsLed q h (kid n h i k) (numbers b k) → IsLed q (suc h) i b
  led-kid q h i b k some low l =
      record {
        ks = k ∷ l.ks;
        placed = way-more n h k l.ks low l.placed;
        deep = (let deep = l.deep in omega (arith, deep));
        is = l.is;
        there = λ e. l.there (sym (ap (λ (x : ℕ). down numbers x l.ks) (child-some numbers b k some)) ∙ e);
      }

  led_leaf : (q : Block) (i b : ℕ) (u : Bool) → b ≢ 0 → is_code q (0, i) ≡ u → 0 < one_if u → IsLed q 0 i b
  led_leaf q i b true some is hit = led-top q 0 i b some (code-is q (0, i) is)
  led_leaf q i b false some is hit = absurd (omega (arith, hit))

  led_step : (q : Block) (h i b m : ℕ) (u : Bool) → b ≢ 0 → is_code q (suc h, i) ≡ u → 0 < one_if u + m → (0 < m → IsLed q (suc h) i b)
      → IsLed q (suc h) i b
  led_step q h i b m true some is hit rest = led-top q (suc h) i b some (code-is q (suc h, i) is)
  led_step q h i b m false some is hit rest = rest (omega (arith, hit))

  pub hit-led : (q : Block) (h i b : ℕ) → b ≢ 0 → 0 < hits (is_code q) (coded n numbers h i b) → IsLed q h i b
  hit-led q zero i b some hit = led_leaf q i b (is_code q (0, i)) some refl (omega (arith, hit, leaf-hits (is_code q) i b))
  hit-led q (suc h) i b some hit =
      led_step q h i b (hits (is_code q) (kids h i b)) (is_code q (suc h, i)) some refl
      (omega (arith, hit, top-hits (is_code q) h i b))
      (λ more.
      (let p = some-of (is_code q) (under h i b) (some_at b) n 0 more in
      let high = p.high in
      led-kid q h i b p.part some (omega (arith, high))
      (hit-led q h (kid n h i p.part) (numbers b p.part) (named (numbers b p.part) p.passes) p.some)))

  pub led-hit : (q : Block) (h i b : ℕ) (ks : List ℕ) → b ≢ 0 → IsWay n h ks → q ≡ (h - length ks, led n h i ks)
      → down numbers b ks ≢ 0 → 0 < hits (is_code q) (coded n numbers h i b)
  led-hit q zero i b [] some placed is there =
      let one : one_if (is_code q (0, i)) ≡ 1 = ap one_if (code-same q (0, i) is) in
      omega (arith, one, leaf-hits (is_code q) i b)
  led-hit q (suc h) i b [] some placed is there =
      let all : suc h - 0 ≡ suc h = omega arith in
      let one : one_if (is_code q (suc h, i)) ≡ 1 =
      ap one_if (code-same q (suc h, i) (is ∙ ap (λ (x : ℕ). (x, i)) all)) in
      omega (arith, one, top-hits (is_code q) h i b)
  led-hit q zero i b (k ∷ ks) some placed is there = (let deep = placed.deep in absurd (omega (arith, deep)))
  led-hit q (suc h) i b (k ∷ ks) some placed is there =
      let low : k < n = way-first n (suc h) k ks placed in
      let same : down numbers (child numbers b k) ks ≡ down numbers (numbers b k) ks =
      ap (λ (x : ℕ). down numbers x ks) (child-some numbers b k some) in
      let named : numbers b k ≢ 0 = λ e. there (same ∙ ap (λ (x : ℕ). down numbers x ks) e ∙ down-hole numbers ks) in
      let high : suc h - suc (length ks) ≡ h - length ks = omega arith in
      let part = led-hit q h (kid n h i k) (numbers b k) ks named (way-rest n h k ks placed)
      (is ∙ ap (λ (x : ℕ). (x, led n h (kid n h i k) ks)) high) (λ e. there (same ∙ e)) in
      let more = one-of (is_code q) (under h i b) (some_at b) n 0 k (omega arith) (omega (arith, low)) (no_zero (numbers b k) named) in
      omega (arith, part, more, top-hits (is_code q) h i b)

  -- one way leads to a block
  pub led-once : (q : Block) (h i j b c : ℕ) → b ≢ 0 → c ≢ 0 → 0 < hits (is_code q) (coded n numbers h i b)
      → 0 < hits (is_code q) (coded n numbers h j c) → i ≡ j
  led-once q h i j b c some also one two =
      let x = hit-led q h i b some one in
      let y = hit-led q h j c also two in
      let xd = x.deep in
      let yd = y.deep in
      (led-same n h i j x.ks y.ks x.placed y.placed (omega (arith, xd, yd)) (sym x.is ∙ y.is)).0

  few_top : (q : Block) (h i b m : ℕ) (u : Bool) → is_code q (suc h, i) ≡ u → (u ≡ true → m ≡ 0) → m ≤ 1 → one_if u + m ≤ 1
  few_top q h i b m true is none few = (let nothing = none refl in omega (arith, nothing))
  few_top q h i b m false is none few = omega (arith, few)

  few_leaf : (u : Bool) → one_if u ≤ 1
  few_leaf true = omega arith
  few_leaf false = omega arith

  no-higher : (q : Block) (h i b : ℕ) → q ≡ (suc h, i) → hits (is_code q) (kids h i b) ≡ 0
  no-higher q h i b e =
      elim (cases_lt 0 (hits (is_code q) (kids h i b))) as (λ _. hits (is_code q) (kids h i b) ≡ 0) [
        | inr none ↦ omega (arith, none)
        | inl some ↦
            let p = some-of (is_code q) (under h i b) (some_at b) n 0 some in
            let l = hit-led q h (kid n h i p.part) (numbers b p.part) (named (numbers b p.part) p.passes) p.some in
            let deep = l.deep in
            let at : q.0 ≡ suc h = ap (λ (x : Block). x.0) e in
            absurd (omega (arith, deep, at))
      ]

  pub few-under : (q : Block) (h i b : ℕ) → hits (is_code q) (coded n numbers h i b) ≤ 1
  few-under q zero i b = (let few = few_leaf (is_code q (0, i)) in omega (arith, few, leaf-hits (is_code q) i b))
  few-under q (suc h) i b =
      let rest : hits (is_code q) (kids h i b) ≤ 1 =
      few-of (is_code q) (under h i b) (some_at b) n 0 (λ k low high is. few-under q h (kid n h i k) (numbers b k))
      (λ j k jl jh kl kh js ks one two.
      kid-column n h i i j k (omega (arith, jh)) (omega (arith, kh))
      (led-once q h (kid n h i j) (kid n h i k) (numbers b j) (numbers b k) (named (numbers b j) js) (named (numbers b k) ks) one two)) in
      let all = few_top q h i b (hits (is_code q) (kids h i b)) (is_code q (suc h, i)) refl
      (λ is. no-higher q h i b (code-is q (suc h, i) is)) rest in
      omega (arith, all, top-hits (is_code q) h i b)

  -- ---- the addresses

  module _ (address : ℕ → ℕ) where
    abbrev at : ℕ → List Block
    at slot = coded n numbers (height_of slot) (top_of slot) (address slot)

    abbrev some_slot : ℕ → Bool
    some_slot k = not (address k == 0)

    -- all blocks that the addresses reach
    abbrev pub codes : List Block
    codes = flat_map at (filter some_slot (range_with_len 0 slots))

    -- a spot with a block has this code
    pub record IsSpotOf (q : Block) : Type 0 where
      pub slot : ℕ
      pub ks : List ℕ
      pub spot : IsSpot n slot ks
      pub is : q ≡ code_at n slot ks
      pub there : block_at numbers address slot ks ≢ 0

    pair_is : (q : Block) (x y : ℕ) → q.0 ≡ x → q.1 ≡ y → q ≡ (x, y)
    pair_is q x y e f = λ i. (e i, f i)

    pub hit-spot : (q : Block) → 0 < hits (is_code q) codes → IsSpotOf q
    hit-spot q hit =
        let p = some-of (is_code q) at some_slot slots 0 hit in
        let l = hit-led q (height_of p.part) (top_of p.part) (address p.part) (named (address p.part) p.passes) p.some in
        let high = p.high in
        let deep = l.deep in
        record {
          slot = p.part;
          ks = l.ks;
          spot = record { among = omega (arith, high); deep = l.placed.deep; places = l.placed.places };
          is = pair_is q (height_of p.part - length l.ks) (led n (height_of p.part) (top_of p.part) l.ks) (omega (arith, deep)) l.is;
          there = l.there;
        }

    pub spot-hit : (slot : ℕ) (ks : List ℕ) → IsSpot n slot ks → block_at numbers address slot ks ≢ 0
        → 0 < hits (is_code (code_at n slot ks)) codes
    spot-hit slot ks spot there =
        let some : address slot ≢ 0 = λ e. there (ap (λ (x : ℕ). down numbers x ks) e ∙ down-hole numbers ks) in
        let here = led-hit (code_at n slot ks) (height_of slot) (top_of slot) (address slot) ks some
        (record { deep = spot.deep; places = spot.places }) refl there in
        let low = spot.among in
        let more = one-of (is_code (code_at n slot ks)) at some_slot slots 0 slot (omega arith) (omega (arith, low))
        (no_zero (address slot) some) in
        omega (arith, here, more)

    same-top : (i j : ℕ) → height_of i ≡ height_of j → top_of i ≡ top_of j → i ≡ j
    same-top i j e f =
        elim (cases_lt i first_single) as (λ _. i ≡ j) [
          | inr past ↦ omega (arith, past, e)
          | inl low ↦
              let less : j < first_single = omega (arith, low, e) in
              let one : top_of i ≡ i = ap (λ (t : Bool). cond t i 0) (lt-ltb i first_single low) in
              let two : top_of j ≡ j = ap (λ (t : Bool). cond t j 0) (lt-ltb j first_single less) in
              omega (arith, one, two, f)
        ]

    start_above : (h : ℕ) → 1 ≤ h → start h ≡ 1
    start_above zero some = absurd (omega (arith, some))
    start_above (suc h) some = refl

    top-low : (slot : ℕ) → top_of slot < start (height_of slot)
    top-low slot =
        elim (cases_lt slot first_single) as (λ _. top_of slot < start (height_of slot)) [
          | inl low ↦
              let flat : height_of slot ≡ 0 = omega (arith, low) in
              let from : start (height_of slot) ≡ first_single = ap start flat in
              let one : top_of slot ≡ slot = ap (λ (t : Bool). cond t slot 0) (lt-ltb slot first_single low) in
              omega (arith, from, one, low)
          | inr past ↦
              let from : start (height_of slot) ≡ 1 = start_above (height_of slot) (omega (arith, past)) in
              let none : top_of slot ≡ 0 = ap (λ (t : Bool). cond t slot 0) (le-ltb slot first_single past) in
              omega (arith, from, none)
        ]

    -- two spots with one code are one spot
    pub spot-same : (i j : ℕ) (ks js : List ℕ) → IsSpot n i ks → IsSpot n j js → code_at n i ks ≡ code_at n j js → (i ≡ j) × (ks ≡ js)
    spot-same i j ks js one two e =
        let first : IsWay n (height_of i) ks = record { deep = one.deep; places = one.places } in
        let second : IsWay n (height_of j) js = record { deep = two.deep; places = two.places } in
        let high : height_of i - length ks ≡ height_of j - length js = ap (λ (x : Block). x.0) e in
        let at : led n (height_of i) (top_of i) ks ≡ led n (height_of j) (top_of j) js = ap (λ (x : Block). x.1) e in
        let fits = one.deep in
        let also = two.deep in
        elim (cases_lt (height_of i) (height_of j)) as (λ _. (i ≡ j) × (ks ≡ js)) [
          | inl less ↦
              let from = led-start n (height_of i) (height_of j) (top_of i) (top_of j) ks js less first second
              (omega (arith, high, fits, also)) at in
              absurd (let low = top-low i in omega (arith, from, low))
          | inr past ↦ elim (cases_lt (height_of j) (height_of i)) as (λ _. (i ≡ j) × (ks ≡ js)) [
            | inl less ↦
                let from = led-start n (height_of j) (height_of i) (top_of j) (top_of i) js ks less second first
                (omega (arith, high, fits, also)) (sym at) in
                absurd (let low = top-low j in omega (arith, from, low))
            | inr other ↦
                let same : height_of i ≡ height_of j = omega (arith, past, other) in
                let here : led n (height_of j) (top_of i) ks ≡ led n (height_of j) (top_of j) js =
                ap (λ (x : ℕ). led n x (top_of i) ks) (sym same) ∙ at in
                let all = led-same n (height_of j) (top_of i) (top_of j) ks js (subst (λ (x : ℕ). IsWay n x ks) same first) second
                (omega (arith, high, fits, also, same)) here in
                (same-top i j same all.0, all.1)
          ]
        ]

    pub few-codes : (q : Block) → hits (is_code q) codes ≤ 1
    few-codes q =
        few-of (is_code q) at some_slot slots 0 (λ k low high is. few-under q (height_of k) (top_of k) (address k))
        (λ j k jl jh kl kh js ks one two.
        (let x = hit-led q (height_of j) (top_of j) (address j) (named (address j) js) one in
        let y = hit-led q (height_of k) (top_of k) (address k) (named (address k) ks) two in
        let xd = x.deep in
        let yd = y.deep in
        let first : q ≡ code_at n j x.ks = pair_is q (height_of j - length x.ks) (led n (height_of j) (top_of j) x.ks)
        (omega (arith, xd)) x.is in
        let second : q ≡ code_at n k y.ks = pair_is q (height_of k - length y.ks) (led n (height_of k) (top_of k) y.ks)
        (omega (arith, yd)) y.is in
        (spot-same j k x.ks y.ks
        (record { among = omega (arith, jh); deep = x.placed.deep; places = x.placed.places })
        (record { among = omega (arith, kh); deep = y.placed.deep; places = y.placed.places }) (sym first ∙ second)).0))

    -- whether a spot has a block is told by its code
    pub spot-there : (slot : ℕ) (ks : List ℕ) → IsSpot n slot ks → 0 < hits (is_code (code_at n slot ks)) codes
        → block_at numbers address slot ks ≢ 0
    spot-there slot ks spot hit none =
        let s = hit-spot (code_at n slot ks) hit in
        let same = spot-same slot s.slot ks s.ks spot s.spot s.is in
        s.there (ap (λ (x : ℕ). down numbers (address x) s.ks) (sym same.0)
        ∙ ap (λ (x : List ℕ). down numbers (address slot) x) (sym same.1) ∙ none)
