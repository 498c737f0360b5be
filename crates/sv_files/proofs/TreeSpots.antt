-- What stands at a spot of an address tree is met among the blocks that the tree reaches, and at no second spot where each is
-- met once.
use Rattle.std.proofs.Common.{◌≡◌, ◌≢◌, ◌≤◌, ◌<◌, ◌+◌, ◌-◌, ◌*◌, ◌^◌, ◌==◌, ℕ, zero, suc, Bool, true, not, List, [], ◌∷◌, inl, inr, filter}
use Rattle.std.proofs.Common.{flat_map, length, get_or, arith, ap, refl, sym, subst, ◌∙◌}
use Rattle.std.specs.List.{range_with_len}
use Rattle.std.proofs.lemmas.Bool.{cases_eq, cases_lt, eq-eqb, ne_eqb}
use Rattle.sv_form.specs.AddressTree.{Numbers, Reached, block_at, child, down, reached, reached_under}
use Rattle.sv_form.specs.PagePath.{IsSpot, first_page, height_of, slots}
use Rattle.sv_form.proofs.ReaderLemmas.{child-some, down-hole}
use Rattle.sv_super.specs.Count.{one_if}
use Rattle.sv_files.proofs.Hits.{hits, one-of, two-of}

-- places on the way down from a block at a height
pub record IsWay (n h : ℕ) (ks : List ℕ) : Type 0 where
  pub deep : length ks ≤ h
  pub places : (i : ℕ) → i < length ks → get_or ks i 0 < n

pub way-rest : (n h k : ℕ) (ks : List ℕ) → IsWay n (suc h) (k ∷ ks) → IsWay n h ks
way-rest n h k ks way =
    record { deep = (let deep = way.deep in omega (arith, deep)); places = λ i low. way.places (suc i) (omega (arith, low)) }

pub way-first : (n h k : ℕ) (ks : List ℕ) → IsWay n h (k ∷ ks) → k < n
way-first n h k ks way = way.places 0 (omega arith)

pub no_zero : (b : ℕ) → b ≢ 0 → not (b == 0) ≡ true
no_zero b some = ap not (ne_eqb b 0 some)

-- the page, or the first page, at the end of these places
abbrev pub page_at : ℕ → ℕ → ℕ → List ℕ → ℕ
page_at n h page [] = page
page_at n zero page (k ∷ ks) = page
page_at n (suc h) page (k ∷ ks) = page_at n h (page + k * n ^ h) ks

-- block b is met
abbrev pub is_at : ℕ → Reached → Bool
is_at b r = r.block == b

pub both_ends : (k j : ℕ) (ks js : List ℕ) → k ≡ j → ks ≡ js → k ∷ ks ≡ j ∷ js
both_ends k j ks js e f = ap (λ (x : ℕ). x ∷ ks) e ∙ ap (λ (l : List ℕ). j ∷ l) f

module _ (n : ℕ) (numbers : Numbers) where
  abbrev under : ℕ → ℕ → ℕ → ℕ → List Reached
  under h page b k = reached_under n numbers h (page + k * n ^ h) (numbers b k)

  abbrev some_at : ℕ → ℕ → Bool
  some_at b k = not (numbers b k == 0)

  abbrev kids : ℕ → ℕ → ℕ → List Reached
  kids h page b = flat_map (under h page b) (filter (some_at b) (range_with_len 0 n))

  -- a block with its height and its page is met
  pub met-under : (t : Reached → Bool) (h page b : ℕ) (ks : List ℕ) → IsWay n h ks → b ≢ 0 → down numbers b ks ≢ 0
      → t (record { height = h - length ks; page = page_at n h page ks; block = down numbers b ks }) ≡ true
      → 1 ≤ hits t (reached_under n numbers h page b)
  unfolding reached_under
  met-under t zero page b [] way some there is = omega (arith, ap one_if is)
  met-under t zero page b (k ∷ ks) way some there is = let deep = way.deep in absurd (omega (arith, deep))
  met-under t (suc h) page b [] way some there is =
      let all : suc h - 0 ≡ suc h = omega arith in
      let top : t (record { height = suc h; page = page; block = b }) ≡ true =
      ap (λ (x : ℕ). t (record { height = x; page = page; block = b })) (sym all) ∙ is in
      let one : one_if (t (record { height = suc h; page = page; block = b })) ≡ 1 = ap one_if top in
      omega (arith, one)
  met-under t (suc h) page b (k ∷ ks) way some there is =
      let low : k < n = way-first n (suc h) k ks way in
      let here : child numbers b k ≡ numbers b k = child-some numbers b k some in
      let same : down numbers (child numbers b k) ks ≡ down numbers (numbers b k) ks = ap (λ (x : ℕ). down numbers x ks) here in
      let named : numbers b k ≢ 0 = λ e. there (same ∙ ap (λ (x : ℕ). down numbers x ks) e ∙ down-hole numbers ks) in
      let high : h - length ks ≡ suc h - suc (length ks) = omega arith in
      let now : t (record { height = h - length ks; page = page_at n h (page + k * n ^ h) ks; block = down numbers (numbers b k) ks })
      ≡ true =
      ap (λ (x : ℕ). t (record { height = x; page = page_at n h (page + k * n ^ h) ks; block = down numbers (numbers b k) ks })) high
      ∙ ap (λ (x : ℕ). t (record { height = suc h - suc (length ks); page = page_at n h (page + k * n ^ h) ks; block = x })) (sym same)
      ∙ is in
      let part : 1 ≤ hits t (under h page b k) =
      met-under t h (page + k * n ^ h) (numbers b k) ks (way-rest n h k ks way) named (λ e. there (same ∙ e)) now in
      let more : hits t (under h page b k) ≤ hits t (kids h page b) =
      one-of t (under h page b) (some_at b) n 0 k (omega arith) (omega (arith, low)) (no_zero (numbers b k) named) in
      omega (arith, part, more)

  -- the block where some places lead
  at-block : (c h page b : ℕ) (ks : List ℕ) → IsWay n h ks → c ≢ 0 → b ≢ 0 → down numbers b ks ≡ c
      → 1 ≤ hits (is_at c) (reached_under n numbers h page b)
  at-block c h page b ks way named some e =
      met-under (is_at c) h page b ks way some (λ z. named (sym e ∙ z)) (eq-eqb (down numbers b ks) c e)

  -- one place down
  record IsStep (c h page b k : ℕ) (ks : List ℕ) : Type 0 where
    named : numbers b k ≢ 0
    low : k < n
    leads : down numbers (numbers b k) ks ≡ c
    hit : 1 ≤ hits (is_at c) (under h page b k)

  step-down : (c h page b k : ℕ) (ks : List ℕ) → IsWay n (suc h) (k ∷ ks) → c ≢ 0 → b ≢ 0 → down numbers b (k ∷ ks) ≡ c
      → IsStep c h page b k ks
  step-down c h page b k ks way named some e =
      let same : down numbers (child numbers b k) ks ≡ down numbers (numbers b k) ks =
      ap (λ (x : ℕ). down numbers x ks) (child-some numbers b k some) in
      let leads : down numbers (numbers b k) ks ≡ c = sym same ∙ e in
      let there : numbers b k ≢ 0 = λ z. named (sym leads ∙ ap (λ (x : ℕ). down numbers x ks) z ∙ down-hole numbers ks) in
      record {
        named = there;
        low = way-first n (suc h) k ks way;
        leads = leads;
        hit = at-block c h (page + k * n ^ h) (numbers b k) ks
            (way-rest n h k ks way) named there leads;
      }

  among-kids : (c h page b k : ℕ) (ks : List ℕ) → IsStep c h page b k ks
      → hits (is_at c) (under h page b k) ≤ hits (is_at c) (kids h page b)
  among-kids c h page b k ks st =
      let low =
      st.low in one-of (is_at c) (under h page b) (some_at b) n 0 k (omega arith) (omega (arith, low)) (no_zero (numbers b k) st.named)

  top-hits : (c h page b : ℕ) → hits (is_at c) (reached_under n numbers (suc h) page b) ≡ one_if (b == c) + hits (is_at c) (kids h page b)
  unfolding reached_under
  top-hits c h page b = refl

  -- the block itself and one below it are two
  twice : (c h page b k : ℕ) (ks : List ℕ) → b ≡ c → hits (is_at c) (reached_under n numbers (suc h) page b) ≤ 1 → IsStep c h page b k ks
      → ⊥
  twice c h page b k ks e few st =
      let one : one_if (b == c) ≡ 1 = ap one_if (eq-eqb b c e) in
      let more = among-kids c h page b k ks st in
      let hit = st.hit in
      absurd (omega (arith, one, more, hit, few, top-hits c h page b))

  apart : (c h page b k j : ℕ) (ks js : List ℕ) → k < j → hits (is_at c) (reached_under n numbers (suc h) page b) ≤ 1
      → IsStep c h page b k ks → IsStep c h page b j js → ⊥
  apart c h page b k j ks js less few one two =
      let low = two.low in
      let both =
      two-of (is_at c) (under h page b) (some_at b) n 0 k j (omega arith) less (omega (arith, low)) (no_zero (numbers b k) one.named)
      (no_zero (numbers b j) two.named) in
      let first = one.hit in
      let second = two.hit in
      absurd (omega (arith, both, first, second, few, top-hits c h page b))

  same-place : (c h page b k j : ℕ) (ks js : List ℕ) → hits (is_at c) (reached_under n numbers (suc h) page b) ≤ 1
      → IsStep c h page b k ks → IsStep c h page b j js → k ≡ j
  same-place c h page b k j ks js few one two =
      elim (cases_lt k j) as (λ _. k ≡ j) [
        | inl less ↦ absurd (apart c h page b k j ks js less few one two)
        | inr past ↦ elim (cases_eq k j) as (λ _. k ≡ j) [
          | inl e ↦ e
          | inr ne ↦ absurd (apart c h page b j k js ks (omega (arith, past, ne)) few two one)
        ]
      ]

  -- where a block is met once, one way leads to it
  pub once-under : (c h page b : ℕ) (ks js : List ℕ) → c ≢ 0 → b ≢ 0 → hits (is_at c) (reached_under n numbers h page b) ≤ 1
      → IsWay n h ks → IsWay n h js → down numbers b ks ≡ c → down numbers b js ≡ c → ks ≡ js
  once-under c h page b [] [] named some few one two e f = refl
  once-under c zero page b [] (j ∷ js) named some few one two e f = let deep = two.deep in absurd (omega (arith, deep))
  once-under c zero page b (k ∷ ks) js named some few one two e f = let deep = one.deep in absurd (omega (arith, deep))
  once-under c (suc h) page b [] (j ∷ js) named some few one two e f =
      absurd (twice c h page b j js e few (step-down c h page b j js two named some f))
  once-under c (suc h) page b (k ∷ ks) [] named some few one two e f =
      absurd (twice c h page b k ks f few (step-down c h page b k ks one named some e))
  once-under c (suc h) page b (k ∷ ks) (j ∷ js) named some few one two e f =
      let first = step-down c h page b k ks one named some e in
      let second = step-down c h page b j js two named some f in
      let same : k ≡ j = same-place c h page b k j ks js few first second in
      let more = among-kids c h page b k ks first in
      both_ends k j ks js same
      (once-under c h (page + k * n ^ h) (numbers b k) ks js named first.named (omega (arith, more, few, top-hits c h page b))
      (way-rest n h k ks one) (way-rest n h j js two) first.leads
      (ap (λ (x : ℕ). down numbers (numbers b x) js) same ∙ second.leads))

  -- ---- the addresses

  module _ (address : ℕ → ℕ) where
    abbrev at : ℕ → List Reached
    at k = reached_under n numbers (height_of k) (first_page n k) (address k)

    abbrev some_slot : ℕ → Bool
    some_slot k = not (address k == 0)

    way-of : (slot : ℕ) (ks : List ℕ) → IsSpot n slot ks → IsWay n (height_of slot) ks
    way-of slot ks spot = record { deep = spot.deep; places = spot.places }

    some-slot : (slot : ℕ) (ks : List ℕ) → block_at numbers address slot ks ≢ 0 → address slot ≢ 0
    some-slot slot ks there e = there (ap (λ (x : ℕ). down numbers x ks) e ∙ down-hole numbers ks)

    slot-hits : (t : Reached → Bool) (slot : ℕ) → slot < slots → address slot ≢ 0 → hits t (at slot) ≤ hits t (reached n numbers address)
    unfolding reached
    slot-hits t slot low some = one-of t at some_slot slots 0 slot (omega arith) (omega (arith, low)) (no_zero (address slot) some)

    pub met-spot : (t : Reached → Bool) (slot : ℕ) (ks : List ℕ) → IsSpot n slot ks → block_at numbers address slot ks ≢ 0
        → t (record {
          height = height_of slot
              - length ks;
          page = page_at n (height_of slot) (first_page n slot) ks;
          block = block_at numbers address slot ks;
        }) ≡ true
        → 1 ≤ hits t (reached n numbers address)
    met-spot t slot ks spot there is =
        let some : address slot ≢ 0 = some-slot slot ks there in
        let here = met-under t (height_of slot) (first_page n slot) (address slot) ks (way-of slot ks spot) some there is in
        let all = slot-hits t slot spot.among some in
        omega (arith, here, all)

    pub met-block : (c slot : ℕ) (ks : List ℕ) → IsSpot n slot ks → c ≢ 0 → block_at numbers address slot ks ≡ c
        → 1 ≤ hits (is_at c) (reached n numbers address)
    met-block c slot ks spot named e =
        met-spot (is_at c) slot ks spot (λ z. named (sym e ∙ z)) (eq-eqb (block_at numbers address slot ks) c e)

    two-slots : (c slot other : ℕ) (ks js : List ℕ) → slot < other → IsSpot n slot ks → IsSpot n other js → c ≢ 0
        → block_at numbers address slot ks ≡ c → block_at numbers address other js ≡ c
        → hits (is_at c) (reached n numbers address) ≤ 1 → ⊥
    unfolding reached
    two-slots c slot other ks js less spot that named e f few =
        let first : address slot ≢ 0 = some-slot slot ks (λ z. named (sym e ∙ z)) in
        let second : address other ≢ 0 = some-slot other js (λ z. named (sym f ∙ z)) in
        let both =
        two-of (is_at c) at some_slot slots 0 slot other (omega arith) less (let low = that.among in omega (arith, low))
        (no_zero (address slot) first) (no_zero (address other) second) in
        let one = at-block c (height_of slot) (first_page n slot) (address slot) ks (way-of slot ks spot) named first e in
        let two = at-block c (height_of other) (first_page n other) (address other) js (way-of other js that) named second f in
        absurd (omega (arith, both, one, two, few))

    same-slot : (c slot other : ℕ) (ks js : List ℕ) → IsSpot n slot ks → IsSpot n other js → c ≢ 0 → block_at numbers address slot ks ≡ c
        → block_at numbers address other js ≡ c
        → hits (is_at c) (reached n numbers address) ≤ 1 → slot ≡ other
    same-slot c slot other ks js spot that named e f few =
        elim (cases_lt slot other) as (λ _. slot ≡ other) [
          | inl less ↦ absurd (two-slots c slot other ks js less spot that named e f few)
          | inr past ↦ elim (cases_eq slot other) as (λ _. slot ≡ other) [
            | inl same ↦ same
            | inr ne ↦ absurd (two-slots c other slot js ks (omega (arith, past, ne)) that spot named f e few)
          ]
        ]

    -- where a block is met once, it stands at one spot
    pub once-at : (c slot other : ℕ) (ks js : List ℕ) → IsSpot n slot ks → IsSpot n other js → c ≢ 0
        → block_at numbers address slot ks ≡ c → block_at numbers address other js ≡ c
        → hits (is_at c) (reached n numbers address) ≤ 1 → (slot ≡ other) × (ks ≡ js)
    once-at c slot other ks js spot that named e f few =
        let same : slot ≡ other = same-slot c slot other ks js spot that named e f few in
        let moved : IsSpot n slot js = subst (λ (x : ℕ). IsSpot n x js) (sym same) that in
        let some : address slot ≢ 0 = some-slot slot ks (λ z. named (sym e ∙ z)) in
        let all = slot-hits (is_at c) slot spot.among some in (
          same,
          once-under c (height_of slot) (first_page n slot) (address slot) ks js named some (omega (arith, all, few)) (way-of slot ks spot)
              (way-of slot js moved) e
              (ap (λ (x : ℕ). block_at numbers address x js) same ∙ f),
        )
