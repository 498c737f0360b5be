-- The pages of a tree, by their paths: what is met at height 0 is the block of its page, and the block of a page is met there.
use Rattle.std.proofs.Common.{◌≡◌, ◌≢◌, ◌≤◌, ◌<◌, ◌+◌, ◌-◌, ◌*◌, ◌^◌, ◌==◌, ◌&&◌, ℕ, suc, Bool, true, false, not, List, inl, inr, length}
use Rattle.std.proofs.Common.{nat_le, if◌then◌else◌, arith, ap, refl, sym, subst, ◌∙◌}
use Rattle.std.specs.List.{AllByRecursion}
use Rattle.std.proofs.Math.Nat.{pow-suc, pow-zero}
use Rattle.std.proofs.lemmas.Bool.{cases_eq, cases_lt, eq-eqb, false≢true}
use Rattle.sv_form.specs.declared.geometry.Geometry.{Geometry}
use Rattle.sv_form.specs.declared.page_path.PagePath.{PagePath}
use Rattle.sv_form.specs.declared.page_path.PagePath.TheVariants.{Direct, Single, Double, Triple}
use Rattle.sv_form.specs.AddressTree.{Numbers, Reached, block_at, child, page_block, reached, reached_under}
use Rattle.sv_form.specs.PagePath.{IsPath, block_numbers, double_slot, first_double, first_page, first_single, first_triple, height_of}
use Rattle.sv_form.specs.PagePath.{page_limit, page_of, places_of, slot_of, slots}
use Rattle.sv_form.proofs.ReaderLemmas.{child-some}
use Rattle.sv_bmap.proofs.Paths.{path-is}
use Rattle.sv_bmap.proofs.PageSpots.{path-spot}
use Rattle.sv_files.proofs.Hits.{all-of, hits}
use Rattle.sv_files.proofs.TreeSpots.{met-spot, page_at}

pair_bound : (n i j : ℕ) → i < n → j < n → i * n + j < n * n
pair_bound n i j low high = grind arith

row_bound : (m n x k : ℕ) → x < m → k < n → x * n + k < m * n
row_bound m n x k low high = grind arith

pub named : (b : ℕ) → not (b == 0) ≡ true → b ≢ 0
named b is e = absurd (false≢true (sym (ap not (eq-eqb b 0 e)) ∙ is))

module _ (g : Geometry) where
  abbrev n : ℕ
  n = block_numbers g

  zero_power : n ^ 0 ≡ 1
  zero_power = pow-zero n

  one_power : n ^ 1 ≡ n
  one_power = grind (arith, pow-suc n 0, pow-zero n)

  two_power : n ^ 2 ≡ n * n
  two_power = pow-suc n 1 ∙ ap (λ (x : ℕ). x * n) one_power

  pub path-low : (p : PagePath) → IsPath g p → page_of g p < page_limit n
  path-low (Direct i) is = omega (arith, is)
  path-low (Single i) is = omega (arith, is)
  path-low (Double i j) is = let low = pair_bound n i j is.0 is.1 in omega (arith, low)
  path-low (Triple i j k) is =
      let low = row_bound (n * n) n (i * n + j) k (pair_bound n i j is.0 is.1) is.2 in
      omega (arith, low)

  direct_page : (i : ℕ) → i < first_single → first_page n i ≡ i
  direct_page i low =
      let here : nat_le i 10 ≡ true = grind (arith, low) in
      ap (λ (t : Bool). if t then i else (if i == double_slot then first_double n else first_triple n)) here

  column : (i : ℕ) → i * n ^ 0 ≡ i
  column i = ap (λ (x : ℕ). i * x) zero_power ∙ omega arith

  row : (i : ℕ) → i * n ^ 1 ≡ i * n
  row i = ap (λ (x : ℕ). i * x) one_power

  square : (i : ℕ) → i * n ^ 2 ≡ i * (n * n)
  square i = ap (λ (x : ℕ). i * x) two_power

  triple_sum : (m i j k : ℕ) → i * (m * m) + (j * m + k) ≡ (i * m + j) * m + k
  triple_sum m i j k = grind arith

  -- the page at the end of a path
  pub path-page : (p : PagePath) → IsPath g p → page_at n (height_of (slot_of p)) (first_page n (slot_of p)) (places_of p) ≡ page_of g p
  path-page (Direct i) is = direct_page i is
  path-page (Single i) is = omega (arith, column i)
  path-page (Double i j) is = omega (arith, row i, column j)
  path-page (Triple i j k) is = omega (arith, square i, row j, column k, triple_sum n i j k)

  pub path-height : (p : PagePath) → IsPath g p → height_of (slot_of p) - length (places_of p) ≡ 0
  path-height (Direct i) is = omega (arith, is)
  path-height (Single i) is = refl
  path-height (Double i j) is = refl
  path-height (Triple i j k) is = refl

  module _ (numbers : Numbers) (address : ℕ → ℕ) where
    -- the block of a page is where its path leads
    pub block-of-path : (p : PagePath) (page : ℕ) → IsPath g p → page_of g p ≡ page
        → page_block n numbers address page ≡ block_at numbers address (slot_of p) (places_of p)
    unfolding page_block
    block-of-path p page is at = ap (λ (q : PagePath). block_at numbers address (slot_of q) (places_of q)) (path-is g p page is at)

    -- at height 0 there is the block of a page
    abbrev pub IsGood : Reached → Type 0
    IsGood r = r.height ≡ 0 → (r.block ≢ 0) × ((r.page < page_limit n) × (page_block n numbers address r.page ≡ r.block))

    good-path : (p : PagePath) (r : Reached) → IsPath g p → page_of g p ≡ r.page → r.block ≢ 0
        → block_at numbers address (slot_of p) (places_of p) ≡ r.block → IsGood r
    good-path p r is at some leads flat = (some, (let low = path-low p is in omega (arith, low, at), block-of-path p r.page is at ∙ leads))

    no_suc : {A : Type 0} (k : ℕ) → suc k ≡ 0 → A
    no_suc k e = absurd (omega (arith, e))

    abbrev under : ℕ → ℕ → ℕ → ℕ → List Reached
    under h page b k = reached_under n numbers h (page + k * n ^ h) (numbers b k)

    abbrev some_at : ℕ → ℕ → Bool
    some_at b k = not (numbers b k == 0)

    -- one level down from a block of height 1 and more
    level : (h page b : ℕ) → ((k : ℕ) → k < n → numbers b k ≢ 0 → AllByRecursion IsGood (under h page b k))
        → AllByRecursion IsGood (reached_under n numbers (suc h) page b)
    unfolding reached_under
    level h page b each = (
      λ e. no_suc h e,
      all-of IsGood (under h page b) (some_at b) n 0
          (λ k low high is. each k (omega (arith, high)) (named (numbers b k) is)),
    )

    leaf : (page b : ℕ) → IsGood (record { height = 0; page = page; block = b }) → AllByRecursion IsGood (reached_under n numbers 0 page b)
    unfolding reached_under
    leaf page b good = (good, tt)

    abbrev at : ℕ → List Reached
    at k = reached_under n numbers (height_of k) (first_page n k) (address k)

    direct : (k : ℕ) → k < 10 → address k ≢ 0 → AllByRecursion IsGood (at k)
    direct k low some =
        let flat : height_of k ≡ 0 = omega (arith, low) in
        subst (λ (h : ℕ). AllByRecursion IsGood (reached_under n numbers h (first_page n k) (address k))) (sym flat)
        (subst (λ (page : ℕ). AllByRecursion IsGood (reached_under n numbers 0 page (address k))) (sym (direct_page k low))
        (leaf k (address k) (good-path (Direct k) (record { height = 0; page = k; block = address k }) low refl some refl)))

    single : address 10 ≢ 0 → AllByRecursion IsGood (at 10)
    single some =
        level 0 10 (address 10)
        (λ i low there. leaf (10 + i * n ^ 0) (numbers (address 10) i)
        (good-path (Single i) (record { height = 0; page = 10 + i * n ^ 0; block = numbers (address 10) i }) low
        (sym (path-page (Single i) low)) there (child-some numbers (address 10) i some)))

    double : address 11 ≢ 0 → AllByRecursion IsGood (at 11)
    double some =
        level 1 (first_double n) (address 11)
        (λ i low there. level 0 (first_double n + i * n ^ 1) (numbers (address 11) i)
        (λ j less here.
        leaf (first_double n + i * n ^ 1 + j * n ^ 0) (numbers (numbers (address 11) i) j)
        (good-path (Double i j) (record
        { height = 0; page = first_double n + i * n ^ 1 + j * n ^ 0; block = numbers (numbers (address 11) i) j }) (low, less) (sym
        (path-page (Double i j) (low, less))) here
        (ap (λ (x : ℕ). child numbers x j) (child-some numbers (address 11) i some)
        ∙ child-some numbers (numbers (address 11) i) j there))))

    triple : address 12 ≢ 0 → AllByRecursion IsGood (at 12)
    triple some =
        level 2 (first_triple n) (address 12)
        (λ i low there. level 1 (first_triple n + i * n ^ 2) (numbers (address 12) i)
        (λ j less here. level 0 (first_triple n + i * n ^ 2 + j * n ^ 1) (numbers (numbers (address 12) i) j)
        (λ k least last.
        leaf (first_triple n + i * n ^ 2 + j * n ^ 1 + k * n ^ 0) (numbers (numbers (numbers (address 12) i) j) k)
        (good-path (Triple i j k) (record {
          height = 0;
          page = first_triple n + i * n ^ 2 + j * n ^ 1
              + k * n ^ 0;
          block = numbers (numbers (numbers (address 12) i) j) k;
        }) (low, less, least)
        (sym (path-page (Triple i j k) (low, less, least))) last
        (ap (λ (x : ℕ). child numbers (child numbers x j) k) (child-some numbers (address 12) i some)
        ∙ (ap (λ (x : ℕ). child numbers x k) (child-some numbers (numbers (address 12) i) j there)
        ∙ child-some numbers (numbers (numbers (address 12) i) j) k here))))))

    each-slot : (k : ℕ) → k < slots → address k ≢ 0 → AllByRecursion IsGood (at k)
    each-slot k below some =
        elim (cases_lt k 10) as (λ _. AllByRecursion IsGood (at k)) [
          | inl low ↦ direct k low some
          | inr past ↦ elim (cases_eq k 10) as (λ _. AllByRecursion IsGood (at k)) [
            | inl e ↦ subst (λ (x : ℕ). AllByRecursion IsGood (at x)) (sym e) (single (λ z. some (ap address e ∙ z)))
            | inr not_single ↦ elim (cases_eq k 11) as (λ _. AllByRecursion IsGood (at k)) [
              | inl e ↦ subst (λ (x : ℕ). AllByRecursion IsGood (at x)) (sym e) (double (λ z. some (ap address e ∙ z)))
              | inr not_double ↦
                  let e : k ≡ 12 = omega (arith, past, below, not_single, not_double) in
                  subst (λ (x : ℕ). AllByRecursion IsGood (at x)) (sym e) (triple (λ z. some (ap address e ∙ z)))
            ]
          ]
        ]

    pub all-good : AllByRecursion IsGood (reached n numbers address)
    unfolding reached
    all-good =
        all-of IsGood at (λ k. not (address k == 0)) slots 0 (λ k low high is. each-slot k (omega (arith, high)) (named (address k) is))

    -- page k is met
    abbrev pub is_page_at : ℕ → Reached → Bool
    is_page_at k r = (r.height == 0) && (r.page == k)

    both_true : (s t : Bool) → s ≡ true → t ≡ true → (s && t) ≡ true
    both_true true t e f = f
    both_true false t e f = e

    pub page-met : (p : PagePath) (page : ℕ) → IsPath g p → page_of g p ≡ page → page_block n numbers address page ≢ 0
        → 1 ≤ hits (is_page_at page) (reached n numbers address)
    page-met p page is at some =
        met-spot n numbers address (is_page_at page) (slot_of p) (places_of p) (path-spot g p is)
        (λ e. some (block-of-path p page is at ∙ e))
        (both_true (height_of (slot_of p) - length (places_of p) == 0)
        (page_at n (height_of (slot_of p)) (first_page n (slot_of p)) (places_of p) == page)
        (eq-eqb (height_of (slot_of p) - length (places_of p)) 0 (path-height p is))
        (eq-eqb (page_at n (height_of (slot_of p)) (first_page n (slot_of p)) (places_of p)) page (path-page p is ∙ at)))
