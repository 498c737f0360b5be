-- A node uses no more blocks than its inode reaches: each block above one of its pages is one that the walk meets.
use Rattle.std.proofs.Common.{◌≡◌, ◌≤◌, ◌<◌, ◌+◌, ◌-◌, ◌*◌, ◌/◌, ◌^◌, ◌==◌, ◌||◌, ◌++◌, ◌∷◌, [], ◌∙◌, ◌⊎◌, ℕ, zero, suc, Bool, not, true, false, List, Option, Some, None, is_some, inl, inr, ap, sym, refl, subst, cond, if◌then◌else◌, map, filter, flat_map, length, nat_lt, nat_le, arith}
use Rattle.std.specs.Prelude.{⊤}
use Rattle.std.specs.List.{list_any, range_with_len}
use Rattle.std.specs.Ordering.{nat_cmp, eq_by_cmp}
use Rattle.std.specs.Cmp.{nat_cmp_total, Equal-is}
use Rattle.std.specs.FinMap as fmap
use Rattle.std.specs.FinMap.{nat_cmp-IsAntisymmetric}
use Rattle.std.specs.FinSet as set
use Rattle.std.proofs.Math.Nat.{mul-le-mul, pow-suc, pow-zero}
use Rattle.std.proofs.lemmas.Bool.{cases_eq, cases_lt, eqb-true}
use Rattle.std.proofs.lemmas.List.{length-map, map-append}
use Rattle.std.proofs.lemmas.Nat.{div-mul-add}
use Rattle.sv_form.specs.declared.geometry.Geometry.{Geometry}
use Rattle.sv_form.specs.Image.{block_of}
use Rattle.sv_form.specs.Node.{block_set, blocks_at, used}
use Rattle.sv_form.specs.PagePath.{block_numbers, first_double, first_triple}
use Rattle.sv_form.specs.Pair.{pair_cmp, pair_cmp_total, pair_cmp-IsAntisymmetric}
use Rattle.sv_plain.specs.Blocks.{with_blocks}
use Rattle.sv_plain.specs.Front.{address_of}
use Rattle.sv_plain.proofs.Used.{any-cons, contains-with_blocks, len-with_blocks}
use Rattle.sv_check.specs.declared.pages.PageBlock.{PageBlock}
use Rattle.sv_check.specs.Pages.{IsAscending, pages_among}
use Rattle.sv_check.specs.Sound.{is_page, node_of}
use Rattle.sv_check.specs.Walk.{Reached, filled, first_page, height_of, number_in, reached, reached_under}
use Rattle.sv_check.proofs.BooleanTests.{below-test, not_below-test, or_none, or_true}
use Rattle.sv_check.proofs.LoadSteps.{same_key}
use Rattle.sv_check.proofs.PageOrder.{under-ascends}
use Rattle.sv_check.proofs.TreeNodes.{page_entry}

-- a block by its height and its number there
abbrev pub Block : Type 0
Block = ℕ × ℕ

-- the block is one of these
abbrev pub is_one : Block → List Block → Bool
is_one q bs = list_any (eq_by_cmp pair_cmp q) bs

-- ---- sets of blocks

one_left : (q : Block) (xs ys : List Block) → is_one q xs ≡ true → is_one q (xs ++ ys) ≡ true
one_left q (x ∷ xs) ys e = by_test (eq_by_cmp pair_cmp q x) e (one_left q xs ys) where
  by_test : (t : Bool) → (t || is_one q xs) ≡ true → (is_one q xs ≡ true → is_one q (xs ++ ys) ≡ true) → (t || is_one q (xs ++ ys)) ≡ true
  by_test true e rest = refl
  by_test false e rest = rest e
one_left q [] ys e = let bad : ⊥ = cc e in absurd bad

one_right : (q : Block) (xs ys : List Block) → is_one q ys ≡ true → is_one q (xs ++ ys) ≡ true
one_right q [] ys e = e
one_right q (x ∷ xs) ys e = ap (λ t. eq_by_cmp pair_cmp q x || t) (one_right q xs ys e) ∙ or_true (eq_by_cmp pair_cmp q x)

-- blocks among others are no more than those
module _ (xs ys : List Block) (among : (q : Block) → is_one q xs ≡ true → is_one q ys ≡ true) where
  abbrev s : set.FinSet pair_cmp
  s = set.from_list xs

  same_member : (q : Block) (t u : Bool) → is_one q ys ≡ t → is_one q xs ≡ u → (t || u) ≡ (t || false)
  same_member q true u e f = refl
  same_member q false false e f = refl
  same_member q false true e f = let bad : ⊥ = cc (e, among q f) in absurd bad

  pub few_blocks : set.len (set.from_list {R = pair_cmp} xs) ≤ length ys
  few_blocks =
      let same : with_blocks s ys ≡ with_blocks set.empty ys =
      set.same_set pair_cmp_total pair_cmp-IsAntisymmetric _ _
      (λ q. contains-with_blocks s ys q ∙ ap (λ t. is_one q ys || t) (set.contains-from_list pair_cmp_total xs q) ∙ same_member q (is_one q ys) (is_one q xs) refl refl
      ∙ ap (λ t. is_one q ys || t) (sym (set.contains-empty pair_cmp q)) ∙ sym (contains-with_blocks set.empty ys q)) in
      let size : set.len (with_blocks s ys) ≡ set.len (with_blocks set.empty ys) = ap set.len same in
      let first = (len-with_blocks s ys).0 in
      let second = (len-with_blocks (set.empty {R = pair_cmp}) ys).1 in
      let none : set.len (set.empty {R = pair_cmp}) ≡ 0 = set.len-empty pair_cmp in
      omega (arith, size, first, second, none)

-- ---- blocks that are met with each page

-- of each page among these, all that f gives is among the codes
abbrev Covers : (ℕ → List Block) → List Block → List Reached → Type 0
Covers f codes [] = ⊤
Covers f codes (r ∷ rs) = (r.height ≡ 0 → (q : Block) → is_one q (f r.page) ≡ true → is_one q codes ≡ true) × Covers f codes rs

covers-more : (f : ℕ → List Block) (c d : List Block) → ((q : Block) → is_one q c ≡ true → is_one q d ≡ true) → (rs : List Reached) → Covers f c rs → Covers f d rs
covers-more f c d more [] is = tt
covers-more f c d more (r ∷ rs) is = (λ flat q e. more q (is.0 flat q e), covers-more f c d more rs is.1)

covers-append : (f : ℕ → List Block) (c : List Block) (xs ys : List Reached) → Covers f c xs → Covers f c ys → Covers f c (xs ++ ys)
covers-append f c [] ys one two = two
covers-append f c (x ∷ xs) ys one two = (one.0, covers-append f c xs ys one.1 two)

-- what f gives may be taken for what h gives, at pages of that range
module _ (f h : ℕ → List Block) (c : List Block) (top : ℕ) where
  covers-other : (low : ℕ) (rs : List Reached) → IsAscending low (pages_among rs) top → ((x : ℕ) → low ≤ x → x < top → (q : Block) → is_one q (h x) ≡ true → (is_one q (f x) ≡ true) ⊎ (is_one q c ≡ true))
      → Covers f c rs → Covers h c rs
  covers-other low [] up same is = tt
  covers-other low (r ∷ rs) up same is =
      by_height (r.height == 0) refl up (λ from asc less. covers-other from rs asc (λ x more below. same x (omega (arith, less, more)) below) is.1) where
        top-is : (from : ℕ) (ps : List PageBlock) → IsAscending from ps top → from ≤ top
        top-is from [] asc = asc
        top-is from (p ∷ ps) asc = let first = asc.0 in let rest = top-is (p.page + 1) ps asc.1 in omega (arith, first, rest)

        chosen : (q : Block) → (is_one q (f r.page) ≡ true) ⊎ (is_one q c ≡ true) → r.height ≡ 0 → is_one q c ≡ true
        chosen q (inl e) flat = is.0 flat q e
        chosen q (inr e) flat = e

        by_height : (t : Bool) → (r.height == 0) ≡ t → IsAscending low ((if t then record { page = r.page; block = r.block } ∷ [] else []) ++ pages_among rs) top
            → ((from : ℕ) → IsAscending from (pages_among rs) top → low ≤ from → Covers h c rs) → Covers h c (r ∷ rs)
        by_height true e asc later =
            let first = asc.0 in
            let last = top-is (r.page + 1) (pages_among rs) asc.1 in
            (λ flat q one. chosen q (same r.page first (omega (arith, last)) q one) flat, later (r.page + 1) asc.1 (omega (arith, first)))
        by_height false e asc later = (λ flat q one. (let other : ⊥ = grind (arith, e, flat) in absurd other), later low asc (omega arith))

-- ---- codes

module _ (g : Geometry) (image : List ℕ) (some : 1 ≤ block_numbers g) where
  abbrev per : ℕ
  per = block_numbers g

  -- the number of a block, by the first page below it
  abbrev number : ℕ → ℕ → ℕ
  number zero x = x
  number (suc zero) x = (x - 10) / per
  number (suc (suc zero)) x = (x - (10 + per)) / (per * per)
  number (suc (suc (suc h))) x = 0

  abbrev code : Reached → Block
  code r = (r.height, number r.height r.page)

  -- the blocks above a page up to a height, and itself
  abbrev lows : ℕ → ℕ → List Block
  lows zero x = (0, x) ∷ []
  lows (suc h) x = lows h x ++ (suc h, number (suc h) x) ∷ []

  abbrev Whole : ℕ → List Reached → Type 0
  Whole h rs = Covers (lows h) (map code rs) rs

  -- joined lists
  module _ (f : ℕ → List Block) (child : ℕ → List Reached) (has : ℕ → Bool) where
    join_step : (k n : ℕ) (t : Bool) → Covers f (map code (child k)) (child k) → Covers f (map code (flat_map child (filter has (range_with_len (k + 1) n)))) (flat_map child (filter has (range_with_len (k + 1) n)))
        → Covers f (map code (flat_map child (cond t (k ∷ filter has (range_with_len (k + 1) n)) (filter has (range_with_len (k + 1) n))))) (flat_map child (cond t (k ∷ filter has (range_with_len (k + 1) n)) (filter has (range_with_len (k + 1) n))))
    join_step k n false one rest = rest
    join_step k n true one rest =
        let more : List Reached = flat_map child (filter has (range_with_len (k + 1) n)) in
        let both : map code (child k ++ more) ≡ map code (child k) ++ map code more = map-append code (child k) more in
        covers-append f (map code (child k ++ more)) (child k) more
        (covers-more f (map code (child k)) (map code (child k ++ more)) (λ q e. ap (is_one q) both ∙ one_left q (map code (child k)) (map code more) e) (child k) one)
        (covers-more f (map code more) (map code (child k ++ more)) (λ q e. ap (is_one q) both ∙ one_right q (map code (child k)) (map code more) e) more rest)

    pub joined : (n k : ℕ) → ((j : ℕ) → k ≤ j → j < k + n → Covers f (map code (child j)) (child j)) → Covers f (map code (flat_map child (filter has (range_with_len k n)))) (flat_map child (filter has (range_with_len k n)))
    joined zero k each = tt
    joined (suc n) k each = join_step k n (has k) (each k (omega arith) (omega arith)) (joined n (k + 1) (λ j low high. each j (omega (arith, low)) (omega (arith, high))))

  level-zero : (p b : ℕ) → Whole 0 (reached_under g image 0 p b)
  unfolding Rattle.sv_form.specs.AddressTree.reached_under
  level-zero p b = (λ flat q e. e, tt)

  pick : (q : Block) (xs : List Block) (b : Block) → is_one q (xs ++ b ∷ []) ≡ true → (is_one q xs ≡ true) ⊎ (eq_by_cmp pair_cmp q b ≡ true)
  pick q [] b e = inr (or_none (eq_by_cmp pair_cmp q b) e)
  pick q (x ∷ xs) b e = by_test (eq_by_cmp pair_cmp q x) e (pick q xs b) where
    by_test : (t : Bool) → (t || is_one q (xs ++ b ∷ [])) ≡ true → (is_one q (xs ++ b ∷ []) ≡ true → (is_one q xs ≡ true) ⊎ (eq_by_cmp pair_cmp q b ≡ true)) → ((t || is_one q xs) ≡ true) ⊎ (eq_by_cmp pair_cmp q b ≡ true)
    by_test true e rest = inl refl
    by_test false e rest = rest e

  -- one level up
  module _ (h p b : ℕ) (flat : (x : ℕ) → p ≤ x → x < p + per ^ suc h → number (suc h) x ≡ number (suc h) p)
      (each : (j : ℕ) → 0 ≤ j → j < 0 + per → Whole h (reached_under g image h (p + j * per ^ h) (number_in (block_of g image b) j))) where
    abbrev kids : List Reached
    kids = flat_map (λ k. reached_under g image h (p + k * per ^ h) (number_in (block_of g image b) k)) (filled g (block_of g image b))

    abbrev top : Block
    top = (suc h, number (suc h) p)

    choose : (x : ℕ) → p ≤ x → x < p + per ^ suc h → (q : Block) → (is_one q (lows h x) ≡ true) ⊎ (eq_by_cmp pair_cmp q (suc h, number (suc h) x) ≡ true) → (is_one q (lows h x) ≡ true) ⊎ (is_one q (top ∷ map code kids) ≡ true)
    choose x low high q (inl e) = inl e
    choose x low high q (inr e) =
        inr (ap (λ t. t || is_one q (map code kids)) (sym (ap (λ (y : ℕ). eq_by_cmp pair_cmp q (suc h, y)) (flat x low high)) ∙ e))

    no_suc : (k : ℕ) → suc k ≡ 0 → ⊥
    no_suc k e = omega (arith, e)

    kids-ascend : IsAscending p (pages_among (reached_under g image (suc h) p b)) (p + per ^ suc h) → IsAscending p (pages_among kids) (p + per ^ suc h)
    unfolding Rattle.sv_form.specs.AddressTree.reached_under
    kids-ascend up = subst (λ (t : Bool). IsAscending p ((if t then record { page = p; block = b } ∷ [] else []) ++ pages_among kids) (p + per ^ suc h)) (above_zero h) up where
      above_zero : (k : ℕ) → (suc k == 0) ≡ false
      above_zero k = grind arith

    level-up : Whole (suc h) (reached_under g image (suc h) p b)
    unfolding Rattle.sv_form.specs.AddressTree.reached_under
    level-up =
        let all : Covers (lows h) (map code kids) kids =
        joined (lows h) (λ k. reached_under g image h (p + k * per ^ h) (number_in (block_of g image b) k)) (λ k. not (number_in (block_of g image b) k == 0)) per 0 each in
        let more : Covers (lows h) (top ∷ map code kids) kids = covers-more (lows h) (map code kids) (top ∷ map code kids) (λ q e. one_right q (top ∷ []) (map code kids) e) kids all in (
          λ no_page. absurd (no_suc h no_page),
          covers-other (lows h) (lows (suc h)) (top ∷ map code kids) (p + per ^ suc h) p kids (kids-ascend (under-ascends g image (suc h) p b))
              (λ x low high q e. choose x low high q (pick q (lows h x) (suc h, number (suc h) x) e)) more,
        )

  -- ---- the three levels

  quotient : (base m i x p : ℕ) → p ≡ base + i * m → p ≤ x → x < p + m → (x - base) / m ≡ i
  quotient base m i x p at low high =
      let split : x - base ≡ i * m + (x - p) = omega (arith, at, low) in
      ap (λ y. y / m) split ∙ div-mul-add i m (x - p) (omega (arith, low, high))

  one_power : per ^ 1 ≡ per
  one_power = grind (arith, pow-suc per 0, pow-zero per)

  two_power : per ^ 2 ≡ per * per
  two_power = pow-suc per 1 ∙ ap (λ (x : ℕ). x * per) one_power

  level-one : (i p b : ℕ) → p ≡ 10 + i * per → Whole 1 (reached_under g image 1 p b)
  level-one i p b at =
      level-up 0 p b
      (λ x low high. quotient 10 per i x p at low (omega (arith, high, one_power)) ∙ sym (quotient 10 per i p p at (omega arith) (omega (arith, some))))
      (λ j _ _. level-zero (p + j * per ^ 0) (number_in (block_of g image b) j))

  one_below : (i j p : ℕ) → p ≡ 10 + per + i * (per * per) → p + j * per ^ 1 ≡ 10 + (1 + i * per + j) * per
  one_below i j p at =
      let row : j * per ^ 1 ≡ j * per = ap (λ (x : ℕ). j * x) one_power in
      let all : (1 + i * per + j) * per ≡ per + i * (per * per) + j * per = grind arith in
      omega (arith, at, row, all)

  some_square : 1 ≤ per * per
  some_square =
      let least : 1 * 1 ≤ per * per = mul-le-mul some some in
      omega (arith, least)

  level-two : (i p b : ℕ) → p ≡ 10 + per + i * (per * per) → Whole 2 (reached_under g image 2 p b)
  level-two i p b at =
      level-up 1 p b
      (λ x low high. quotient (10 + per) (per * per) i x p at low (omega (arith, high, two_power)) ∙ sym (quotient (10 + per) (per * per) i p p at (omega arith) (omega (arith, some_square))))
      (λ j _ _. level-one (1 + i * per + j) (p + j * per ^ 1) (number_in (block_of g image b) j) (one_below i j p at))

  two_below : (j p : ℕ) → p ≡ 10 + per + per * per → p + j * per ^ 2 ≡ 10 + per + (1 + j) * (per * per)
  two_below j p at =
      let row : j * per ^ 2 ≡ j * (per * per) = ap (λ (x : ℕ). j * x) two_power in
      let all : (1 + j) * (per * per) ≡ per * per + j * (per * per) = grind arith in
      omega (arith, at, row, all)

  level-three : (p b : ℕ) → p ≡ 10 + per + per * per → Whole 3 (reached_under g image 3 p b)
  level-three p b at =
      level-up 2 p b (λ x low high. refl) (λ j _ _. level-two (1 + j) (p + j * per ^ 2) (number_in (block_of g image b) j) (two_below j p at))

  -- ---- the addresses

  above-direct : (x : ℕ) → x < 10 → blocks_at per x ≡ lows 0 x
  above-direct x below =
      ap (λ t. (0, x) ∷ (if t then [] else (1, (x - 10) / per) ∷ (if nat_lt x (10 + per) then [] else (2, (x - (10 + per)) / (per * per)) ∷ (if nat_lt x (10 + per + per * per) then [] else (3, 0) ∷ [])))) (below-test x 10 below)

  above-single : (x : ℕ) → 10 ≤ x → x < 10 + per → blocks_at per x ≡ lows 1 x
  above-single x past below =
      ap (λ t. (0, x) ∷ (if t then [] else (1, (x - 10) / per) ∷ (if nat_lt x (10 + per) then [] else (2, (x - (10 + per)) / (per * per)) ∷ (if nat_lt x (10 + per + per * per) then [] else (3, 0) ∷ [])))) (not_below-test x 10 past)
      ∙ ap (λ t. (0, x) ∷ (1, (x - 10) / per) ∷ (if t then [] else (2, (x - (10 + per)) / (per * per)) ∷ (if nat_lt x (10 + per + per * per) then [] else (3, 0) ∷ []))) (below-test x (10 + per) below)

  above-double : (x : ℕ) → 10 + per ≤ x → x < 10 + per + per * per → blocks_at per x ≡ lows 2 x
  above-double x past below =
      ap (λ t. (0, x) ∷ (if t then [] else (1, (x - 10) / per) ∷ (if nat_lt x (10 + per) then [] else (2, (x - (10 + per)) / (per * per)) ∷ (if nat_lt x (10 + per + per * per) then [] else (3, 0) ∷ [])))) (not_below-test x 10 (omega (arith, past)))
      ∙ ap (λ t. (0, x) ∷ (1, (x - 10) / per) ∷ (if t then [] else (2, (x - (10 + per)) / (per * per)) ∷ (if nat_lt x (10 + per + per * per) then [] else (3, 0) ∷ []))) (not_below-test x (10 + per) past)
      ∙ ap (λ t. (0, x) ∷ (1, (x - 10) / per) ∷ (2, (x - (10 + per)) / (per * per)) ∷ (if t then [] else (3, 0) ∷ [])) (below-test x (10 + per + per * per) below)

  above-triple : (x : ℕ) → 10 + per + per * per ≤ x → blocks_at per x ≡ lows 3 x
  above-triple x past =
      ap (λ t. (0, x) ∷ (if t then [] else (1, (x - 10) / per) ∷ (if nat_lt x (10 + per) then [] else (2, (x - (10 + per)) / (per * per)) ∷ (if nat_lt x (10 + per + per * per) then [] else (3, 0) ∷ [])))) (not_below-test x 10 (omega (arith, past)))
      ∙ ap (λ t. (0, x) ∷ (1, (x - 10) / per) ∷ (if t then [] else (2, (x - (10 + per)) / (per * per)) ∷ (if nat_lt x (10 + per + per * per) then [] else (3, 0) ∷ []))) (not_below-test x (10 + per) (omega (arith, past)))
      ∙ ap (λ t. (0, x) ∷ (1, (x - 10) / per) ∷ (2, (x - (10 + per)) / (per * per)) ∷ (if t then [] else (3, 0) ∷ [])) (not_below-test x (10 + per + per * per) past)

  -- what is whole up to a height has all blocks above its pages, if there are no higher ones
  complete : (h p b : ℕ) → ((x : ℕ) → p ≤ x → x < p + per ^ h → blocks_at per x ≡ lows h x) → Whole h (reached_under g image h p b)
      → Covers (blocks_at per) (map code (reached_under g image h p b)) (reached_under g image h p b)
  complete h p b same is =
      covers-other (lows h) (blocks_at per) (map code (reached_under g image h p b)) (p + per ^ h) p (reached_under g image h p b) (under-ascends g image h p b)
      (λ x low high q e. inl (ap (is_one q) (sym (same x low high)) ∙ e)) is

  module _ (inode : List ℕ) where
    abbrev under : ℕ → List Reached
    under k = reached_under g image (height_of k) (first_page g k) (address_of inode k)

    abbrev Complete : ℕ → Type 0
    Complete k = Covers (blocks_at per) (map code (under k)) (under k)

    direct-page : (k : ℕ) → k < 10 → first_page g k ≡ k
    direct-page k below =
        let here : nat_le k 10 ≡ true = grind (arith, below) in
        ap (λ (t : Bool). if t then k else (if k == 11 then first_double per else first_triple per)) here

    direct : (k : ℕ) → k < 10 → Complete k
    direct k below =
        let flat : height_of k ≡ 0 = omega (arith, below) in
        let at : first_page g k ≡ k = direct-page k below in
        let one : per ^ 0 ≡ 1 = pow-zero per in
        subst (λ (h : ℕ). Covers (blocks_at per) (map code (reached_under g image h (first_page g k) (address_of inode k))) (reached_under g image h (first_page g k) (address_of inode k))) (sym flat)
        (complete 0 (first_page g k) (address_of inode k) (λ x low high. above-direct x (omega (arith, at, below, high, one))) (level-zero (first_page g k) (address_of inode k)))

    single : Complete 10
    single = complete 1 10 (address_of inode 10) (λ x low high. above-single x low (omega (arith, high, one_power))) (level-one 0 10 (address_of inode 10) (omega arith))

    double : Complete 11
    double =
        complete 2 (10 + per) (address_of inode 11) (λ x low high. above-double x low (omega (arith, high, two_power))) (level-two 0 (10 + per) (address_of inode 11) (omega arith))

    triple : Complete 12
    triple = complete 3 (10 + per + per * per) (address_of inode 12) (λ x low high. above-triple x low) (level-three (10 + per + per * per) (address_of inode 12) refl)

    each-address : (k : ℕ) → k < 13 → Complete k
    each-address k below =
        elim (cases_lt k 10) as (λ _. Complete k) [
          | inl low ↦ direct k low
          | inr past ↦ elim (cases_eq k 10) as (λ _. Complete k) [
            | inl e ↦ subst Complete (sym e) single
            | inr not_single ↦ elim (cases_eq k 11) as (λ _. Complete k) [
              | inl e ↦ subst Complete (sym e) double
              | inr not_double ↦ let e : k ≡ 12 = omega (arith, past, below, not_single, not_double) in subst Complete (sym e) triple
            ]
          ]
        ]

    all-covered : Covers (blocks_at per) (map code (reached g image inode)) (reached g image inode)
    unfolding Rattle.sv_form.specs.AddressTree.reached
    all-covered = joined (blocks_at per) under (λ k. not (address_of inode k == 0)) 13 0 (λ j _ high. each-address j (omega (arith, high)))

    -- ---- the pages of the node

    page_step : (c : List Block) (k : ℕ) (r : Reached) (rs : List Reached) (t u : Bool) (rest : Option (List ℕ)) → (r.height == 0) ≡ t → eq_by_cmp nat_cmp k r.page ≡ u → Covers (blocks_at per) c (r ∷ rs) → (q : Block)
        → is_one q (blocks_at per k) ≡ true → (is_some (fmap.find nat_cmp k (map (page_entry g image) (filter is_page rs))) ≡ true → is_one q c ≡ true)
        → is_some (fmap.find nat_cmp k (map (page_entry g image) (cond t (r ∷ filter is_page rs) (filter is_page rs)))) ≡ true → is_one q c ≡ true
    page_step c k r rs false u rest flat same is q one later found = later found
    page_step c k r rs true true rest flat same is q one later found =
        let at : k ≡ r.page = nat_cmp-IsAntisymmetric k r.page ((Equal-is (nat_cmp k r.page)).0 same) in
        is.0 (eqb-true r.height 0 flat) q (ap (λ (x : ℕ). is_one q (blocks_at per x)) (sym at) ∙ one)
    page_step c k r rs true false rest flat same is q one later found =
        later (ap (λ t. is_some (cond t (Some (block_of g image r.block)) (fmap.find nat_cmp k (map (page_entry g image) (filter is_page rs))))) (sym same) ∙ found)

    page-covers : (c : List Block) (k : ℕ) (rs : List Reached) → Covers (blocks_at per) c rs → (q : Block) → is_one q (blocks_at per k) ≡ true
        → is_some (fmap.find nat_cmp k (map (page_entry g image) (filter is_page rs))) ≡ true → is_one q c ≡ true
    page-covers c k [] is q one found = let bad : ⊥ = cc found in absurd bad
    page-covers c k (r ∷ rs) is q one found = page_step c k r rs (r.height == 0) (eq_by_cmp nat_cmp k r.page) None refl refl is q one (page-covers c k rs is.1 q one) found

    abbrev es : List (ℕ × List ℕ)
    es = map (page_entry g image) (filter is_page (reached g image inode))

    -- a block of some page of these
    keys_step : (q : Block) (k : ℕ) (ks : List ℕ) (t : Bool) → is_one q (blocks_at per k) ≡ t → (t || is_one q (flat_map (blocks_at per) ks)) ≡ true
        → (is_one q (flat_map (blocks_at per) ks) ≡ true → (j : ℕ) × (list_any (eq_by_cmp nat_cmp j) ks ≡ true) × (is_one q (blocks_at per j) ≡ true))
        → (j : ℕ) × (list_any (eq_by_cmp nat_cmp j) (k ∷ ks) ≡ true) × (is_one q (blocks_at per j) ≡ true)
    keys_step q k ks true is e later = (k, ap (λ t. t || list_any (eq_by_cmp nat_cmp k) ks) (same_key k), is)
    keys_step q k ks false is e later =
        let rest = later e in
        (rest.0, ap (λ t. eq_by_cmp nat_cmp rest.0 k || t) rest.1 ∙ or_true (eq_by_cmp nat_cmp rest.0 k), rest.2)

    from_keys : (q : Block) (ks : List ℕ) → is_one q (flat_map (blocks_at per) ks) ≡ true → (j : ℕ) × (list_any (eq_by_cmp nat_cmp j) ks ≡ true) × (is_one q (blocks_at per j) ≡ true)
    from_keys q [] e = let bad : ⊥ = cc e in absurd bad
    from_keys q (k ∷ ks) e =
        keys_step q k ks (is_one q (blocks_at per k)) refl (sym (any-cons (blocks_at per) (eq_by_cmp pair_cmp q) k ks) ∙ e) (from_keys q ks)

    pub used-few : used g.block_size (node_of g image inode) ≤ length (reached g image inode)
    unfolding used block_set node_of
    used-few =
        let few = few_blocks (flat_map (blocks_at per) (fmap.keys (fmap.from_entries {R = nat_cmp} es))) (map code (reached g image inode))
        (λ q e.
        let k = from_keys q (fmap.keys (fmap.from_entries {R = nat_cmp} es)) e in
        page-covers (map code (reached g image inode)) k.0 (reached g image inode) all-covered q k.2
        (ap (λ o. is_some o) (sym (fmap.get-from_entries nat_cmp_total es k.0)) ∙ fmap.contains_key-keys (fmap.from_entries {R = nat_cmp} es) k.0 ∙ k.1)) in
        let same : length (map code (reached g image inode)) ≡ length (reached g image inode) = length-map (reached g image inode) code in
        omega (arith, few, same)
