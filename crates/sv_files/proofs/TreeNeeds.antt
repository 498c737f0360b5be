-- What the pages of a range lack in the tree that stands for a node is what they add to the blocks that the node uses.
use Rattle.std.proofs.Common.{◌≡◌, ◌≢◌, ◌≤◌, ◌<◌, ◌+◌, ◌-◌, ◌*◌, ◌/◌, ◌==◌, ◌&&◌, ◌||◌, ℕ, zero, suc, Bool, true, false, not, List, []}
use Rattle.std.proofs.Common.{◌∷◌, inl, inr}
use Rattle.std.proofs.Common.{◌⊎◌, map, take, subst, max, cond, length, nat_le, nat_lt, slice_index, if◌then◌else◌, arith, ap, refl, sym}
use Rattle.std.proofs.Common.{◌∙◌}
use Rattle.std.specs.List.{count_by, list_any, range_with_len}
use Rattle.std.specs.FinSet as set
use Rattle.std.proofs.lemmas.Bool.{cases_eq, cases_lt, eq-eqb, false≢true, le-ltb, lt-ltb, ne_eqb}
use Rattle.std.proofs.lemmas.Bool.Decides.{nat_tests}
use Rattle.std.proofs.lemmas.List.FromFn.{length-range_with_len}
use Rattle.std.proofs.lemmas.List.Sums.{sum_by-cons}
use Rattle.std.proofs.lemmas.Nat.{div-mul-add, le-div}
use Rattle.std.proofs.Math.Nat.{div-mul-le_self, mul-le-mul_right}
use Rattle.sv_form.specs.declared.geometry.Geometry.{Geometry}
use Rattle.sv_form.specs.declared.inode.InodeBody.{InodeBody}
use Rattle.sv_form.specs.declared.page_path.PagePath.{PagePath}
use Rattle.sv_form.specs.declared.page_path.PagePath.TheVariants.{Direct, Single, Double, Triple}
use Rattle.sv_form.specs.AddressTree.{block_at}
use Rattle.sv_form.specs.Geometry.{IsGeometry}
use Rattle.sv_form.specs.Node.{Node, blocks_at}
use Rattle.sv_form.specs.NodeChanges.{touched}
use Rattle.sv_form.specs.NodeNeeds.{range_need}
use Rattle.sv_form.specs.PagePath.{IsPath, IsSpot, block_numbers, greatest_size, height_of, page_limit, page_of, places_of, slot_of}
use Rattle.sv_form.specs.Pair.{pair_cmp}
use Rattle.sv_plain.specs.Missing.{added, is_block, is_new}
use Rattle.sv_plain.proofs.BlocksAdded.{added-more, added-none, blocks_added-is, blocks_before}
use Rattle.sv_store.specs.Held.{Held, Origin}
use Rattle.sv_bmap.specs.Need.{Step, counts_at, need_at, need_of, way}
use Rattle.sv_bmap.specs.Tree.{child, number_in}
use Rattle.sv_bmap.proofs.Hang.{front-spot}
use Rattle.sv_bmap.proofs.Needs.{count-four, count-one, count-three, count-two, flag, need-is, need-more, need-none}
use Rattle.sv_bmap.proofs.PagePaths.{has_path, page_reach}
use Rattle.sv_bmap.proofs.PageSpots.{path-spot}
use Rattle.sv_inode.specs.StandsFor.{StandsFor}
use Rattle.sv_inode.specs.Write.{write_need}
use Rattle.sv_files.proofs.Hits.{any-hits, hits-any}
use Rattle.sv_files.proofs.TreeCodes.{Block, code_at, codes, is_code, spot-hit, spot-there}
use Rattle.sv_files.proofs.TreeUsed.{blocks-fronts, contains-code, double_page, downto, front_of, node_blocks, triple_page}

-- ---- the pages that have a block

or_none : (t : Bool) → (t || false) ≡ t
or_none true = refl
or_none false = refl

abbrev listed : Bool → Bool → Bool → ℕ → ℕ → ℕ → List Block
listed a b c p x y = (0, p) ∷ (if a then [] else (1, x) ∷ (if b then [] else (2, y) ∷ (if c then [] else (3, 0) ∷ [])))

has-0 : (a b c : Bool) (p x y z : ℕ) → list_any (is_block (0, z)) (listed a b c p x y) ≡ (z == p)
has-0 true b c p x y z = or_none (z == p)
has-0 false true c p x y z = or_none (z == p)
has-0 false false true p x y z = or_none (z == p)
has-0 false false false p x y z = or_none (z == p)

has-1 : (a b c : Bool) (p x y z : ℕ) → list_any (is_block (1, z)) (listed a b c p x y) ≡ (not a && (z == x))
has-1 true b c p x y z = refl
has-1 false true c p x y z = or_none (z == x)
has-1 false false true p x y z = or_none (z == x)
has-1 false false false p x y z = or_none (z == x)

has-2 : (a b c : Bool) (p x y z : ℕ) → list_any (is_block (2, z)) (listed a b c p x y) ≡ (not a && (not b && (z == y)))
has-2 true b c p x y z = refl
has-2 false true c p x y z = refl
has-2 false false true p x y z = or_none (z == y)
has-2 false false false p x y z = or_none (z == y)

has-3 : (a b c : Bool) (p x y : ℕ) → list_any (is_block (3, 0)) (listed a b c p x y) ≡ (not a && (not b && not c))
has-3 true b c p x y = refl
has-3 false true c p x y = refl
has-3 false false true p x y = refl
has-3 false false false p x y = refl

le_yes : (a b : ℕ) → a ≤ b → nat_le a b ≡ true
le_yes a b h = grind (nat_tests, arith)

le_no : (a b : ℕ) → b < a → nat_le a b ≡ false
le_no a b h = grind (nat_tests, arith)

and_none : (t : Bool) → (t && false) ≡ false
and_none true = refl
and_none false = refl

-- a page before the end of row z is in it exactly where it is not before its begin
in-row : (base w z y : ℕ) → 1 ≤ w → y < base + z * w + w → (not (nat_lt y base) && (z == (y - base) / w)) ≡ nat_le (base + z * w) y
in-row base w z y some low =
    elim (cases_lt y (base + z * w)) as (λ _. (not (nat_lt y base) && (z == (y - base) / w)) ≡ nat_le (base + z * w) y) [
      | inr past ↦
          let split : y - base ≡ z * w + (y - base - z * w) = omega (arith, past) in
          let at : (y - base) / w ≡ z =
          ap (λ (x : ℕ). x / w) split ∙ div-mul-add z w (y - base - z * w) (omega (arith, past, low)) in
          ap (λ (t : Bool). not t && (z == (y - base) / w)) (le-ltb y base (omega (arith, past))) ∙ eq-eqb z ((y - base) / w) (sym at)
          ∙ sym (le_yes (base + z * w) y past)
      | inl before ↦ elim (cases_lt y base) as (λ _. (not (nat_lt y base) && (z == (y - base) / w)) ≡ nat_le (base + z * w) y) [
        | inl first ↦
            ap (λ (t : Bool). not t && (z == (y - base) / w)) (lt-ltb y base first) ∙ sym (le_no (base + z * w) y before)
        | inr later ↦
            let most : (y - base) / w * w ≤ y - base = div-mul-le_self (y - base) w in
            let other : z ≢ (y - base) / w = λ e.
            (let row : z * w ≡ (y - base) / w * w = ap (λ (x : ℕ). x * w) e in omega (arith, row, most, before, later)) in
            ap (λ (t : Bool). not (nat_lt y base) && t) (ne_eqb z ((y - base) / w) other) ∙ and_none (not (nat_lt y base))
            ∙ sym (le_no (base + z * w) y before)
      ]
    ]

-- the same where an earlier begin is tested too
tested : (base early : ℕ) (t : Bool) (from y : ℕ) → early ≤ base → base ≤ from → (not (nat_lt y base) && t) ≡ nat_le from y
    → (not (nat_lt y early) && (not (nat_lt y base) && t)) ≡ nat_le from y
tested base early t from y low least is =
    elim (cases_lt y early) as (λ _. (not (nat_lt y early) && (not (nat_lt y base) && t)) ≡ nat_le from y) [
      | inl before ↦
          ap (λ (s : Bool). not s && (not (nat_lt y base) && t)) (lt-ltb y early before)
          ∙ sym (le_no from y (omega (arith, before, low, least)))
      | inr past ↦ ap (λ (s : Bool). not s && (not (nat_lt y base) && t)) (le-ltb y early past) ∙ is
    ]

begun : (base y : ℕ) → not (nat_lt y base) ≡ nat_le base y
begun base y =
    elim (cases_lt y base) as (λ _. not (nat_lt y base) ≡ nat_le base y) [
      | inl before ↦ ap not (lt-ltb y base before) ∙ sym (le_no base y before)
      | inr past ↦ ap not (le-ltb y base past) ∙ sym (le_yes base y past)
    ]

-- Of the pages before one, those that have a block are those from the first page below it on.
abbrev Begins : ℕ → Block → ℕ → ℕ → Type 0
Begins n q from page = (y : ℕ) → y < page → list_any (is_block q) (blocks_at n y) ≡ nat_le from y

begins-0 : (n z from page : ℕ) → z ≡ page → from ≡ page → Begins n (0, z) from page
begins-0 n z from page is e y low =
    has-0 (nat_lt y 10) (nat_lt y (10 + n)) (nat_lt y (10 + n + n * n)) y ((y - 10) / n) ((y - (10 + n)) / (n * n)) z
    ∙ ne_eqb z y (λ same. omega (arith, same, is, low)) ∙ sym (le_no from y (omega (arith, e, low)))

begins-1 : (n z from page : ℕ) → 1 ≤ n → from ≡ 10 + z * n → page ≤ 10 + z * n + n → Begins n (1, z) from page
begins-1 n z from page some is most y low =
    has-1 (nat_lt y 10) (nat_lt y (10 + n)) (nat_lt y (10 + n + n * n)) y ((y - 10) / n) ((y - (10 + n)) / (n * n)) z
    ∙ in-row 10 n z y some (omega (arith, low, most)) ∙ ap (λ (x : ℕ). nat_le x y) (sym is)

square : (n : ℕ) → 1 ≤ n → 1 ≤ n * n
square n some = grind arith

begins-2 : (n z from page : ℕ) → 1 ≤ n → from ≡ 10 + n + z * (n * n) → page ≤ 10 + n + z * (n * n) + n * n → Begins n (2, z) from page
begins-2 n z from page some is most y low =
    has-2 (nat_lt y 10) (nat_lt y (10 + n)) (nat_lt y (10 + n + n * n)) y ((y - 10) / n) ((y - (10 + n)) / (n * n)) z
    ∙ tested (10 + n) 10 (z == (y - (10 + n)) / (n * n)) (10 + n + z * (n * n)) y (omega arith) (omega arith)
    (in-row (10 + n) (n * n) z y (square n some) (omega (arith, low, most))) ∙ ap (λ (x : ℕ). nat_le x y) (sym is)

begins-3 : (n from page : ℕ) → from ≡ 10 + n + n * n → Begins n (3, 0) from page
begins-3 n from page is y low =
    has-3 (nat_lt y 10) (nat_lt y (10 + n)) (nat_lt y (10 + n + n * n)) y ((y - 10) / n) ((y - (10 + n)) / (n * n))
    ∙ tested (10 + n) 10 (not (nat_lt y (10 + n + n * n))) (10 + n + n * n) y (omega arith) (omega arith)
    (by_begin (cases_lt y (10 + n))) ∙ ap (λ (x : ℕ). nat_le x y) (sym is)
  where
    by_begin : (y < 10 + n) ⊎ (10 + n ≤ y) → (not (nat_lt y (10 + n)) && not (nat_lt y (10 + n + n * n))) ≡ nat_le (10 + n + n * n) y
    by_begin (inl before) =
        ap (λ (t : Bool). not t && not (nat_lt y (10 + n + n * n))) (lt-ltb y (10 + n) before)
        ∙ sym (le_no (10 + n + n * n) y (omega (arith, before)))
    by_begin (inr past) =
        ap (λ (t : Bool). not t && not (nat_lt y (10 + n + n * n))) (le-ltb y (10 + n) past) ∙ begun (10 + n + n * n) y

-- ---- one block of a page

new_step : (n first page from : ℕ) (q : Block) → first ≤ page → from ≤ page → Begins n q from page
    → (max first from == page) ≡ not (list_any (is_block q) (blocks_before n first page))
new_step n first page from q low lower begins =
    elim (cases_eq page first) as (λ _. (max first from == page) ≡ not (list_any (is_block q) (blocks_before n first page))) [
      | inl e ↦
          eq-eqb (max first from) page (omega (arith, e, lower))
          ∙ sym (ap (λ (t : Bool). not (list_any (is_block q) (if t then [] else blocks_at n (page - 1)))) (eq-eqb page first e))
      | inr ne ↦
          let before : list_any (is_block q) (blocks_before n first page) ≡ nat_le from (page - 1) =
          ap (λ (t : Bool). list_any (is_block q) (if t then [] else blocks_at n (page - 1))) (ne_eqb page first ne)
          ∙ begins (page - 1) (omega (arith, low, ne)) in
          elim (cases_eq from page) as (λ _. (max first from == page) ≡ not (list_any (is_block q) (blocks_before n first page))) [
            | inl same ↦
                eq-eqb (max first from) page (omega (arith, same, low))
                ∙ sym (ap not (before ∙ le_no from (page - 1) (omega (arith, same, low, ne))))
            | inr less ↦
                ne_eqb (max first from) page (λ e. omega (arith, e, low, lower, ne, less))
                ∙ sym (ap not (before ∙ le_yes from (page - 1) (omega (arith, lower, less))))
          ]
    ]

-- it is counted as missing where the node gains it
counted-new : (n first page from block : ℕ) (s : set.FinSet pair_cmp) (q : Block) → first ≤ page → from ≤ page → Begins n q from page
    → (block == 0) ≡ not (set.contains s q)
    → flag (counts_at first page (record { from = from; block = block })) ≡ flag (is_new s (blocks_before n first page) q)
counted-new n first page from block s q low lower begins hole =
    ap (λ (t : Bool). flag (t && (max first from == page))) hole
    ∙ ap (λ (t : Bool). flag (not (set.contains s q) && t)) (new_step n first page from q low lower begins)

count-more : (f : Block → Bool) (b : Block) (bs : List Block) → count_by f (b ∷ bs) ≡ flag (f b) + count_by f bs
count-more f b bs = sum_by-cons (λ (c : Block). cond (f c) 1 0) b bs

one-block : (f : Block → Bool) (w : Block) → count_by f (w ∷ []) ≡ flag (f w)
one-block f w = let none : count_by f [] ≡ 0 = refl in omega (arith, count-more f w [], none)

turn-2 : (a b c d x y : ℕ) → x ≡ a + b → y ≡ d + c → a ≡ c → b ≡ d → x ≡ y
turn-2 a b c d x y e f p q = omega arith

turn-3 : (a b c d e f x y : ℕ) → x ≡ a + (b + c) → y ≡ f + (e + d) → a ≡ d → b ≡ e → c ≡ f → x ≡ y
turn-3 a b c d e f x y p q r s t = omega arith

turn-4 : (a b c d e f g h x y : ℕ) → x ≡ a + (b + (c + d)) → y ≡ h + (g + (f + e)) → a ≡ e → b ≡ f → c ≡ g → d ≡ h → x ≡ y
turn-4 a b c d e f g h x y p q r s t u = omega arith

two-blocks : (f : Block → Bool) (v w : Block) → count_by f (v ∷ w ∷ []) ≡ flag (f v) + flag (f w)
two-blocks f v w = omega (arith, count-more f v (w ∷ []), one-block f w)

three-blocks : (f : Block → Bool) (u v w : Block) → count_by f (u ∷ v ∷ w ∷ []) ≡ flag (f u) + (flag (f v) + flag (f w))
three-blocks f u v w = omega (arith, count-more f u (v ∷ w ∷ []), two-blocks f v w)

four-blocks : (f : Block → Bool) (t u v w : Block) → count_by f (t ∷ u ∷ v ∷ w ∷ []) ≡ flag (f t) + (flag (f u) + (flag (f v) + flag (f w)))
four-blocks f t u v w = omega (arith, count-more f t (u ∷ v ∷ w ∷ []), three-blocks f u v w)

pair_bound : (n i j : ℕ) → i < n → j < n → i * n + j < n * n
pair_bound n i j low high = grind arith

double_begin : (n i : ℕ) → 10 + n + (i * n + 0) ≡ 10 + (1 + (0 * n + i)) * n
double_begin n i = grind arith

triple_begin : (n i : ℕ) → 10 + n + n * n + ((i * n + 0) * n + 0) ≡ 10 + n + (1 + (0 * n + i)) * (n * n)
triple_begin n i = grind arith

triple_end : (n i j k : ℕ) → 10 + n + n * n + ((i * n + j) * n + k) ≡ 10 + n + (1 + (0 * n + i)) * (n * n) + (j * n + k)
triple_end n i j k = grind arith

triple_row : (n i j : ℕ) → 10 + n + n * n + ((i * n + j) * n + 0) ≡ 10 + (1 + ((1 + (0 * n + i)) * n + j)) * n
triple_row n i j = grind arith

direct_code : (n i : ℕ) → i < 10 → (0, i) ≡ code_at n i []
direct_code n i low =
    let flat : 0 ≡ height_of i - 0 = omega (arith, low) in
    let top : cond (nat_lt i 10) i 0 ≡ i = ap (λ (t : Bool). cond t i 0) (lt-ltb i 10 low) in
    ap (λ (x : ℕ). (x, i)) flat ∙ ap (λ (x : ℕ). (height_of i - 0, x)) (sym top)

module _ (o : Origin) (h : Held) (body : InodeBody) (node : Node) (sizes : IsGeometry o.sizes) (stands : StandsFor o h body node) where
  abbrev g : Geometry
  g = o.sizes

  abbrev n : ℕ
  n = block_numbers o.sizes

  abbrev a : List ℕ
  a = body.addresses

  abbrev s : set.FinSet pair_cmp
  s = node_blocks o h body node sizes stands

  abbrev all_codes : List Block
  all_codes = codes n (number_in h) (slice_index a)

  abbrev at : ℕ → List ℕ → ℕ
  at slot ks = block_at (number_in h) (slice_index a) slot ks

  some-numbers : 1 ≤ n
  some-numbers = (let bytes = sizes.block_size in omega (arith, bytes))

  -- a spot is a hole where the node has not its block
  hole-new : (slot : ℕ) (ks : List ℕ) → IsSpot n slot ks → (at slot ks == 0) ≡ not (set.contains s (code_at n slot ks))
  hole-new slot ks spot =
      elim (cases_eq (at slot ks) 0) as (λ _. (at slot ks == 0) ≡ not (set.contains s (code_at n slot ks))) [
        | inl none ↦
            eq-eqb (at slot ks) 0 none
            ∙ sym (ap not (contains-code o h body node sizes stands (code_at n slot ks)
            ∙ absent none (list_any (is_code (code_at n slot ks)) all_codes) refl))
        | inr some ↦
            ne_eqb (at slot ks) 0 some
            ∙ sym (ap not (contains-code o h body node sizes stands (code_at n slot ks)
            ∙ hits-any (is_code (code_at n slot ks)) all_codes (spot-hit n (number_in h) (slice_index a) slot ks spot some)))
      ]
    where
      absent : at slot ks ≡ 0 → (t : Bool) → list_any (is_code (code_at n slot ks)) all_codes ≡ t
          → list_any (is_code (code_at n slot ks)) all_codes ≡ false
      absent none false is = is
      absent none true is =
          absurd (spot-there n (number_in h) (slice_index a) slot ks spot (any-hits (is_code (code_at n slot ks)) all_codes is) none)

  module _ (first page : ℕ) (low : first ≤ page) where
    abbrev new : Block → Bool
    new = is_new s (blocks_before n first page)

    abbrev counts : Step → Bool
    counts = counts_at first page

    -- one block on the way to a page
    one : (p : PagePath) → IsPath g p → (m from : ℕ) → m ≤ length (places_of p) → from ≤ page → Begins n (front_of n p m) from page
        → flag (counts (record { from = from; block = at (slot_of p) (take m (places_of p)) })) ≡ flag (new (front_of n p m))
    one p is m from fits lower begins =
        counted-new n first page from (at (slot_of p) (take m (places_of p))) s (front_of n p m) low lower begins
        (hole-new (slot_of p) (take m (places_of p)) (front-spot (places_of p) m fits (path-spot g p is)))

    on-way : (p : PagePath) → IsPath g p → page_of g p ≡ page
        → count_by counts (way g h a p) ≡ count_by new (map (front_of n p) (downto (length (places_of p))))
    on-way (Direct i) is e =
        let here = one (Direct i) is 0 i (omega arith) (omega (arith, e))
        (subst (λ (q : Block). Begins n q i page) (direct_code n i is) (begins-0 n i i page e e)) in
        count-one counts (record { from = i; block = slice_index a i }) ∙ here ∙ sym (one-block new (front_of n (Direct i) 0))
    on-way (Single i) is e =
        let p : PagePath = Single i in
        let top = one p is 0 (10 + 0) (omega arith) (omega (arith, e))
        (begins-1 n 0 (10 + 0) page some-numbers (omega arith) (omega (arith, e, is))) in
        let last = one p is 1 (10 + i) (omega arith) (omega (arith, e))
        (begins-0 n (10 + (0 * n + i)) (10 + i) page (omega (arith, e)) e) in
        turn-2 _ _ _ _ _ _
        (count-two counts (record { from = 10 + 0; block = slice_index a 10 })
        (record { from = 10 + i; block = child h (slice_index a 10) i }))
        (two-blocks new (front_of n p 1) (front_of n p 0)) top last
    on-way (Double i j) is e =
        let p : PagePath = Double i j in
        let bound = pair_bound n i j is.0 is.1 in
        let top = one p is 0 (10 + n + (0 * n + 0)) (omega arith) (omega (arith, e))
        (begins-2 n 0 (10 + n + (0 * n + 0)) page some-numbers (omega arith) (omega (arith, e, bound))) in
        let row = one p is 1 (10 + n + (i * n + 0)) (omega arith) (omega (arith, e))
        (begins-1 n (1 + (0 * n + i)) (10 + n + (i * n + 0)) page some-numbers (double_begin n i)
        (let below = is.1 in omega (arith, e, below, double_page n i j))) in
        let last = one p is 2 (10 + n + (i * n + j)) (omega arith) (omega (arith, e))
        (begins-0 n (10 + ((1 + (0 * n + i)) * n + j)) (10 + n + (i * n + j)) page (sym (double_page n i j) ∙ e) e) in
        turn-3 _ _ _ _ _ _ _ _
        (count-three counts (record { from = 10 + n + (0 * n + 0); block = slice_index a 11 })
        (record { from = 10 + n + (i * n + 0); block = child h (slice_index a 11) i })
        (record { from = 10 + n + (i * n + j); block = child h (child h (slice_index a 11) i) j }))
        (three-blocks new (front_of n p 2) (front_of n p 1) (front_of n p 0)) top row last
    on-way (Triple i j k) is e =
        let p : PagePath = Triple i j k in
        let bound = pair_bound n j k is.1 is.2 in
        let top = one p is 0 (10 + n + n * n + ((0 * n + 0) * n + 0)) (omega arith) (omega (arith, e))
        (begins-3 n (10 + n + n * n + ((0 * n + 0) * n + 0)) page (omega arith)) in
        let square = one p is 1 (10 + n + n * n + ((i * n + 0) * n + 0)) (omega arith)
        (omega (arith, e, triple_begin n i, triple_end n i j k))
        (begins-2 n (1 + (0 * n + i)) (10 + n + n * n + ((i * n + 0) * n + 0)) page some-numbers (triple_begin n i)
        (omega (arith, e, bound, triple_end n i j k))) in
        let row = one p is 2 (10 + n + n * n + ((i * n + j) * n + 0)) (omega arith) (omega (arith, e))
        (begins-1 n (1 + ((1 + (0 * n + i)) * n + j)) (10 + n + n * n + ((i * n + j) * n + 0)) page some-numbers (triple_row n i j)
        (let below = is.2 in omega (arith, e, below, triple_page n i j k))) in
        let last = one p is 3 (10 + n + n * n + ((i * n + j) * n + k)) (omega arith) (omega (arith, e))
        (begins-0 n (10 + ((1 + ((1 + (0 * n + i)) * n + j)) * n + k)) (10 + n + n * n + ((i * n + j) * n + k)) page
        (sym (triple_page n i j k) ∙ e) e) in
        turn-4 _ _ _ _ _ _ _ _ _ _
        (count-four counts (record { from = 10 + n + n * n + ((0 * n + 0) * n + 0); block = slice_index a 12 })
        (record { from = 10 + n + n * n + ((i * n + 0) * n + 0); block = child h (slice_index a 12) i })
        (record { from = 10 + n + n * n + ((i * n + j) * n + 0); block = child h (child h (slice_index a 12) i) j })
        (record { from = 10 + n + n * n + ((i * n + j) * n + k); block = child h (child h (child h (slice_index a 12) i) j) k }))
        (four-blocks new (front_of n p 3) (front_of n p 2) (front_of n p 1) (front_of n p 0)) top square row last

  page-need : (first page : ℕ) → first ≤ page → page < page_limit n
      → need_at g h a first page ≡ count_by (is_new s (blocks_before n first page)) (blocks_at n page)
  page-need first page low limit =
      let path = has_path g page some-numbers limit in
      need-is g g h a path.0 first page refl path.1.0 path.1.1 ∙ on-way first page low path.0 path.1.0 path.1.1
      ∙ sym (ap (count_by (is_new s (blocks_before n first page))) (ap (blocks_at n) (sym path.1.1) ∙ blocks-fronts g path.0 path.1.0))

  need-added : (first k : ℕ) → ((page : ℕ) → first ≤ page → page < first + k → page < page_limit n)
      → need_of g h a first k ≡ added s n (range_with_len first k)
  need-added first zero within = sym (need-none g h a first) ∙ added-none s n first
  need-added first (suc k) within =
      let turn : suc k ≡ k + 1 = omega arith in
      let rest = need-added first k (λ page low high. within page low (omega (arith, high))) in
      let here = page-need first (first + k) (omega arith) (within (first + k) (omega arith) (omega arith)) in
      let more = added-more s n first k some-numbers in
      ap (need_of g h a first) turn ∙ need-more g h a first k ∙ omega (arith, rest, here, more)
      ∙ ap (λ (m : ℕ). added s n (range_with_len first m)) (sym turn)

  reach : (at count : ℕ) → count ≢ 0 → at + count ≤ greatest_size g → (page : ℕ) → at / g.block_size ≤ page
      → page < at / g.block_size + ((at + count - 1) / g.block_size - at / g.block_size + 1) → page < page_limit n
  reach at count some fits page low high =
      let bytes = sizes.block_size in
      let first : at / g.block_size ≤ (at + count - 1) / g.block_size =
      le-div (at / g.block_size) (at + count - 1) g.block_size (omega (arith, bytes))
      (let whole = div-mul-le_self at g.block_size in omega (arith, whole, some)) in
      let least : page * g.block_size ≤ (at + count - 1) / g.block_size * g.block_size = mul-le-mul_right g.block_size
      (omega (arith, high, first)) in
      let most = div-mul-le_self (at + count - 1) g.block_size in
      page_reach g page (omega (arith, bytes)) (omega (arith, least, most, fits, some))

  need_step : (at count : ℕ) (t : Bool) → (count == 0) ≡ t → at + count ≤ greatest_size g
      → need_of g h a (at / g.block_size)
      (length (if t then [] else range_with_len (at / g.block_size) ((at + count - 1) / g.block_size - at / g.block_size + 1)))
      ≡ added s n (if t then [] else range_with_len (at / g.block_size) ((at + count - 1) / g.block_size - at / g.block_size + 1))
  need_step at count true is fits = need-added (at / g.block_size) 0 (λ page low high. absurd (omega (arith, low, high)))
  need_step at count false is fits =
      let k : ℕ = (at + count - 1) / g.block_size - at / g.block_size + 1 in
      ap (need_of g h a (at / g.block_size)) (length-range_with_len (at / g.block_size) k)
      ∙ need-added (at / g.block_size) k (reach at count (λ e. false≢true (sym is ∙ eq-eqb count 0 e)) fits)

  pub write-need : (at count : ℕ) → at + count ≤ greatest_size g → write_need g h a at count ≡ range_need g.block_size node at count
  write-need at count fits =
      need_step at count (count == 0) refl fits ∙ blocks_added-is g.block_size node (touched g.block_size at count)
