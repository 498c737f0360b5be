-- A page that is no hole has a held block.
use Rattle.std.proofs.Common.{◌≡◌, ◌≢◌, ◌+◌, ◌-◌, ◌*◌, ◌/◌, ◌%◌, ◌<◌, ◌≤◌, ◌==◌, ℕ, zero, suc, List, [], ◌∷◌, length, get_or, min, Bool}
use Rattle.std.proofs.Common.{true, false, cond, nat_lt, Option, Some, None, IsSome, IfSome, arith, refl, sym, ◌∙◌, ap, subst}
use Rattle.std.proofs.lemmas.Bool.Decides.{nat_tests}
use Rattle.std.proofs.lemmas.Nat.{div_below}
use Rattle.std.proofs.Math.Nat.{mul-le-mul_right}
use Rattle.sv_form.specs.Geometry.{IsGeometry}
use Rattle.sv_form.specs.PagePath.{IsPath, IsPage, page_of, block_numbers, first_single, first_double, first_triple, page_limit}
use Rattle.sv_form.specs.PagePath.{greatest_size}
use Rattle.sv_form.specs.declared.geometry.Geometry.{Geometry}
use Rattle.sv_form.specs.declared.page_path.PagePath.{PagePath}
use Rattle.sv_form.specs.declared.page_path.PagePath.TheVariants.{Direct, Single, Double, Triple}
use Rattle.sv_store.specs.Held.{Held, Origin, HoldsBlock, InRange}
use Rattle.sv_bmap.specs.Tree.{IsSpot, IsTree, page_block, path, places_of, slot_of}
use Rattle.sv_bmap.proofs.Paths.{path-is}
use Rattle.sv_inode.specs.Contents.{block_of, block_there, ahead_block, or_after, first_present, present_before}
use Rattle.sv_inode.proofs.PageParts.{page_below}

-- a page is below n, or it is so many past it
split_at : (page n : ℕ) (P : Type 0) → (page < n → P) → (n ≤ page → P) → P
split_at page n P low high = by (nat_lt page n) refl
  where
    by : (t : Bool) → nat_lt page n ≡ t → P
    by true e = low (grind (nat_tests, arith))
    by false e = high (grind (nat_tests, arith))

abbrev HasPath : Geometry → ℕ → Type 0
HasPath g page = (p : PagePath) × (IsPath g p × (page_of g p ≡ page))

quotient_rest : (x n : ℕ) → 0 < n → x / n * n + x % n ≡ x
quotient_rest x n pos = grind arith

rest_below : (x n : ℕ) → 0 < n → x % n < n
rest_below x n pos = grind arith

double_path : (g : Geometry) (page : ℕ) → 0 < block_numbers g → first_double (block_numbers g) ≤ page
    → page < first_triple (block_numbers g) → HasPath g page
double_path g page pos low high =
    let n : ℕ = block_numbers g in
    let x : ℕ = page - first_double n in
    let whole : x / n * n + x % n ≡ x = quotient_rest x n pos in
    (Double (x / n) (x % n), ((div_below x n n pos (omega arith), rest_below x n pos), omega arith))

triple_path : (g : Geometry) (page : ℕ) → 0 < block_numbers g → first_triple (block_numbers g) ≤ page → page < page_limit (block_numbers g)
    → HasPath g page
triple_path g page pos low high =
    let n : ℕ = block_numbers g in
    let x : ℕ = page - first_triple n in
    let bound : x < n * n * n = omega arith in
    let row : x / n < n * n = div_below x n (n * n) pos bound in
    let whole : x / n * n + x % n ≡ x = quotient_rest x n pos in
    let upper : x / n / n * n + x / n % n ≡ x / n = quotient_rest (x / n) n pos in
    let same : (x / n / n * n + x / n % n) * n + x % n ≡ x = ap (λ (q : ℕ). q * n + x % n) upper ∙ whole in
    (Triple (x / n / n) (x / n % n) (x % n), ((div_below (x / n) n n pos row, rest_below (x / n) n pos, rest_below x n pos), omega arith))

has_path : (g : Geometry) (page : ℕ) → 0 < block_numbers g → page < page_limit (block_numbers g) → HasPath g page
has_path g page pos limit =
    split_at page first_single (HasPath g page) (λ low. (Direct page, (low, refl)))
    (λ high. split_at page (first_double (block_numbers g)) (HasPath g page)
    (λ low. (Single (page - first_single), (omega arith, omega arith)))
    (λ high. split_at page (first_triple (block_numbers g)) (HasPath g page) (λ low. double_path g page pos high low)
    (λ high. triple_path g page pos high limit)))

path_spot : (g : Geometry) (p : PagePath) → IsPath g p → IsSpot (block_numbers g) (slot_of p) (places_of p)
path_spot g (Direct i) is = record { among = omega arith; deep = omega arith; places = λ m below. absurd (omega arith) }
path_spot g (Single i) is = record { among = omega arith; deep = omega arith; places = each }
  where
    each : (m : ℕ) → m < length (i ∷ []) → get_or (i ∷ []) m 0 < block_numbers g
    each zero below = is
    each (suc m) below = absurd (omega arith)
path_spot g (Double i j) is = record { among = omega arith; deep = omega arith; places = each }
  where
    each : (m : ℕ) → m < length (i ∷ j ∷ []) → get_or (i ∷ j ∷ []) m 0 < block_numbers g
    each zero below = is.0
    each (suc zero) below = is.1
    each (suc (suc m)) below = absurd (omega arith)
path_spot g (Triple i j k) is = record { among = omega arith; deep = omega arith; places = each }
  where
    each : (m : ℕ) → m < length (i ∷ j ∷ k ∷ []) → get_or (i ∷ j ∷ k ∷ []) m 0 < block_numbers g
    each zero below = is.0
    each (suc zero) below = is.1
    each (suc (suc zero)) below = is.2
    each (suc (suc (suc m))) below = absurd (omega arith)

page_spot : (g : Geometry) (page : ℕ) → 0 < block_numbers g → page < page_limit (block_numbers g)
    → IsSpot (block_numbers g) (slot_of (path (block_numbers g) page)) (places_of (path (block_numbers g) page))
page_spot g page pos limit =
    let there = has_path g page pos limit in
    let P : PagePath → Type 0 = λ q. IsSpot (block_numbers g) (slot_of q) (places_of q) in
    subst P (sym (path-is g there.0 page there.1.0 there.1.1)) (path_spot g there.0 there.1.0)

page_held : (o : Origin) (h : Held) (a : List ℕ) (page : ℕ) → IsTree o h a → 0 < block_numbers o.sizes
    → page < page_limit (block_numbers o.sizes) → page_block o.sizes h a page ≢ 0 → HoldsBlock o h (page_block o.sizes h a page)
unfolding Rattle.sv_form.specs.AddressTree.page_block
page_held o h a page tree pos limit some =
    tree.whole (slot_of (path (block_numbers o.sizes) page)) (places_of (path (block_numbers o.sizes) page))
    (page_spot o.sizes page pos limit) some

-- a page that a file may have is within the reach of the tree
pub reach : (g : Geometry) (k : ℕ) → 0 < g.block_size → k < greatest_size g → k / g.block_size < page_limit (block_numbers g)
reach g k pos low = div_below k g.block_size (page_limit (block_numbers g)) pos (omega arith)

pub page_reach : (g : Geometry) (page : ℕ) → 0 < g.block_size → IsPage g page → page < page_limit (block_numbers g)
page_reach g page pos is =
    split_at page (page_limit (block_numbers g)) (page < page_limit (block_numbers g)) (λ low. low)
    (λ high.
    let more : page_limit (block_numbers g) * g.block_size ≤ page * g.block_size = mul-le-mul_right g.block_size high in
    absurd (omega arith))

numbers_some : (g : Geometry) → IsGeometry g → 0 < block_numbers g
numbers_some g is = let size : g.block_size ≡ 1024 = is.block_size in omega arith

pub size_some : (g : Geometry) → IsGeometry g → 0 < g.block_size
size_some g is = let size : g.block_size ≡ 1024 = is.block_size in omega arith

-- the block of a page is held
pub block_held : (o : Origin) (h : Held) (a : List ℕ) (page : ℕ) → IsTree o h a → IsGeometry o.sizes → IsPage o.sizes page
    → IfSome (block_of o.sizes h a page) (HoldsBlock o h)
block_held o h a page tree is within =
    by (page_block o.sizes h a page) (page_block o.sizes h a page == 0) refl
    (page_held o h a page tree (numbers_some o.sizes is) (page_reach o.sizes page (size_some o.sizes is) within))
  where
    apart : (a b : ℕ) → (a == b) ≡ false → a ≢ b
    apart a b e = grind (nat_tests, arith)

    by : (b : ℕ) (t : Bool) → (b == 0) ≡ t → (b ≢ 0 → HoldsBlock o h b) → IfSome (cond t None (Some b)) (HoldsBlock o h)
    by b true e holds = tt
    by b false e holds = holds (apart b 0 e)

-- a held block is in range, and can be got where nothing is lent
line_some : (o : Origin) (h : Held) (b : ℕ) → IsGeometry o.sizes → HoldsBlock o h b → IsSome (h b 0)
line_some o h b is holds = let size : o.sizes.block_size ≡ 1024 = is.block_size in holds.at 0 (omega arith)

pub held_in_range : (o : Origin) (h : Held) (x : Option ℕ) → IsGeometry o.sizes → InRange o.sizes h → IfSome x (HoldsBlock o h)
    → IfSome x (λ b. b < o.sizes.blocks)
held_in_range o h None is range holds = tt
held_in_range o h (Some b) is range holds = range.block b 0 (line_some o h b is holds)

-- a page before the last one is a page that a file may have
pub is_page : (g g' : Geometry) (end pages p : ℕ) → g ≡ g' → 0 < g.block_size → pages ≡ end / g.block_size + min 1 (end % g.block_size)
    → end ≤ greatest_size g' → p < pages → IsPage g p
is_page g g' end pages p same pos e fits low =
    let below : p * g.block_size < end = page_below end g.block_size pages p pos e low in
    let P : Geometry → Type 0 = λ q. end ≤ greatest_size q in
    let limit : end ≤ greatest_size g = subst P (sym same) fits in
    omega arith

-- ---- the pages that are present

or_after-there : (page : ℕ) (x : Option ℕ) (after : Option (ℕ × ℕ)) → IfSome after (λ p. page < p.0)
    → block_there page (or_after page x after) ≡ x
or_after-there page None None later = refl
or_after-there page None (Some p) later = ap (λ t. cond t (Some p.1) None) (apart p.0 page later)
  where
    apart : (a b : ℕ) → b < a → (a == b) ≡ false
    apart a b low = grind (nat_tests, arith)
or_after-there page (Some b) after later = ap (λ t. cond t (Some b) None) (same page)
  where
    same : (a : ℕ) → (a == a) ≡ true
    same a = grind (nat_tests, arith)

or_after-past : (page : ℕ) (x : Option ℕ) (after : Option (ℕ × ℕ)) → x ≡ None → or_after page x after ≡ after
or_after-past page x after e = ap (λ q. or_after page q after) e

weaker : (x : Option (ℕ × ℕ)) (a b : ℕ) → a ≤ b → IfSome x (λ p. b ≤ p.0) → IfSome x (λ p. a ≤ p.0)
weaker None a b low is = tt
weaker (Some p) a b low is = omega arith

no_less : (g : Geometry) (h : Held) (a : List ℕ) (n page : ℕ) → IfSome (first_present g h a page n) (λ p. page ≤ p.0)
no_less g h a zero page = tt
no_less g h a (suc n) page = by (block_of g h a page) (no_less g h a n (page + 1))
  where
    by : (x : Option ℕ) → IfSome (first_present g h a (page + 1) n) (λ p. page + 1 ≤ p.0)
        → IfSome (or_after page x (first_present g h a (page + 1) n)) (λ p. page ≤ p.0)
    by None after = weaker (first_present g h a (page + 1) n) page (page + 1) (omega arith) after
    by (Some b) after = omega arith

-- one page on
pub present_step : (g : Geometry) (h : Held) (a : List ℕ) (page end : ℕ) → page < end
    → present_before g h a page end ≡ or_after page (block_of g h a page) (present_before g h a (page + 1) end)
unfolding present_before
present_step g h a page end low =
    let more : end - page ≡ suc (end - (page + 1)) = omega arith in
    ap (λ n. first_present g h a page n) more

pub present_none : (g : Geometry) (h : Held) (a : List ℕ) (page end : ℕ) → end ≤ page → present_before g h a page end ≡ None
unfolding present_before
present_none g h a page end low = let none : end - page ≡ 0 = omega arith in ap (λ n. first_present g h a page n) none

later : (g : Geometry) (h : Held) (a : List ℕ) (page end : ℕ) → IfSome (present_before g h a (page + 1) end) (λ p. page < p.0)
unfolding present_before
later g h a page end = by (first_present g h a (page + 1) (end - (page + 1))) (no_less g h a (end - (page + 1)) (page + 1))
  where
    by : (x : Option (ℕ × ℕ)) → IfSome x (λ p. page + 1 ≤ p.0) → IfSome x (λ p. page < p.0)
    by None is = tt
    by (Some p) is = omega arith

-- the block of a page is that of the first present one, where this is the page
pub there_is : (g : Geometry) (h : Held) (a : List ℕ) (page end : ℕ) → page < end
    → block_there page (present_before g h a page end) ≡ block_of g h a page
there_is g h a page end low =
    ap (block_there page) (present_step g h a page end low)
    ∙ or_after-there page (block_of g h a page) (present_before g h a (page + 1) end) (later g h a page end)

-- past a hole the first present page is the same
pub past_hole : (g : Geometry) (h : Held) (a : List ℕ) (page end : ℕ) → page < end → block_of g h a page ≡ None
    → present_before g h a page end ≡ present_before g h a (page + 1) end
past_hole g h a page end low e = present_step g h a page end low
    ∙ or_after-past page (block_of g h a page) (present_before g h a (page + 1) end) e

-- a page with a block is the first present one
pub at_present : (g : Geometry) (h : Held) (a : List ℕ) (page end b : ℕ) → page < end → block_of g h a page ≡ Some b
    → present_before g h a page end ≡ Some (page, b)
at_present g h a page end b low e = present_step g h a page end low ∙ ap (λ q. or_after page q (present_before g h a (page + 1) end)) e

first_held : (o : Origin) (h : Held) (a : List ℕ) (end : ℕ) → IsTree o h a → IsGeometry o.sizes
    → ((page : ℕ) → page < end → IsPage o.sizes page) → (n page : ℕ) → page + n ≤ end
    → IfSome (ahead_block (first_present o.sizes h a page n)) (HoldsBlock o h)
first_held o h a end tree is within zero page fits = tt
first_held o h a end tree is within (suc n) page fits =
    by (block_of o.sizes h a page) (block_held o h a page tree is (within page (omega arith)))
    (first_held o h a end tree is within n (page + 1) (omega arith))
  where
    by : (x : Option ℕ) → IfSome x (HoldsBlock o h) → IfSome (ahead_block (first_present o.sizes h a (page + 1) n)) (HoldsBlock o h)
        → IfSome (ahead_block (or_after page x (first_present o.sizes h a (page + 1) n))) (HoldsBlock o h)
    by None here after = after
    by (Some b) here after = here

pub present_held : (o : Origin) (h : Held) (a : List ℕ) (page end : ℕ) → IsTree o h a → IsGeometry o.sizes
    → ((page : ℕ) → page < end → IsPage o.sizes page) → IfSome (ahead_block (present_before o.sizes h a page end)) (HoldsBlock o h)
unfolding present_before
present_held o h a page end tree is within = by (nat_lt page end) refl
  where
    by : (t : Bool) → nat_lt page end ≡ t → IfSome (ahead_block (first_present o.sizes h a page (end - page))) (HoldsBlock o h)
    by true e = let low : page < end = grind (nat_tests, arith) in first_held o h a end tree is within (end - page) page (omega arith)
    by false e =
        let high : end ≤ page = grind (nat_tests, arith) in
        let none : 0 ≡ end - page = omega arith in
        let P : ℕ → Type 0 = λ n. IfSome (ahead_block (first_present o.sizes h a page n)) (HoldsBlock o h) in
        subst P none tt

-- ---- the same after reads of the tree

pub present_after : {o o' : Origin} {h h' : Held} (g : Geometry) (a : List ℕ) (page end : ℕ) → g ≡ o.sizes → o' ≡ o → h' ≡ h
    → present_before o'.sizes h' a page end ≡ present_before g h a page end
present_after {o} {o'} {h} {h'} g a page end same p q =
    ap (λ z. present_before z.sizes h' a page end) p
    ∙ (ap (λ z. present_before o.sizes z a page end) q ∙ ap (λ z. present_before z h a page end) (sym same))

pub some_after : {o o' : Origin} {h h' : Held} (x y : Option ℕ) → o' ≡ o → h' ≡ h → x ≡ y → IfSome y (HoldsBlock o h)
    → IfSome x (HoldsBlock o' h')
some_after {o} {o'} {h} {h'} x y p q e holds =
    let X : Option ℕ → Type 0 = λ z. IfSome z (HoldsBlock o h) in
    let O : Origin → Type 0 = λ z. IfSome x (HoldsBlock z h') in
    let H : Held → Type 0 = λ z. IfSome x (HoldsBlock o z) in
    subst O (sym p) (subst H (sym q) (subst X (sym e) holds))

pub range_after : {o o' : Origin} {h : Held} (g : Geometry) (x : Option ℕ) → g ≡ o.sizes → IsGeometry g → InRange g h → o' ≡ o
    → IfSome x (HoldsBlock o h) → IfSome x (λ b. b < o'.sizes.blocks)
range_after {o} {o'} {h} g x same is range p holds =
    let G : Geometry → Type 0 = λ z. IsGeometry z in
    let R : Geometry → Type 0 = λ z. InRange z h in
    let O : Origin → Type 0 = λ z. IfSome x (λ b. b < z.sizes.blocks) in
    subst O (sym p) (held_in_range o h x (subst G same is) (subst R same range) holds)

pub pages_after : {o o' : Origin} (end : ℕ) → o' ≡ o → ((page : ℕ) → page < end → IsPage o.sizes page) → (page : ℕ) → page < end
    → IsPage o'.sizes page
pages_after {o} {o'} end p within page low = let P : Origin → Type 0 = λ z. IsPage z.sizes page in subst P (sym p) (within page low)

pub block_after : {o o' : Origin} {h h' : Held} (a : List ℕ) (page : ℕ) → o' ≡ o → h' ≡ h
    → block_of o'.sizes h' a page ≡ block_of o.sizes h a page
block_after {o} {o'} {h} {h'} a page p q = ap (λ z. block_of z.sizes h' a page) p ∙ ap (λ z. block_of o.sizes z a page) q
