-- Blocks that are cut off one after another, and a page far out in a file without pages.
use Rattle.std.proofs.Common.{◌≡◌, ◌≢◌, ◌<◌, ◌≤◌, ◌+◌, ◌*◌, ◌/◌, ◌==◌, ◌&&◌, ◌||◌, ◌⊎◌, ◌++◌, inl, inr, ℕ, zero, suc, Bool, true, false}
use Rattle.std.proofs.Common.{List, [], ◌∷◌, length, map, get_or, nat_le, nat_lt, None, IsSome, is_some, refl, sym, ap, ◌∙◌, subst, arith}
use Rattle.std.proofs.lemmas.Bool.{eqb-true, false≢true}
use Rattle.std.proofs.lemmas.Bool.Decides.{nat_tests}
use Rattle.std.specs.List.{All}
use Rattle.std.proofs.lemmas.List.Elements.{All-same, All-push}
use Rattle.std.proofs.lemmas.List.{map_push, length_push, get_or_push, get_or_append_left}
use Rattle.sv_form.specs.PagePath.{block_numbers, first_triple}
use Rattle.sv_form.specs.declared.owners.LineRange.{LineRange}
use Rattle.sv_form.specs.declared.geometry.Geometry.{Geometry}
use Rattle.sv_form.specs.declared.page_path.PagePath.TheVariants.{Triple}
use Rattle.sv_store.specs.Held.{Held, Lent, Origin, HoldsBlock, covers, in_ranges, rest}
use Rattle.sv_store.specs.Calls.{CanPart, Parts}
use Rattle.sv_dev.specs.Tally.{Numbers}
use Rattle.sv_store.proofs.Holding.{CanPart-range, IsSome-given, IsSome-kept, eqb_same, in_range-other, is_some-rest, is_some-chosen}
use Rattle.sv_store.proofs.Holding.{none_from}
use Rattle.sv_bmap.specs.Attach.{CanAttach}
use Rattle.sv_bmap.specs.Cut.{IsCut}
use Rattle.sv_bmap.specs.Need.{need_of}
use Rattle.sv_bmap.specs.Parts.{AllApart, part}
use Rattle.sv_bmap.specs.Tree.{IsTree, page_block, path, places_of, slot_of}
use Rattle.sv_bmap.proofs.Empty.{down-hole, thirteen, zeros}
use Rattle.sv_bmap.proofs.Gaps.{hole-zeros, need-zeros}
use Rattle.sv_bmap.proofs.Needs.{tree-after}

no : (x y : ℕ) → (x == y) ≡ false → x ≢ y
no x y h = grind (nat_tests, arith)

-- where a stake in memory comes from
abbrev pub origin_of : Numbers → Geometry → Origin
origin_of numbers sizes = record { id = numbers.fails; sizes = sizes }

-- all sixteen lines of a block
abbrev pub all_of : ℕ → LineRange
all_of b = record { block = b; first = 0; count = 16 }

or-false : (t : Bool) → (t || false) ≡ t
or-false true = refl
or-false false = refl

and-true : (a b : Bool) → (a && b) ≡ true → (a ≡ true) × (b ≡ true)
and-true true b h = (refl, h)
and-true false b h = absurd (false≢true h)

in-all : (b l : ℕ) → l < 16 → in_ranges (all_of b ∷ []) b l ≡ true
unfolding covers
in-all b l low =
    or-false ((b == b) && (nat_le 0 l && nat_lt l (0 + 16)))
    ∙ (ap (λ q. q && (nat_le 0 l && nat_lt l (0 + 16))) (eqb_same b)
    ∙ (ap (λ q. q && nat_lt l (0 + 16)) (least l) ∙ high l (0 + 16) (omega (arith, low))))
  where
    least : (x : ℕ) → nat_le 0 x ≡ true
    least x = grind (nat_tests, arith)

    high : (x y : ℕ) → x < y → nat_lt x y ≡ true
    high x y h = grind (nat_tests, arith)

all-means : (b c l : ℕ) → in_ranges (all_of b ∷ []) c l ≡ true → (c ≡ b) × (l < 16)
unfolding covers
all-means b c l e =
    let one = and-true (b == c) (nat_le 0 l && nat_lt l (0 + 16)) (sym (or-false ((b == c) && (nat_le 0 l && nat_lt l (0 + 16)))) ∙ e) in
    let two = and-true (nat_le 0 l) (nat_lt l (0 + 16)) one.1 in
    (sym (eqb-true b c one.0), high l (0 + 16) two.1)
  where
    high : (x y : ℕ) → nat_lt x y ≡ true → x < y
    high x y h = grind (nat_tests, arith)

given-means : {h mine theirs : Held} {lines : List LineRange} → Parts h lines mine theirs → (b l : ℕ) → IsSome (theirs b l)
    → in_ranges lines b l ≡ true
given-means {h} {mine} {theirs} {lines} parts b l is = by (in_ranges lines b l) refl
  where
    by : (t : Bool) → in_ranges lines b l ≡ t → in_ranges lines b l ≡ true
    by true e = e
    by false e = absurd (false≢true (sym (ap (λ q. is_some (q b l)) parts.given ∙ is_some-chosen lines h b l false e) ∙ is))

gone-none : {h mine theirs : Held} {lines : List LineRange} → Parts h lines mine theirs → (b l : ℕ) → h b l ≡ None → mine b l ≡ None
gone-none {h} {mine} {theirs} {lines} parts b l none = none_from (mine b l)
    (ap (λ q. is_some (q b l)) parts.kept ∙ by (in_ranges lines b l) refl)
  where
    by : (t : Bool) → in_ranges lines b l ≡ t → is_some (rest lines h b l) ≡ false
    by true e = is_some-rest lines h b l true e
    by false e = is_some-rest lines h b l false e ∙ ap is_some none

gone-given : {h mine theirs : Held} {lines : List LineRange} → Parts h lines mine theirs → (b l : ℕ) → in_ranges lines b l ≡ true
    → mine b l ≡ None
gone-given {h} {mine} {theirs} {lines} parts b l e = none_from (mine b l)
    (ap (λ q. is_some (q b l)) parts.kept ∙ is_some-rest lines h b l true e)

pub cut-none : (h : Held) (parts : List Held) → length parts ≡ 0 → ((b l : ℕ) → b < 200 → l < 16 → IsSome (h b l)) → IsCut 0 h parts
cut-none h parts none all = record {
  count = none;
  whole = λ i l low. absurd (omega (arith, low));
  only = λ i b l low. absurd (omega (arith, low));
  gone = λ i l low. absurd (omega (arith, low));
  left = λ b l low below apart. all b l low below;
}

part-pushed : (parts : List Held) (p : Held) (i : ℕ) → length parts ≡ i → part (parts ++ p ∷ []) i ≡ p
part-pushed parts p i e = get_or_push parts p (λ _ _. None) i e

part-before : (parts : List Held) (p : Held) (i : ℕ) → i < length parts → part (parts ++ p ∷ []) i ≡ part parts i
part-before parts p i low = get_or_append_left parts (p ∷ []) (λ _ _. None) i low

-- one block more
pub cut-more : {h mine theirs : Held} {parts : List Held} (k : ℕ) → IsCut k h parts → k < 100 → Parts h (all_of (100 + k) ∷ []) mine theirs
    → IsCut (k + 1) mine (parts ++ theirs ∷ [])
cut-more {h} {mine} {theirs} {parts} k cut few two = record {
  count = length_push parts theirs ∙ omega (arith, cut.count);
  whole = λ i l low below. whole i l low below (i == k) refl;
  only = λ i b l low is. only i b l low is (i == k) refl;
  gone = λ i l low below. gone i l low below (i == k) refl;
  left = λ b l low below side. IsSome-kept two b l (in_range-other (all_of (100 + k)) b l (λ e. away b side (sym e)))
      (cut.left b l low below (wider b side));
}
  where
    whole : (i l : ℕ) → i < k + 1 → l < 16 → (t : Bool) → (i == k) ≡ t → IsSome (part (parts ++ theirs ∷ []) i (100 + i) l)
    whole i l low below true e =
        (let same : i ≡ k = eqb-true i k e in
        ap (λ q. is_some (q (100 + i) l)) (part-pushed parts theirs i (cut.count ∙ sym same))
        ∙ (ap (λ q. is_some (theirs (100 + q) l)) same
        ∙ IsSome-given two (100 + k) l (in-all (100 + k) l below)
        (cut.left (100 + k) l (omega (arith, few)) below (inr (omega arith)))))
    whole i l low below false e =
        (let less : i < k = (let apart : i ≢ k = no i k e in omega (arith, low)) in
        ap (λ q. is_some (q (100 + i) l)) (part-before parts theirs i (omega (arith, less, cut.count))) ∙ cut.whole i l less below)

    only : (i b l : ℕ) → i < k + 1 → IsSome (part (parts ++ theirs ∷ []) i b l) → (t : Bool) → (i == k) ≡ t → (b ≡ 100 + i) × (l < 16)
    only i b l low is true e =
        (let same : i ≡ k = eqb-true i k e in
        let some : IsSome (theirs b l) = sym (ap (λ q. is_some (q b l)) (part-pushed parts theirs i (cut.count ∙ sym same))) ∙ is in
        let means = all-means (100 + k) b l (given-means two b l some) in
        (omega (arith, means.0, same), means.1))
    only i b l low is false e =
        (let less : i < k = (let apart : i ≢ k = no i k e in omega (arith, low)) in
        cut.only i b l less (sym (ap (λ q. is_some (q b l)) (part-before parts theirs i (omega (arith, less, cut.count)))) ∙ is))

    gone : (i l : ℕ) → i < k + 1 → l < 16 → (t : Bool) → (i == k) ≡ t → mine (100 + i) l ≡ None
    gone i l low below true e =
        (let same : i ≡ k = eqb-true i k e in ap (λ q. mine (100 + q) l) same ∙ gone-given two (100 + k) l (in-all (100 + k) l below))
    gone i l low below false e =
        (let less : i < k = (let apart : i ≢ k = no i k e in omega (arith, low)) in gone-none two (100 + i) l (cut.gone i l less below))

    away : (b : ℕ) → (b < 100) ⊎ (100 + (k + 1) ≤ b) → b ≢ 100 + k
    away b (inl low) e = omega (arith, low, e)
    away b (inr high) e = omega (arith, high, e)

    wider : (b : ℕ) → (b < 100) ⊎ (100 + (k + 1) ≤ b) → (b < 100) ⊎ (100 + k ≤ b)
    wider b (inl low) = inl low
    wider b (inr high) = inr (omega (arith, high))

pub cut-pushed : {S : Type 0} (held : S → Held) {h mine : Held} (xs ys : List S) (p : S) (k : ℕ) → IsCut k h (map held xs) → k < 100
    → Parts h (all_of (100 + k) ∷ []) mine (held p) → ys ≡ xs ++ p ∷ [] → IsCut (k + 1) mine (map held ys)
cut-pushed held {h} {mine} xs ys p k cut few two pushed =
    let P : List Held → Type 0 = λ q. IsCut (k + 1) mine q in
    subst P (sym (ap (map held) pushed ∙ map_push held xs p)) (cut-more k cut few two)

pub cut-all : {h : Held} {parts : List Held} (k n : ℕ) → k ≡ n → IsCut k h parts → IsCut n h parts
cut-all {h} {parts} k n e cut = let P : ℕ → Type 0 = λ q. IsCut q h parts in subst P e cut

pub all-pushed : {S : Type 0} (P : S → Type 0) (xs ys : List S) (p : S) → ys ≡ xs ++ p ∷ [] → All P xs → P p → All P ys
all-pushed P xs ys p pushed all here = All-same P ys (xs ++ p ∷ []) pushed (All-push P xs p all here)

-- the tree after an attach that was refused
pub tree-kept : {o o' : Origin} {h h' : Held} {a a' : List ℕ} → o' ≡ o → h' ≡ h → a' ≡ a → IsTree o h a → IsTree o' h' a'
tree-kept {o} {o'} {h} {h'} {a} {a'} p q e tree =
    let P : List ℕ → Type 0 = λ z. IsTree o' h' z in
    subst P (sym e) (tree-after p q tree)

pub cut-can : {h : Held} {m : Lent} {parts : List Held} (k : ℕ) → IsCut k h parts → k < 100 → m (100 + k) ≡ None
    → CanPart h m (all_of (100 + k) ∷ [])
cut-can {h} {m} {parts} k cut few away =
    CanPart-range h m (all_of (100 + k))
    (λ l low high. cut.left (100 + k) l (omega (arith, few)) (omega (arith, high)) (inr (omega arith))) away (omega arith) 0 0
    (cut.left 0 0 (omega arith) (omega arith) (inl (omega arith))) (λ e. omega (arith, e))

-- no line is held twice
pub cut-apart : {k : ℕ} {h : Held} {parts : List Held} → IsCut k h parts → AllApart h parts
cut-apart {k} {h} {parts} cut = record {
  own = λ i low. record { at = λ b l is. own i (omega (arith, low, cut.count)) b l is (is_some (part parts i b l)) refl };
  each = λ i j low below other.
      record {
        at = λ b l is. each i j (omega (arith, low, cut.count)) (omega (arith, below, cut.count)) other b l is
            (is_some (part parts j b l)) refl;
      };
}
  where
    own : (i : ℕ) → i < k → (b l : ℕ) → IsSome (h b l) → (t : Bool) → is_some (part parts i b l) ≡ t → part parts i b l ≡ None
    own i low b l is false e = none_from (part parts i b l) e
    own i low b l is true e =
        (let means = cut.only i b l low e in
        absurd (false≢true (sym (ap is_some (ap (λ q. h q l) means.0 ∙ cut.gone i l low means.1)) ∙ is)))

    each : (i j : ℕ) → i < k → j < k → i ≢ j → (b l : ℕ) → IsSome (part parts i b l) → (t : Bool) → is_some (part parts j b l) ≡ t
        → part parts j b l ≡ None
    each i j low below other b l is false e = none_from (part parts j b l) e
    each i j low below other b l is true e =
        (let one = cut.only i b l low is in let two = cut.only j b l below e in absurd (other (omega (arith, one.0, two.0))))

-- ---- page 65802 needs its block and three indirect ones

need-far : (g : Geometry) (h : Held) → g.block_size ≡ 1024 → need_of g h thirteen 65802 1 ≡ 4
need-far g h size =
    let n-is : block_numbers g ≡ 256 = ap (λ (q : ℕ). q / 4) size in
    need-zeros g h thirteen (Triple 0 0 0) 65802 (omega (arith, n-is), omega (arith, n-is), omega (arith, n-is))
    (ap (λ (n : ℕ). first_triple n + ((0 * n + 0) * n + 0)) n-is) ∙ hole-zeros h 0 (0 ∷ 0 ∷ 0 ∷ []) refl

hole-page : (g : Geometry) (h : Held) (page : ℕ) → page_block g h thirteen page ≡ 0
unfolding Rattle.sv_form.specs.AddressTree.page_block
hole-page g h page = down-hole h (get_or thirteen (slot_of (path (block_numbers g) page)) 0) (places_of (path (block_numbers g) page))
    (zeros (slot_of (path (block_numbers g) page)))

four : (P : ℕ → ℕ → Type 0) → P 0 100 → P 1 101 → P 2 102 → P 3 103 → (i : ℕ) → i < 4 → P i (get_or (100 ∷ 101 ∷ 102 ∷ 103 ∷ []) i 0)
four P a b c d zero low = a
four P a b c d (suc zero) low = b
four P a b c d (suc (suc zero)) low = c
four P a b c d (suc (suc (suc zero))) low = d
four P a b c d (suc (suc (suc (suc i)))) low = absurd (omega (arith, low))

pub can-far : {o : Origin} {h : Held} {parts : List Held} → o.sizes.block_size ≡ 1024 → IsCut 4 h parts
    → CanAttach o h thirteen 65802 (100 ∷ 101 ∷ 102 ∷ 103 ∷ []) parts
can-far {o} {h} {parts} size cut = record {
  hole = hole-page o.sizes h 65802;
  count = sym (need-far o.sizes h size);
  named = four (λ i b. b ≢ 0) (λ e. omega (arith, e)) (λ e. omega (arith, e)) (λ e. omega (arith, e)) (λ e. omega (arith, e));
  as_many = cut.count;
  whole = four (λ i b. HoldsBlock o (part parts i) b) (each 0 (omega arith)) (each 1 (omega arith)) (each 2 (omega arith))
      (each 3 (omega arith));
  apart = cut-apart cut;
}
  where
    each : (i : ℕ) → i < 4 → HoldsBlock o (part parts i) (100 + i)
    each i low = record { at = λ l within. cut.whole i l low (omega (arith, within, size)) }
