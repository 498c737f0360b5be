-- The lines of a range that stand in one entry are moved over: the other entries have none of them.
use Rattle.std.proofs.Common.{◌≡◌, ◌<◌, ◌≤◌, ◌+◌, ◌-◌, ◌*◌, ◌==◌, ◌&&◌, ◌||◌, ◌++◌, ℕ, zero, suc, Bool, true, false, cond, not, List, [], ◌∷◌, length, map, set, take, drop, get_or, slice_range, nat_lt, nat_le, Option, Some, None, IsSome, is_some, unwrap_or, refl, sym, ap, ◌∙◌, subst, arith, append_assoc}
use Rattle.std.proofs.Math.Path.{fun_ext}
use Rattle.std.specs.List.{count_by, list_all, list_any, All}
use Rattle.std.specs.Option.{ForSome}
use Rattle.std.proofs.lemmas.Bool.{false≢true, eqb-true}
use Rattle.std.proofs.lemmas.Bool.Decides.{nat_tests}
use Rattle.std.proofs.lemmas.List.{take-append-drop, get_or-take, get_or-drop, drop_more, get_or_default, map-append, get_or_append_left, get_or-append-add, length-append, append-nil, length-take, length-drop}
use Rattle.std.proofs.lemmas.List.Folds.{list_any-append, list_any_at}
use Rattle.std.proofs.lemmas.List.Sums.{sum_by-append}
use Rattle.std.proofs.lemmas.List.Elements.{All-nil, All-head, All-tail}
use Rattle.sv_form.specs.declared.geometry.Geometry.{Geometry}
use Rattle.sv_form.specs.declared.owners.LineRange.{LineRange}
use Rattle.sv_store.specs.Held.{Held, Apart, Both, in_ranges, covers, chosen, rest, nothing_lent}
use Rattle.sv_store.specs.OwnBlock.{OwnBlock, Mask, mask_of, nowhere, has, holders, IsSound, held_of, is_out, lent_of, masked_lines, masked, copied, holds_any, left, has_all, has_none_else, holds_range, AddsCopy, Moves}
use Rattle.sv_store.proofs.Holding.{covers-means, covers-in, eqb_same, none_from}
use Rattle.sv_store.proofs.OwnLaws.{held_of-append, held_of-nil, held_of-spare, lent_of-cons, lent_of-nil, is_out-home, Both-apart, count-cons, none-out}
use Rattle.sv_store.proofs.OwnJoin.{sound-append, lent-append}
use Rattle.sv_store.proofs.OwnSteps.{sound-give, home-spare}
use Rattle.sv_store.proofs.OwnParts.{has-at, left-cons, left-nil, left-append, left-one, home-left, lent-left, rest-left, chosen-left, sound-copies, sound-rest, take-one}

or-false : (t : Bool) → (t || false) ≡ t
or-false true = refl
or-false false = refl

and-both : (a b : Bool) → (a && b) ≡ true → (a ≡ true) × (b ≡ true)
and-both true b h = (refl, h)
and-both false b h = absurd (false≢true h)

not-true : (t : Bool) → not t ≡ true → t ≡ false
not-true true h = absurd (false≢true h)
not-true false h = refl

-- ---- one range

pub range-means : (r : LineRange) (b l : ℕ) → in_ranges (r ∷ []) b l ≡ true → (r.block ≡ b) × (r.first ≤ l) × (l < r.first + r.count)
range-means r b l h = covers-means b l r (sym (or-false (covers b l r)) ∙ h)

pub range-in : (r : LineRange) (l : ℕ) → r.first ≤ l → l < r.first + r.count → in_ranges (r ∷ []) r.block l ≡ true
range-in r l low high = or-false (covers r.block l r) ∙ covers-in r l low high

all-true : (xs : List Bool) (k : ℕ) → list_all (λ x. x) xs ≡ true → k < length xs → get_or xs k false ≡ true
all-true [] k all below = absurd (omega arith)
all-true (true ∷ xs) zero all below = refl
all-true (true ∷ xs) (suc k) all below = all-true xs k all (omega (arith, below))
all-true (false ∷ xs) k all below = absurd (false≢true all)

none-true : (xs : List Bool) (k : ℕ) → list_any (λ x. x) xs ≡ false → get_or xs k false ≡ false
none-true [] k none = refl
none-true (true ∷ xs) k none = absurd (false≢true (sym none))
none-true (false ∷ xs) zero none = refl
none-true (false ∷ xs) (suc k) none = none-true xs k none

-- an entry that holds all lines of a range
pub record HoldsRange (r : LineRange) (e : OwnBlock) : Type 0 where
  pub block : e.block ≡ r.block
  pub some : 0 < r.count
  pub fits : r.first + r.count ≤ length e.lines
  pub each : (l : ℕ) → r.first ≤ l → l < r.first + r.count → get_or e.lines l false ≡ true

pub range-held : (r : LineRange) (e : OwnBlock) → holds_range r e ≡ true → HoldsRange r e
unfolding holds_range has_all
range-held r e h = record {
  block = eqb-true e.block r.block one.0;
  some = omega (arith, below r.first (r.first + r.count) two.0);
  fits = fits;
  each = λ l low high. at l low high;
}
  where
    below : (a b : ℕ) → nat_lt a b ≡ true → a < b
    below a b h = grind (nat_tests, arith)

    most : (a b : ℕ) → nat_le a b ≡ true → a ≤ b
    most a b h = grind (nat_tests, arith)

    one : ((e.block == r.block) ≡ true) × ((nat_lt r.first (r.first + r.count) && (nat_le (r.first + r.count) (length e.lines) && list_all (λ x. x) (slice_range e.lines r.first (r.first + r.count)))) ≡ true)
    one = and-both (e.block == r.block) (nat_lt r.first (r.first + r.count) && (nat_le (r.first + r.count) (length e.lines) && list_all (λ x. x) (slice_range e.lines r.first (r.first + r.count)))) h

    two : (nat_lt r.first (r.first + r.count) ≡ true) × ((nat_le (r.first + r.count) (length e.lines) && list_all (λ x. x) (slice_range e.lines r.first (r.first + r.count))) ≡ true)
    two = and-both (nat_lt r.first (r.first + r.count)) (nat_le (r.first + r.count) (length e.lines) && list_all (λ x. x) (slice_range e.lines r.first (r.first + r.count))) one.1

    three : (nat_le (r.first + r.count) (length e.lines) ≡ true) × (list_all (λ x. x) (slice_range e.lines r.first (r.first + r.count)) ≡ true)
    three = and-both (nat_le (r.first + r.count) (length e.lines)) (list_all (λ x. x) (slice_range e.lines r.first (r.first + r.count))) two.1

    fits : r.first + r.count ≤ length e.lines
    fits = most (r.first + r.count) (length e.lines) three.0

    at : (l : ℕ) → r.first ≤ l → l < r.first + r.count → get_or e.lines l false ≡ true
    at l low high =
        let there : r.first + (l - r.first) ≡ l = omega (arith, low) in
        let inside : l - r.first < r.first + r.count - r.first = omega (arith, low, high) in
        let long : l - r.first < length (take (r.first + r.count - r.first) (drop r.first e.lines)) = omega (arith, low, high, fits, length-take (r.first + r.count - r.first) (drop r.first e.lines), length-drop r.first e.lines) in
        sym (ap (λ q. get_or e.lines q false) there)
        ∙ (sym (get_or-drop r.first e.lines (l - r.first) false)
        ∙ (sym (get_or-take (r.first + r.count - r.first) (drop r.first e.lines) (l - r.first) false inside)
        ∙ all-true (take (r.first + r.count - r.first) (drop r.first e.lines)) (l - r.first) three.1 long))

-- ---- masks that change nothing, and masks that leave nothing

masked_lines-same : (t : ℕ → Bool) (i : ℕ) (xs : List Bool) → ((k : ℕ) → get_or xs k false ≡ true → t (i + k) ≡ true) → masked_lines t i xs ≡ xs
unfolding masked_lines
masked_lines-same t i [] all = refl
masked_lines-same t i (x ∷ xs) all =
    ap (λ q. q ∷ masked_lines t (suc i) xs) (by x refl)
    ∙ ap (λ q. x ∷ q) (masked_lines-same t (suc i) xs (λ k is. (let e : i + suc k ≡ suc i + k = omega arith in sym (ap t e) ∙ all (suc k) is)))
  where
    by : (y : Bool) → x ≡ y → (x && t i) ≡ x
    by true e =
        let z : i + 0 ≡ i = omega arith in
        ap (λ q. q && t i) e ∙ (sym (ap t z) ∙ all 0 e) ∙ sym e
    by false e = ap (λ q. q && t i) e ∙ sym e

masked_lines-none : (t : ℕ → Bool) (i : ℕ) (xs : List Bool) → ((k : ℕ) → get_or xs k false ≡ true → t (i + k) ≡ false) → list_any (λ x. x) (masked_lines t i xs) ≡ false
unfolding masked_lines
masked_lines-none t i [] none = refl
masked_lines-none t i (x ∷ xs) none =
    ap (λ q. q || list_any (λ x. x) (masked_lines t (suc i) xs)) (by x refl)
    ∙ masked_lines-none t (suc i) xs (λ k is. (let e : i + suc k ≡ suc i + k = omega arith in sym (ap t e) ∙ none (suc k) is))
  where
    by : (y : Bool) → x ≡ y → (x && t i) ≡ false
    by true e =
        let z : i + 0 ≡ i = omega arith in
        ap (λ q. q && t i) e ∙ (sym (ap t z) ∙ none 0 e)
    by false e = ap (λ q. q && t i) e

masked_lines-some : (t : ℕ → Bool) (i : ℕ) (xs : List Bool) (k : ℕ) → get_or xs k false ≡ true → t (i + k) ≡ true → list_any (λ x. x) (masked_lines t i xs) ≡ true
unfolding masked_lines
masked_lines-some t i [] k is inside = absurd (false≢true is)
masked_lines-some t i (x ∷ xs) zero is inside =
    let z : i + 0 ≡ i = omega arith in
    ap (λ q. (q && t i) || list_any (λ x. x) (masked_lines t (suc i) xs)) is ∙ ap (λ q. q || list_any (λ x. x) (masked_lines t (suc i) xs)) (sym (ap t z) ∙ inside)
masked_lines-some t i (x ∷ xs) (suc k) is inside =
    let e : i + suc k ≡ suc i + k = omega arith in
    ap (λ q. (x && t i) || q) (masked_lines-some t (suc i) xs k is (sym (ap t e) ∙ inside)) ∙ or-true (x && t i)
  where
    or-true : (t : Bool) → (t || true) ≡ true
    or-true true = refl
    or-true false = refl

-- ---- entries that hold no line of the ranges

-- no line of the ranges is held in these
abbrev Free : List LineRange → List OwnBlock → Type 0
Free lines es = (b l : ℕ) → in_ranges lines b l ≡ true → holders b l (map mask_of es) ≡ 0

free-tail : (lines : List LineRange) (e : OwnBlock) (es : List OwnBlock) → Free lines (e ∷ es) → Free lines es
free-tail lines e es free b l is = omega (arith, free b l is, count-cons (has b l) (mask_of e) (map mask_of es))

free-head : (lines : List LineRange) (e : OwnBlock) (es : List OwnBlock) → Free lines (e ∷ es) → (k : ℕ) → get_or e.lines k false ≡ true → in_ranges lines e.block k ≡ false
free-head lines e es free k held = by (in_ranges lines e.block k) refl
  where
    by : (t : Bool) → in_ranges lines e.block k ≡ t → in_ranges lines e.block k ≡ false
    by true is =
        let there : has e.block k (mask_of e) ≡ true = has-at e.block k (mask_of e) ∙ (ap (λ q. q && get_or e.lines k false) (eqb_same e.block) ∙ held) in
        let one : cond (has e.block k (mask_of e)) 1 0 ≡ 1 = ap {B = ℕ} (λ q. cond q 1 0) there in
        absurd (omega (arith, one, free e.block k is, count-cons (has e.block k) (mask_of e) (map mask_of es)))
    by false is = is

free-kept : (lines : List LineRange) (es : List OwnBlock) → Free lines es → All (λ e. list_any (λ x. x) e.lines ≡ true) es → left (masked (λ b l. not (in_ranges lines b l))) es ≡ es
free-kept lines [] free some = left-nil (masked (λ b l. not (in_ranges lines b l)))
free-kept lines (e ∷ es) free some =
    left-cons (masked (λ b l. not (in_ranges lines b l))) e es
    ∙ (ap (λ q. cond (holds_any q) (q ∷ left (masked (λ b l. not (in_ranges lines b l))) es) (left (masked (λ b l. not (in_ranges lines b l))) es)) same
    ∙ (ap (λ q. cond q (e ∷ left (masked (λ b l. not (in_ranges lines b l))) es) (left (masked (λ b l. not (in_ranges lines b l))) es)) (All-head (λ e. list_any (λ x. x) e.lines ≡ true) e es some)
    ∙ ap (λ q. e ∷ q) (free-kept lines es (free-tail lines e es free) (All-tail (λ e. list_any (λ x. x) e.lines ≡ true) e es some))))
  where
    same : masked (λ b l. not (in_ranges lines b l)) e ≡ e
    same =
        ap (λ q. record e { lines = q }) (masked_lines-same (λ l. not (in_ranges lines e.block l)) 0 e.lines (λ k held. (let z : 0 + k ≡ k = omega arith in ap (λ q. not (in_ranges lines e.block q)) z ∙ ap not (free-head lines e es free k held))))

free-dropped : (lines : List LineRange) (es : List OwnBlock) → Free lines es → left (copied (in_ranges lines)) es ≡ []
free-dropped lines [] free = left-nil (copied (in_ranges lines))
free-dropped lines (e ∷ es) free =
    left-cons (copied (in_ranges lines)) e es
    ∙ (ap (λ q. cond q (copied (in_ranges lines) e ∷ left (copied (in_ranges lines)) es) (left (copied (in_ranges lines)) es)) none
    ∙ free-dropped lines es (free-tail lines e es free))
  where
    none : holds_any (copied (in_ranges lines) e) ≡ false
    none =
        masked_lines-none (in_ranges lines e.block) 0 e.lines (λ k held. (let z : 0 + k ≡ k = omega arith in ap (in_ranges lines e.block) z ∙ free-head lines e es free k held))

-- ---- the one entry that holds the range

holders-append : (b l : ℕ) (xs ys : List OwnBlock) → holders b l (map mask_of (xs ++ ys)) ≡ holders b l (map mask_of xs) + holders b l (map mask_of ys)
holders-append b l xs ys =
    ap (holders b l) (map-append mask_of xs ys) ∙ sum_by-append (λ m. cond (has b l m) 1 0) (map mask_of xs) (map mask_of ys)

-- the list around the entry at a place
pub around : (es : List OwnBlock) (at : ℕ) → at < length es → es ≡ take at es ++ (get_or es at nowhere ∷ drop (at + 1) es)
around es at below = sym (take-append-drop at es) ∙ ap (λ q. take at es ++ q) (drop_more es at nowhere below)

module _ {g : Geometry} (r : LineRange) (es : List OwnBlock) (at : ℕ) (below : at < length es) (sound : IsSound g es) (holds : HoldsRange r (get_or es at nowhere)) where
  abbrev entry : OwnBlock
  entry = get_or es at nowhere

  counted : (b l : ℕ) → holders b l (map mask_of es) ≡ holders b l (map mask_of (take at es)) + (cond (has b l (mask_of entry)) 1 0 + holders b l (map mask_of (drop (at + 1) es)))
  counted b l =
      ap (λ q. holders b l (map mask_of q)) (around es at below)
      ∙ (holders-append b l (take at es) (entry ∷ drop (at + 1) es)
      ∙ ap (λ q. holders b l (map mask_of (take at es)) + q) (count-cons (has b l) (mask_of entry) (map mask_of (drop (at + 1) es))))

  here : (b l : ℕ) → in_ranges (r ∷ []) b l ≡ true → ◌≡◌ {A = ℕ} (cond (has b l (mask_of entry)) 1 0) 1
  here b l is =
      let means = range-means r b l is in
      let same : entry.block ≡ b = holds.block ∙ means.0 in
      ap {B = ℕ} (λ q. cond q 1 0) (has-at b l (mask_of entry) ∙ (ap (λ q. (q == b) && get_or entry.lines l false) same ∙ (ap (λ q. q && get_or entry.lines l false) (eqb_same b) ∙ holds.each l means.1 means.2)))

  before : Free (r ∷ []) (take at es)
  before b l is = omega (arith, counted b l, here b l is, sound.once b l)

  behind : Free (r ∷ []) (drop (at + 1) es)
  behind b l is = omega (arith, counted b l, here b l is, sound.once b l)

  some-of : All (λ e. list_any (λ x. x) e.lines ≡ true) (take at es ++ (entry ∷ drop (at + 1) es))
  some-of = subst (All (λ e. list_any (λ x. x) e.lines ≡ true)) (around es at below) sound.some

  -- nothing is taken off the other entries
  pub cut-left : left (masked (λ b l. not (in_ranges (r ∷ []) b l))) es ≡ take at es ++ (left (masked (λ b l. not (in_ranges (r ∷ []) b l))) (entry ∷ []) ++ drop (at + 1) es)
  cut-left =
      ap (left (masked (λ b l. not (in_ranges (r ∷ []) b l)))) (around es at below)
      ∙ (left-append (masked (λ b l. not (in_ranges (r ∷ []) b l))) (take at es) (entry ∷ drop (at + 1) es)
      ∙ (ap (λ q. q ++ left (masked (λ b l. not (in_ranges (r ∷ []) b l))) (entry ∷ drop (at + 1) es)) (free-kept (r ∷ []) (take at es) before (All-before (take at es) (entry ∷ drop (at + 1) es) some-of))
      ∙ ap (λ q. take at es ++ q)
      (left-append (masked (λ b l. not (in_ranges (r ∷ []) b l))) (entry ∷ []) (drop (at + 1) es)
      ∙ ap (λ q. left (masked (λ b l. not (in_ranges (r ∷ []) b l))) (entry ∷ []) ++ q) (free-kept (r ∷ []) (drop (at + 1) es) behind (All-tail (λ e. list_any (λ x. x) e.lines ≡ true) entry (drop (at + 1) es) (All-behind (take at es) (entry ∷ drop (at + 1) es) some-of))))))
    where
      All-before : (xs ys : List OwnBlock) → All (λ e. list_any (λ x. x) e.lines ≡ true) (xs ++ ys) → All (λ e. list_any (λ x. x) e.lines ≡ true) xs
      All-before xs ys all = λ k d low. ap (λ (q : OwnBlock). list_any (λ x. x) q.lines) (sym (get_or_append_left xs ys d k low)) ∙ all k d (omega (arith, low, length-append xs ys))

      All-behind : (xs ys : List OwnBlock) → All (λ e. list_any (λ x. x) e.lines ≡ true) (xs ++ ys) → All (λ e. list_any (λ x. x) e.lines ≡ true) ys
      All-behind xs ys all = λ k d low. ap (λ (q : OwnBlock). list_any (λ x. x) q.lines) (sym (get_or-append-add xs ys k d)) ∙ all (length xs + k) d (omega (arith, low, length-append xs ys))

  -- and they give nothing
  pub cut-copied : left (copied (in_ranges (r ∷ []))) es ≡ copied (in_ranges (r ∷ [])) entry ∷ []
  cut-copied =
      ap (left (copied (in_ranges (r ∷ [])))) (around es at below)
      ∙ (left-append (copied (in_ranges (r ∷ []))) (take at es) (entry ∷ drop (at + 1) es)
      ∙ (ap (λ q. q ++ left (copied (in_ranges (r ∷ []))) (entry ∷ drop (at + 1) es)) (free-dropped (r ∷ []) (take at es) before)
      ∙ (left-cons (copied (in_ranges (r ∷ []))) entry (drop (at + 1) es)
      ∙ (ap (λ q. cond q (copied (in_ranges (r ∷ [])) entry ∷ left (copied (in_ranges (r ∷ []))) (drop (at + 1) es)) (left (copied (in_ranges (r ∷ []))) (drop (at + 1) es))) holds-some ∙ ap (λ q. copied (in_ranges (r ∷ [])) entry ∷ q) (free-dropped (r ∷ []) (drop (at + 1) es) behind)))))
    where
      holds-some : holds_any (copied (in_ranges (r ∷ [])) entry) ≡ true
      holds-some =
          let z : 0 + r.first ≡ r.first = omega arith in
          masked_lines-some (in_ranges (r ∷ []) entry.block) 0 entry.lines r.first (holds.each r.first (omega arith) (omega (arith, holds.some)))
          (ap (in_ranges (r ∷ []) entry.block) z ∙ (ap (λ q. in_ranges (r ∷ []) q r.first) holds.block ∙ range-in r r.first (omega arith) (omega (arith, holds.some))))

-- ---- an entry all of whose lines stand in the range

module _ (r : LineRange) (e : OwnBlock) (holds : HoldsRange r e) (only : has_none_else e.lines r.first r.count ≡ true) where
  only-in : (k : ℕ) → get_or e.lines k false ≡ true → in_ranges (r ∷ []) e.block k ≡ true
  unfolding has_none_else
  only-in k held =
      ap (λ q. in_ranges (r ∷ []) q k) holds.block ∙ range-in r k (low (nat_lt k r.first) refl) (high (nat_lt k (r.first + r.count)) refl)
    where
      two : (not (list_any (λ x. x) (take r.first e.lines)) ≡ true) × (not (list_any (λ x. x) (drop (r.first + r.count) e.lines)) ≡ true)
      two = and-both (not (list_any (λ x. x) (take r.first e.lines))) (not (list_any (λ x. x) (drop (r.first + r.count) e.lines))) only

      less : (a b : ℕ) → nat_lt a b ≡ true → a < b
      less a b h = grind (nat_tests, arith)

      more : (a b : ℕ) → nat_lt a b ≡ false → b ≤ a
      more a b h = grind (nat_tests, arith)

      low : (t : Bool) → nat_lt k r.first ≡ t → r.first ≤ k
      low true is =
          absurd (false≢true (sym (sym (get_or-take r.first e.lines k false (less k r.first is)) ∙ none-true (take r.first e.lines) k (not-true (list_any (λ x. x) (take r.first e.lines)) two.0)) ∙ held))
      low false is = more k r.first is

      high : (t : Bool) → nat_lt k (r.first + r.count) ≡ t → k < r.first + r.count
      high true is = less k (r.first + r.count) is
      high false is =
          let there : r.first + r.count + (k - (r.first + r.count)) ≡ k = omega (arith, more k (r.first + r.count) is) in
          absurd (false≢true (sym (sym (ap (λ q. get_or e.lines q false) there) ∙ (sym (get_or-drop (r.first + r.count) e.lines (k - (r.first + r.count)) false) ∙ none-true (drop (r.first + r.count) e.lines) (k - (r.first + r.count)) (not-true (list_any (λ x. x) (drop (r.first + r.count) e.lines)) two.1))) ∙ held))

  -- it is what is moved
  pub whole-lines : masked_lines (in_ranges (r ∷ []) e.block) 0 e.lines ≡ e.lines
  whole-lines = masked_lines-same (in_ranges (r ∷ []) e.block) 0 e.lines (λ k held. (let z : 0 + k ≡ k = omega arith in ap (in_ranges (r ∷ []) e.block) z ∙ only-in k held))

  -- and nothing of it stays
  pub whole-gone : left (masked (λ b l. not (in_ranges (r ∷ []) b l))) (e ∷ []) ≡ []
  whole-gone =
      left-one (masked (λ b l. not (in_ranges (r ∷ []) b l))) e
      ∙ ap (λ q. cond q (masked (λ b l. not (in_ranges (r ∷ []) b l)) e ∷ []) [])
      (masked_lines-none (λ l. not (in_ranges (r ∷ []) e.block l)) 0 e.lines (λ k held. (let z : 0 + k ≡ k = omega arith in ap (λ q. not (in_ranges (r ∷ []) e.block q)) z ∙ ap not (only-in k held))))

pub moved-whole : (r : LineRange) (e : OwnBlock) (bytes : List ℕ) → HoldsRange r e → has_none_else e.lines r.first r.count ≡ true → e.spare ≡ Some bytes → e ≡ record (copied (in_ranges (r ∷ [])) e) { spare = Some bytes }
moved-whole r e bytes holds only home =
    ap (λ q. record e { lines = q }) (sym (whole-lines r e holds only)) ∙ ap (λ q. record { block = e.block; lines = masked_lines (in_ranges (r ∷ []) e.block) 0 e.lines; kept = e.kept; spare = q }) home

-- ---- the lists after a cut

apart-chosen : {h k : Held} (lines : List LineRange) → Apart k h → Apart k (chosen lines h)
unfolding chosen
apart-chosen {h} {k} lines apart = record {
  at = λ b l is. ap (λ q. cond (in_ranges lines b l) q None) (apart.at b l is) ∙ none (in_ranges lines b l);
}
  where
    none : (t : Bool) → cond {A = Option (List ℕ)} t None None ≡ None
    none true = refl
    none false = refl

one-home : (e : OwnBlock) (bytes : List ℕ) → lent_of ((record e { spare = Some bytes }) ∷ []) ≡ nothing_lent
one-home e bytes =
    fun_ext (λ c. lent_of-cons (record e { spare = Some bytes }) [] c ∙ (ap (λ q. cond q (Some e.kept) (lent_of [] c)) (is_out-home c e bytes) ∙ lent_of-nil c))

-- no line of a block that is lent stands in the ranges
stays-free : (es : List OwnBlock) (lines : List LineRange) → ((b l : ℕ) → in_ranges lines b l ≡ true → lent_of es b ≡ None) → (b : ℕ) → 1 ≤ count_by (is_out b) es → (l : ℕ) → not (in_ranges lines b l) ≡ true
stays-free es lines away b one l = by (in_ranges lines b l) refl
  where
    by : (t : Bool) → in_ranges lines b l ≡ t → not (in_ranges lines b l) ≡ true
    by true e = absurd (omega (arith, one, none-out b es (away b l e)))
    by false e = ap not e

-- what stays and what goes, where the parts of the list are known
pub moved : {g : Geometry} {es ts new more copies : List OwnBlock} (lines : List LineRange) → IsSound g es → IsSound g ts → Apart (held_of ts) (held_of es) → lent_of ts ≡ nothing_lent → ((b l : ℕ) → in_ranges lines b l ≡ true → lent_of es b ≡ None) → new ≡ left (masked (λ b l. not (in_ranges lines b l))) es → more ≡ ts ++ copies → IsSound g copies → held_of copies ≡ chosen lines (held_of es) → lent_of copies ≡ nothing_lent → Moves g lines es ts new more
moved {g} {es} {ts} {new} {more} {copies} lines sound other apart home away new-is more-is fine held-is home-is = record {
  sound = subst (IsSound g) (sym new-is) (sound-rest sound (λ b l. not (in_ranges lines b l)));
  other = subst (IsSound g) (sym more-is) (sound-append other fine far home-is);
  home = ap lent_of more-is ∙ (lent-append ts copies home-is ∙ home);
  lends = ap lent_of new-is ∙ fun_ext (lent-left (λ b l. not (in_ranges lines b l)) es sound.some (stays-free es lines away));
  stays = ap held_of new-is ∙ rest-left lines es;
  goes = ap held_of more-is ∙ (held_of-append ts copies ∙ (Both-apart (held_of ts) (held_of copies) far ∙ ap (Both (held_of ts)) held-is));
}
  where
    far : Apart (held_of ts) (held_of copies)
    far = (let P : Held → Type 0 = λ q. Apart (held_of ts) q in subst P (sym held-is) (apart-chosen lines apart))

-- a range that stands in one entry
pub moved-one : {g : Geometry} {es ts new more : List OwnBlock} (r : LineRange) (at : ℕ) → at < length es → holds_range r (get_or es at nowhere) ≡ true → IsSound g es → IsSound g ts → Apart (held_of ts) (held_of es) → lent_of ts ≡ nothing_lent → ((b l : ℕ) → in_ranges (r ∷ []) b l ≡ true → lent_of es b ≡ None) → new ≡ take at es ++ (left (masked (λ b l. not (in_ranges (r ∷ []) b l))) (take 1 (drop at es)) ++ drop 1 (drop at es)) → AddsCopy (r ∷ []) (get_or es at nowhere) ts more → Moves g (r ∷ []) es ts new more
moved-one {g} {es} {ts} {new} {more} r at below holds sound other apart home away new-is adds =
    moved (r ∷ []) sound other apart home away
    (new-is ∙ (ap (λ q. take at es ++ (left (masked (λ b l. not (in_ranges (r ∷ []) b l))) (take 1 q) ++ drop 1 q)) (drop_more es at nowhere below) ∙ sym (cut-left r es at below sound (range-held r (get_or es at nowhere) holds))))
    adds.added
    (sound-give {es = copied (in_ranges (r ∷ [])) (get_or es at nowhere) ∷ []} one-sound 0 adds.bytes (omega arith) (adds.size ∙ sound.kept at nowhere below))
    (held_of-spare (copied (in_ranges (r ∷ [])) (get_or es at nowhere) ∷ []) 0 (Some adds.bytes) ∙ (ap held_of (sym copies-is) ∙ chosen-left (r ∷ []) es))
    (one-home (copied (in_ranges (r ∷ [])) (get_or es at nowhere)) adds.bytes)
  where
    copies-is : left (copied (in_ranges (r ∷ []))) es ≡ copied (in_ranges (r ∷ [])) (get_or es at nowhere) ∷ []
    copies-is = cut-copied r es at below sound (range-held r (get_or es at nowhere) holds)

    one-sound : IsSound g (copied (in_ranges (r ∷ [])) (get_or es at nowhere) ∷ [])
    one-sound = subst (IsSound g) copies-is (sound-copies sound (r ∷ []))

-- a range that stands in several
pub moved-spread : {g : Geometry} {es ts new more copies : List OwnBlock} (lines : List LineRange) → IsSound g es → IsSound g ts → Apart (held_of ts) (held_of es) → lent_of ts ≡ nothing_lent → ((b l : ℕ) → in_ranges lines b l ≡ true → lent_of es b ≡ None) → new ≡ left (masked (λ b l. not (in_ranges lines b l))) es → copies ≡ left (copied (in_ranges lines)) es → IsSound g more → held_of more ≡ Both (held_of ts) (held_of copies) → lent_of more ≡ lent_of ts → Moves g lines es ts new more
moved-spread {g} {es} {ts} {new} {more} {copies} lines sound other apart home away new-is copies-is fine held-is lent-is = record {
  sound = subst (IsSound g) (sym new-is) (sound-rest sound (λ b l. not (in_ranges lines b l)));
  other = fine;
  home = lent-is ∙ home;
  lends = ap lent_of new-is ∙ fun_ext (lent-left (λ b l. not (in_ranges lines b l)) es sound.some (stays-free es lines away));
  stays = ap held_of new-is ∙ rest-left lines es;
  goes = held-is ∙ ap (Both (held_of ts)) (ap held_of copies-is ∙ chosen-left lines es);
}

-- what the copies are, where they are joined to what was taken before
pub copies-apart : {g : Geometry} {es copies : List OwnBlock} (ts : List OwnBlock) (lines : List LineRange) → IsSound g es → Apart (held_of ts) (held_of es) → copies ≡ left (copied (in_ranges lines)) es → (IsSound g copies) × (Apart (held_of ts) (held_of copies) × (lent_of copies ≡ nothing_lent))
copies-apart {g} {es} {copies} ts lines sound apart copies-is = (
  subst (IsSound g) (sym copies-is) (sound-copies sound lines),
  (
    (let P : Held → Type 0 = λ q. Apart (held_of ts) q in subst P (sym (ap held_of copies-is ∙ chosen-left lines es)) (apart-chosen lines apart)),
    ap lent_of copies-is ∙ home-left (in_ranges lines) es,
  ),
)

-- ---- one range after another

pub Both-nothing : (k : Held) → Both (held_of []) k ≡ k
unfolding Both
Both-nothing k = fun_ext (λ b. fun_ext (λ l. ap (λ q. cond (is_some q) q (k b l)) (held_of-nil b l)))

in-more : (done : List LineRange) (r : LineRange) (b l : ℕ) → in_ranges (done ++ r ∷ []) b l ≡ (in_ranges done b l || in_ranges (r ∷ []) b l)
in-more done r b l = list_any-append (covers b l) done (r ∷ [])

rest-more : (done : List LineRange) (r : LineRange) (h : Held) → rest (r ∷ []) (rest done h) ≡ rest (done ++ r ∷ []) h
unfolding rest
rest-more done r h =
    fun_ext (λ b. fun_ext (λ l. by (in_ranges done b l) (in_ranges (r ∷ []) b l) (h b l) ∙ sym (ap (λ q. cond q None (h b l)) (in-more done r b l))))
  where
    by : (s t : Bool) (x : Option (List ℕ)) → cond t None (cond s None x) ≡ cond (s || t) None x
    by true true x = refl
    by true false x = refl
    by false true x = refl
    by false false x = refl

chosen-more : (done : List LineRange) (r : LineRange) (h : Held) → Both (chosen done h) (chosen (r ∷ []) (rest done h)) ≡ chosen (done ++ r ∷ []) h
unfolding Both chosen rest
chosen-more done r h =
    fun_ext (λ b. fun_ext (λ l. by (in_ranges done b l) (in_ranges (r ∷ []) b l) (h b l) ∙ sym (ap (λ q. cond q (h b l) None) (in-more done r b l))))
  where
    by : (s t : Bool) (x : Option (List ℕ)) → cond (is_some (cond s x None)) (cond s x None) (cond t (cond s None x) None) ≡ cond (s || t) x None
    by true true None = refl
    by true true (Some x) = refl
    by true false None = refl
    by true false (Some x) = refl
    by false true x = refl
    by false false x = refl

sound-nil : (g : Geometry) → IsSound g []
sound-nil g = record {
  block = All-nil (λ (e : OwnBlock). e.block < g.blocks);
  lines = All-nil (λ (e : OwnBlock). length e.lines * 64 ≡ g.block_size);
  some = All-nil (λ (e : OwnBlock). list_any (λ x. x) e.lines ≡ true);
  kept = All-nil (λ (e : OwnBlock). length e.kept ≡ g.block_size);
  spare = All-nil (λ (e : OwnBlock). ForSome e.spare (λ bytes. length bytes ≡ g.block_size));
  once = λ b l. (let none : holders b l [] ≡ 0 = refl in omega (arith, none));
  out = λ b. (let none : count_by (is_out b) [] ≡ 0 = refl in omega (arith, none));
}

-- no range yet
pub moves-none : {g : Geometry} {es ts : List OwnBlock} → IsSound g es → ts ≡ [] → Moves g [] es [] es ts
unfolding rest chosen
moves-none {g} {es} {ts} sound none = record {
  sound = sound;
  other = subst (IsSound g) (sym none) (sound-nil g);
  home = ap lent_of none ∙ fun_ext lent_of-nil;
  lends = refl;
  stays = refl;
  goes = ap held_of none ∙ sym (Both-nothing (chosen [] (held_of es)) ∙ fun_ext (λ b. fun_ext (λ l. sym (held_of-nil b l))));
}

-- what was taken has no line that is left
pub moves-apart : {g : Geometry} {es new more : List OwnBlock} {done : List LineRange} → Moves g done es [] new more → Apart (held_of more) (held_of new)
unfolding rest chosen
moves-apart {g} {es} {new} {more} {done} moves = record {
  at = λ b l is.
      (let P : Held → Type 0 = λ q. IsSome (q b l) → held_of new b l ≡ None in
      subst P (sym (moves.goes ∙ Both-nothing (chosen done (held_of es)))) (λ is. ap (λ q. q b l) moves.stays ∙ by (in_ranges done b l) (held_of es b l) is)) is;
}
  where
    by : (t : Bool) (x : Option (List ℕ)) → IsSome (cond t x None) → cond t None x ≡ None
    by true x is = refl
    by false x is = absurd (false≢true is)

-- one range more
pub moves-more : {g : Geometry} {es new more new' more' : List OwnBlock} {done : List LineRange} (r : LineRange) → Moves g done es [] new more → Moves g (r ∷ []) new more new' more' → Moves g (done ++ r ∷ []) es [] new' more'
moves-more {g} {es} {new} {more} {new'} {more'} {done} r one two = record {
  sound = two.sound;
  other = two.other;
  home = two.home;
  lends = two.lends ∙ one.lends;
  stays = two.stays ∙ (ap (rest (r ∷ [])) one.stays ∙ rest-more done r (held_of es));
  goes =
      two.goes
      ∙ (ap (λ q. Both q (chosen (r ∷ []) (held_of new))) (one.goes ∙ Both-nothing (chosen done (held_of es)))
      ∙ (ap (λ q. Both (chosen done (held_of es)) (chosen (r ∷ []) q)) one.stays ∙ (chosen-more done r (held_of es) ∙ sym (Both-nothing (chosen (done ++ r ∷ []) (held_of es))))));
}

-- all that was moved is put back
pub moves-back : {g : Geometry} {es new more : List OwnBlock} {done : List LineRange} → Moves g done es [] new more → Both (held_of new) (held_of more) ≡ held_of es
unfolding Both rest chosen
moves-back {g} {es} {new} {more} {done} moves =
    ap (λ q. Both q (held_of more)) moves.stays
    ∙ (ap (Both (rest done (held_of es))) (moves.goes ∙ Both-nothing (chosen done (held_of es))) ∙ fun_ext (λ b. fun_ext (λ l. by (in_ranges done b l) (held_of es b l))))
  where
    by : (t : Bool) (p : Option (List ℕ)) → cond (is_some (cond t None p)) (cond t None p) (cond t p None) ≡ p
    by true p = refl
    by false None = refl
    by false (Some line) = refl

pub back-apart : {h k : Held} → Apart k h → Apart h k
back-apart {h} {k} apart = record { at = λ b l is. by b l (is_some (k b l)) refl is }
  where
    by : (b l : ℕ) (t : Bool) → is_some (k b l) ≡ t → IsSome (h b l) → k b l ≡ None
    by b l true e is = absurd (false≢true (sym (ap is_some (apart.at b l e)) ∙ is))
    by b l false e is = none_from (k b l) e

-- a range of the list is one of them
pub away-one : (lines : List LineRange) (i : ℕ) (r : LineRange) (b l : ℕ) → i < length lines → r ≡ get_or lines i r → in_ranges (r ∷ []) b l ≡ true → in_ranges lines b l ≡ true
away-one lines i r b l below r-is is =
    list_any_at (covers b l) lines i r below (ap (covers b l) (sym r-is) ∙ (sym (or-false (covers b l r)) ∙ is))

-- ---- the first entry of a list

pub front-is : (es : List OwnBlock) (own : OwnBlock) → 0 < length es → own ≡ get_or es 0 own → own ≡ get_or es 0 nowhere
front-is es own some is = is ∙ get_or_default es 0 own nowhere some

pub lose-front : (f : OwnBlock → OwnBlock) (es : List OwnBlock) (own own' : OwnBlock) (new : List OwnBlock) → 0 < length es → own ≡ get_or es 0 own → own' ≡ f own → new ≡ left (λ e. e) (take 1 (set es 0 own')) ++ drop 1 (set es 0 own') → new ≡ left f (take 1 es) ++ drop 1 es
lose-front f [] own own' new some own-is own'-is new-is = absurd (omega arith)
lose-front f (x ∷ xs) own own' new some own-is own'-is new-is =
    new-is ∙ ap (λ q. q ++ xs) (ap (λ q. left (λ e. e) (q ∷ [])) (own'-is ∙ ap f own-is) ∙ (left-one (λ e. e) (f x) ∙ sym (left-one f x)))

pub shorter : (f : OwnBlock → OwnBlock) (es : List OwnBlock) → length (left f (take 1 es) ++ drop 1 es) ≤ length es
shorter f [] = omega (arith, ap (λ (q : List OwnBlock). length (q ++ [])) (left-nil f))
shorter f (x ∷ xs) = omega (arith, ap (λ (q : List OwnBlock). length (q ++ xs)) (left-one f x), by (holds_any (f x)))
  where
    by : (t : Bool) → length (cond t (f x ∷ []) [] ++ xs) ≤ suc (length xs)
    by true = omega arith
    by false = omega arith

-- an entry of a block that is not lent has bytes to lend
pub spare-there : {g : Geometry} {es : List OwnBlock} (r : LineRange) (at : ℕ) → IsSound g es → at < length es → holds_range r (get_or es at nowhere) ≡ true → ((b l : ℕ) → in_ranges (r ∷ []) b l ≡ true → lent_of es b ≡ None) → (bytes : List ℕ) × (((get_or es at nowhere).spare ≡ Some bytes) × (length bytes ≡ length (get_or es at nowhere).kept))
spare-there {g} {es} r at sound below holds away =
    by (get_or es at nowhere).spare refl (home-spare es at r.block below held.block (away r.block r.first (range-in r r.first (omega arith) (omega (arith, held.some)))))
  where
    held : HoldsRange r (get_or es at nowhere)
    held = range-held r (get_or es at nowhere) holds

    by : (o : Option (List ℕ)) → (get_or es at nowhere).spare ≡ o → IsSome (get_or es at nowhere).spare → (bytes : List ℕ) × (((get_or es at nowhere).spare ≡ Some bytes) × (length bytes ≡ length (get_or es at nowhere).kept))
    by None e is = absurd (false≢true (sym (ap is_some e) ∙ is))
    by (Some x) e is = (x, (e, sound.spare at nowhere below x e ∙ sym (sound.kept at nowhere below)))
