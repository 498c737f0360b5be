-- Conditions 10 and 11 from the chain of a flushed core.
use Rattle.std.proofs.Common.{◌≡◌, ◌≢◌, ◌≤◌, ◌<◌, ◌+◌, ◌-◌, ◌*◌, ◌==◌, ◌&&◌, ◌||◌, ◌++◌, ◌∷◌, [], ◌∙◌, ℕ, zero, suc, Bool, not, true, false}
use Rattle.std.proofs.Common.{List, Option, Some, None, IsSome, inl, inr, ap, sym, refl, subst, flat_map, length, map, take, nat_lt, arith}
use Rattle.std.proofs.lemmas.Bool.{cases_lt, eqb-true, ne_eqb}
use Rattle.std.proofs.lemmas.List.{append-nil}
use Rattle.std.proofs.lemmas.List.Folds.{list_any-append}
use Rattle.sv_form.specs.declared.geometry.Geometry.{Geometry}
use Rattle.sv_form.specs.Geometry.{IsDataBlock, IsGeometry}
use Rattle.sv_form.specs.Image.{block_of, geometry_of}
use Rattle.sv_form.specs.LinkBlock.{IsLinkBlock}
use Rattle.sv_store.specs.Held.{Held, HoldsBlock, Origin, line_of}
use Rattle.sv_super.specs.Core.{Head}
use Rattle.sv_super.specs.Count.{one_if, times}
use Rattle.sv_super.specs.FreeList.{HasList, IsChain, front}
use Rattle.sv_super.proofs.Chains.{chain-spelled}
use Rattle.sv_super.proofs.Counts.{few, times-cons, times-nil}
use Rattle.sv_super.proofs.Fronts.{block_list, front-is}
use Rattle.sv_check.specs.Chain.{Chained, number, list, chain, chain_flaw, chain_from, chained, first_broken, free_list, link_of, list_in}
use Rattle.sv_check.specs.Chain.{lost_flaw, reads_list, walked}
use Rattle.sv_check.specs.ChainSteps.{numbers_of}
use Rattle.sv_check.specs.Walk.{is_among, is_data_block, is_new, with_met}
use Rattle.sv_check.proofs.BooleanTests.{at_most-test, below-test, or_true}
use Rattle.sv_check.proofs.ChainMet.{numbers_of-map}
use Rattle.sv_check.proofs.ChainStart.{free_list-read}
use Rattle.sv_check.proofs.ChainWalk.{link-none, link-some, meets_new, nothing_left, reads_on}
use Rattle.sv_check.proofs.ListReads as reads
use Rattle.sv_check.proofs.WholeNodes.{length-block}
use Rattle.sv_files.specs.ConverseChain.{AreFreeBlocks, FlushedIsChained, HasWholeChain}
use Rattle.sv_files.specs.ConverseLines.{HasLines, IsFlushed}
use Rattle.sv_files.proofs.ChainCuts.{IsEnd, IsLinked, cut}
use Rattle.sv_files.proofs.ConverseSizes.{flushed_sized, spelled-here}
use Rattle.sv_files.proofs.RangeTests.{found_none}

-- ---- lists

among_by : (t : Bool) (xs : List ℕ) (b : ℕ) → (0 < times b xs → is_among xs b ≡ true) → 0 < one_if t + times b xs
    → (t || is_among xs b) ≡ true
among_by true xs b later some = refl
among_by false xs b later some = later (omega (arith, some))

among_times : (xs : List ℕ) (b : ℕ) → 0 < times b xs → is_among xs b ≡ true
among_times [] b some = absurd (omega (arith, some, times-nil b))
among_times (x ∷ xs) b some = among_by (x == b) xs b (λ more. among_times xs b more) (omega (arith, some, times-cons b x xs))

among_back : (xs ys : List ℕ) (b : ℕ) → is_among ys b ≡ true → is_among (xs ++ ys) b ≡ true
among_back xs ys b e = list_any-append (λ n. n == b) xs ys ∙ ap (λ (t : Bool). is_among xs b || t) e ∙ or_true (is_among xs b)

among_front : (xs ys : List ℕ) (b : ℕ) → is_among xs b ≡ true → is_among (xs ++ ys) b ≡ true
among_front xs ys b e = list_any-append (λ n. n == b) xs ys ∙ ap (λ (t : Bool). t || is_among ys b) e

numbers-append : (xs ys : List Chained) → numbers_of (xs ++ ys) ≡ numbers_of xs ++ numbers_of ys
numbers-append [] ys = refl
numbers-append (number b ∷ xs) ys = ap (λ (l : List ℕ). b ∷ l) (numbers-append xs ys)
numbers-append (list b ∷ xs) ys = numbers-append xs ys

other_number : (b x : ℕ) (xs : List ℕ) → times b (x ∷ xs) ≡ 0 → b ≢ x
other_number b x xs none same =
    let itself : one_if (x == b) ≡ 1 = (let is : (x == b) ≡ true = grind (arith, same) in ap one_if is) in
    omega (arith, none, itself, times-cons b x xs)

new_number : (m x : ℕ) (xs : List ℕ) → times x (x ∷ xs) ≤ 1 → 0 < times m xs → m ≢ x
new_number m x xs once some same =
    let itself : one_if (x == x) ≡ 1 = (let is : (x == x) ≡ true = grind arith in ap one_if is) in
    let here : times m xs ≡ times x xs = ap (λ (y : ℕ). times y xs) same in
    omega (arith, once, some, itself, here, times-cons x x xs)

-- ---- numbers that are all new

module _ (g : Geometry) (image : List ℕ) where
  -- what was met, after these numbers
  abbrev after_all : (ℕ → Bool) → List ℕ → ℕ → Bool
  after_all before [] = before
  after_all before (x ∷ xs) = after_all (with_met before x) xs

  numbers_on : (xs : List ℕ) (before : ℕ → Bool) (rest : List Chained)
      → ((b : ℕ) → 0 < times b xs → (is_data_block g b ≡ true) × (before b ≡ false)) → ((b : ℕ) → times b xs ≤ 1)
      → first_broken g image before (map number xs ++ rest) ≡ first_broken g image (after_all before xs) rest
  numbers_on [] before rest new once = refl
  numbers_on (x ∷ xs) before rest new once =
      let itself : one_if (x == x) ≡ 1 = (let is : (x == x) ≡ true = grind arith in ap one_if is) in
      let here = new x (omega (arith, itself, times-cons x x xs)) in
      let is : is_new g before x ≡ true = ap (λ (t : Bool). t && not (before x)) here.0 ∙ ap not here.1 in
      meets_new g image before (with_met before x) x (map number xs ++ rest) is refl
      ∙ numbers_on xs (with_met before x) rest
      (λ b some.
      let was = new b (omega (arith, some, times-cons b x xs)) in
      (was.0, ap (λ (t : Bool). t || before b) (ne_eqb b x (new_number b x xs (once x) some)) ∙ was.1))
      (λ b. let few = once b in omega (arith, few, times-cons b x xs))

  still_new : (xs : List ℕ) (before : ℕ → Bool) (b : ℕ) → before b ≡ false → times b xs ≡ 0 → after_all before xs b ≡ false
  still_new [] before b new none = new
  still_new (x ∷ xs) before b new none =
      still_new xs (with_met before x) b (ap (λ (t : Bool). t || before b) (ne_eqb b x (other_number b x xs none)) ∙ new)
      (omega (arith, none, times-cons b x xs))

-- ---- the chain of an image that has the held lines

module _ (o : Origin) (image : List ℕ) (h : Held) (sizes : IsGeometry o.sizes) (long : length image ≡ o.sizes.blocks * o.sizes.block_size)
    (lines : HasLines o.sizes image h) where
  abbrev g : Geometry
  g = o.sizes

  line_by : (b l : ℕ) (p : Option (List ℕ)) → h b l ≡ p → IsSome p → h b l ≡ Some (line_of (block_of g image b) l)
  line_by b l None is some = let bad : ⊥ = cc some in absurd bad
  line_by b l (Some x) is some = is ∙ ap (λ (y : List ℕ). Some y) (lines.at b l x is)

  module _ (b : ℕ) (inside : b < g.blocks) (holds : HoldsBlock o h b) (next : List ℕ) (has : HasList (h b) next) where
    front-same : front (h b) ≡ take 204 (block_of g image b)
    front-same =
        let size : length (block_of g image b) ≡ g.block_size = length-block g image b sizes long inside in
        let is = sizes.block_size in
        front-is (h b) (block_of g image b) (omega (arith, size, is))
        (λ l low. line_by b l (h b l) refl (holds.at l (omega (arith, low, is))))

    spelled : IsLinkBlock (take 204 (block_of g image b)) (block_list next)
    spelled = subst (λ (q : List ℕ). IsLinkBlock q (block_list next)) front-same has.spelled

    pub reads-next : reads_list (block_of g image b) ≡ true
    reads-next = reads.spelled_list (block_of g image b) (block_list next) spelled

    pub next-is : list_in (block_of g image b) ≡ next
    next-is = sym (reads.list_of (block_of g image b) (block_list next) spelled)

  -- a free block: a data block whose lines are held
  record IsFreeBlock (b : ℕ) : Type 0 where
    is_data : IsDataBlock g b
    whole : HoldsBlock o h b

  data-test : (b : ℕ) → IsDataBlock g b → is_data_block g b ≡ true
  data-test b is = ap (λ (t : Bool). t && nat_lt b g.blocks) (at_most-test g.first_data b is.least) ∙ below-test b g.blocks is.most

  -- what stands behind a list
  abbrev behind : ℕ → List ℕ → List Chained
  behind n numbers = flat_map (λ b. list b ∷ chain_from g image n (list_in (block_of g image b))) (link_of numbers)

  at_end : (n x : ℕ) (ys : List ℕ) → x ≡ 0 → chain_from g image (suc n) (x ∷ ys) ≡ map number ys ++ []
  unfolding chain_from
  at_end n x ys none =
      ap (λ (l : List ℕ). map number (l ++ ys) ++ flat_map (λ b. list b ∷ chain_from g image n (list_in (block_of g image b))) l)
      (link-none (x ∷ ys) none)

  at_link : (n x : ℕ) (ys : List ℕ) → x ≢ 0
      → chain_from g image (suc n) (x ∷ ys) ≡ map number (x ∷ ys) ++ (list x ∷ (chain_from g image n (list_in (block_of g image x)) ++ []))
  unfolding chain_from
  at_link n x ys some =
      ap (λ (l : List ℕ). map number (l ++ ys) ++ flat_map (λ b. list b ∷ chain_from g image n (list_in (block_of g image b))) l)
      (link-some (x ∷ ys) some)

  at_next : (n x : ℕ) (ys next : List ℕ) → x ≢ 0 → list_in (block_of g image x) ≡ next
      → chain_from g image (suc n) (x ∷ ys) ≡ map number (x ∷ ys) ++ (list x ∷ chain_from g image n next)
  at_next n x ys next some is =
      at_link n x ys some
      ∙ ap (λ (l : List Chained). map number (x ∷ ys) ++ (list x ∷ l))
      (append-nil (chain_from g image n (list_in (block_of g image x))) ∙ ap (chain_from g image n) is)

  -- the first number and the others of a list that has one
  first_of : (numbers order : List ℕ) → IsChain h numbers order → 1 ≤ length numbers
  first_of numbers order c = (chain-spelled h order numbers c).some

  -- ---- no number is bad

  module _ (n : ℕ) (before : ℕ → Bool) (x : ℕ) (ys order : List ℕ)
      (new : (b : ℕ) → 0 < times b order → IsFreeBlock b × (before b ≡ false)) (once : (b : ℕ) → times b order ≤ 1) where
    met : (xs : List ℕ) → ((b : ℕ) → times b xs ≤ times b order) → (rest : List Chained)
        → first_broken g image before (map number xs ++ rest) ≡ first_broken g image (after_all g image before xs) rest
    met xs less rest =
        numbers_on g image xs before rest
        (λ b some. let is = new b (let few = less b in omega (arith, few, some)) in (data-test b is.0.is_data, is.1))
        (λ b. let few = less b in let one = once b in omega (arith, few, one))

    ends_well : IsEnd h x ys order → first_broken g image before (chain_from g image (suc n) (x ∷ ys)) ≡ None
    ends_well e =
        ap (first_broken g image before) (at_end n x ys e.none)
        ∙ met ys (λ b. let same = e.same b in omega (arith, same)) [] ∙ nothing_left g image (after_all g image before ys)

    module _ (l : IsLinked h x ys order) where
      link-times : 0 < times x order
      link-times =
          let itself : one_if (x == x) ≡ 1 = (let is : (x == x) ≡ true = grind arith in ap one_if is) in
          let same = l.same x in
          omega (arith, itself, same)

      link-inside : x < g.blocks
      link-inside = (new x link-times).0.is_data.most

      reads-on : reads_list (block_of g image x) ≡ true
      reads-on = reads-next x link-inside (new x link-times).0.whole l.list l.spelled

      link-next : list_in (block_of g image x) ≡ l.list
      link-next = next-is x link-inside (new x link-times).0.whole l.list l.spelled

      list-less : (b : ℕ) → times b (x ∷ ys) ≤ times b order
      list-less b = let same = l.same b in omega (arith, same, times-cons b x ys)

      rest-new : (b : ℕ) → 0 < times b l.rest → IsFreeBlock b × (after_all g image before (x ∷ ys) b ≡ false)
      rest-new b some =
          let same = l.same b in
          let one = once b in
          let is = new b (omega (arith, same, some)) in
          (is.0, still_new g image (x ∷ ys) before b is.1 (omega (arith, same, some, one, times-cons b x ys)))

      rest-once : (b : ℕ) → times b l.rest ≤ 1
      rest-once b = let same = l.same b in let one = once b in omega (arith, same, one)

      goes_on : first_broken g image (after_all g image before (x ∷ ys)) (chain_from g image n l.list) ≡ None
          → first_broken g image before (chain_from g image (suc n) (x ∷ ys)) ≡ None
      goes_on rest =
          ap (first_broken g image before) (at_next n x ys l.list l.some link-next)
          ∙ met (x ∷ ys) list-less (list x ∷ chain_from g image n l.list)
          ∙ reads_on g image (after_all g image before (x ∷ ys)) x (chain_from g image n l.list) reads-on ∙ rest

  none-bad : (n : ℕ) (before : ℕ → Bool) (numbers order : List ℕ) → length order < n → IsChain h numbers order
      → ((b : ℕ) → 0 < times b order → IsFreeBlock b × (before b ≡ false)) → ((b : ℕ) → times b order ≤ 1)
      → first_broken g image before (chain_from g image n numbers) ≡ None
  none-bad zero before numbers order more c new once = absurd (omega (arith, more))
  none-bad (suc n) before [] order more c new once = absurd (let some = first_of [] order c in omega (arith, some))
  none-bad (suc n) before (x ∷ ys) order more c new once =
      elim (cut h order x ys c) [
        | inl e ↦ ends_well n before x ys order new once e
        | inr l ↦
            goes_on n before x ys order new once l
            (none-bad n (after_all g image before (x ∷ ys)) l.list l.rest (let less = l.fewer in omega (arith, less, more)) l.chain
            (rest-new n before x ys order new once l) (rest-once n before x ys order new once l))
      ]

  -- ---- each block of the order is met

  module _ (n : ℕ) (x : ℕ) (ys order : List ℕ) (b : ℕ) (some : 0 < times b order) where
    there_end : IsEnd h x ys order → is_among (numbers_of (chain_from g image (suc n) (x ∷ ys))) b ≡ true
    there_end e =
        let same = e.same b in
        ap (λ (l : List Chained). is_among (numbers_of l) b) (at_end n x ys e.none ∙ append-nil (map number ys))
        ∙ ap (λ (l : List ℕ). is_among l b) (numbers_of-map ys)
        ∙ among_times ys b (omega (arith, same, some))

    there_by : (next rest : List ℕ) → x ≢ 0 → list_in (block_of g image x) ≡ next → times b order ≡ times b (x ∷ ys) + times b rest
        → (0 < times b rest → is_among (numbers_of (chain_from g image n next)) b ≡ true)
        → is_among (numbers_of (chain_from g image (suc n) (x ∷ ys))) b ≡ true
    there_by next rest named is same later =
        ap (λ (l : List Chained). is_among (numbers_of l) b) (at_next n x ys next named is)
        ∙ ap (λ (l : List ℕ). is_among l b)
        (numbers-append (map number (x ∷ ys)) (list x ∷ chain_from g image n next)
        ∙ ap (λ (l : List ℕ). l ++ numbers_of (chain_from g image n next)) (numbers_of-map (x ∷ ys)))
        ∙ (elim (cases_lt 0 (times b (x ∷ ys))) [
          | inl here ↦ among_front (x ∷ ys) (numbers_of (chain_from g image n next)) b (among_times (x ∷ ys) b here)
          | inr none ↦ among_back (x ∷ ys) (numbers_of (chain_from g image n next)) b (later (omega (arith, same, some, none)))
        ])

  all-met : (n : ℕ) (numbers order : List ℕ) → length order < n → IsChain h numbers order → ((b : ℕ) → 0 < times b order → IsFreeBlock b)
      → (b : ℕ) → 0 < times b order
      → is_among (numbers_of (chain_from g image n numbers)) b ≡ true
  all-met zero numbers order more c free b some = absurd (omega (arith, more))
  all-met (suc n) [] order more c free b some = absurd (let one = first_of [] order c in omega (arith, one))
  all-met (suc n) (x ∷ ys) order more c free b some =
      elim (cut h order x ys c) [
        | inl e ↦ there_end n x ys order b some e
        | inr l ↦
            let itself : one_if (x == x) ≡ 1 = (let is : (x == x) ≡ true = grind arith in ap one_if is) in
            let at = l.same x in
            let is = free x (omega (arith, itself, at)) in
            let same = l.same b in
            there_by n x ys order b some l.list l.rest l.some (next-is x is.is_data.most is.whole l.list l.spelled)
            (omega (arith, same, times-cons b x ys))
            (λ later. all-met n l.list l.rest (let less = l.fewer in omega (arith, less, more)) l.chain
            (λ d left. free d (let all = l.same d in omega (arith, all, left))) b later)
      ]

-- ---- the conditions

module _ (image : List ℕ) (o : Origin) (h : Held) (head : Head) (order cached : List ℕ) (f : IsFlushed o image h head order cached)
    (are : AreFreeBlocks o image h order) where
  same-list : free_list image ≡ f.written.list
  same-list = free_list-read image _ (spelled-here image o h head order cached f)

  zero_times : (b : ℕ) → times b (0 ∷ []) ≡ one_if (0 == b)
  zero_times b = omega (arith, times-cons b 0 [], times-nil b)

  -- block 0 is no free block
  no_zero : times 0 order ≡ 0
  no_zero =
      elim (cases_lt 0 (times 0 order)) [
        | inl there ↦
            (let is = (are.sound.in_data 0 there).least in let least = f.has.sizes.least_first in absurd (omega (arith, is, least)))
        | inr none ↦ omega (arith, none)
      ]

  low_by : (b : ℕ) (t : Bool) → (0 == b) ≡ t → 0 < one_if t → b < o.sizes.blocks
  low_by b true is there =
      let zero_is : 0 ≡ b = eqb-true 0 b is in
      let some = f.has.sizes.least_blocks in
      omega (arith, zero_is, some)
  low_by b false is there = absurd (omega (arith, there))

  low : (b : ℕ) → 0 < times b order + times b (0 ∷ []) → b < o.sizes.blocks
  low b some =
      elim (cases_lt 0 (times b order)) [
        | inl there ↦ (are.sound.in_data b there).most
        | inr none ↦ low_by b (0 == b) refl (omega (arith, none, some, zero_times b))
      ]

  once_by : (b : ℕ) (t : Bool) → (0 == b) ≡ t → times b order + one_if t ≤ 1
  once_by b true is =
      let none : times b order ≡ 0 = ap (λ (c : ℕ). times c order) (sym (eqb-true 0 b is)) ∙ no_zero in
      omega (arith, none)
  once_by b false is = let one = are.sound.once b in omega (arith, one)

  -- the chain has fewer blocks than the image
  few-chained : length order < o.sizes.blocks
  few-chained =
      let all = few o.sizes.blocks order (0 ∷ []) low (λ b. let one = once_by b (0 == b) refl in omega (arith, one, zero_times b)) in
      omega (arith, all)

  free : (b : ℕ) → 0 < times b order → IsFreeBlock o image h f.has.sizes f.has.length f.lines b
  free b some = record { is_data = are.sound.in_data b some; whole = are.sound.whole b some }

  chain-none : chain_flaw o.sizes image ≡ None
  unfolding chain_flaw chain
  chain-none =
      ap (λ (l : List ℕ). first_broken o.sizes image (is_among (walked o.sizes image)) (chain_from o.sizes image o.sizes.blocks l))
      same-list
      ∙ none-bad o image h f.has.sizes f.has.length f.lines o.sizes.blocks
      (is_among (walked o.sizes image)) f.written.list order few-chained f.written.chain
      (λ b some. (free b some, are.apart b some)) are.sound.once

  met-or-free : (b : ℕ) (t : Bool) → is_among (walked o.sizes image) b ≡ t → o.sizes.first_data ≤ b → b < o.sizes.blocks
      → is_among (walked o.sizes image ++ chained o.sizes image) b ≡ true
  unfolding chain
  met-or-free b true is low high = among_front (walked o.sizes image) (chained o.sizes image) b is
  met-or-free b false is low high =
      among_back (walked o.sizes image) (chained o.sizes image) b
      (ap (λ (l : List ℕ). is_among (numbers_of (chain_from o.sizes image o.sizes.blocks l)) b) same-list
      ∙ all-met o image h f.has.sizes f.has.length f.lines o.sizes.blocks f.written.list order few-chained f.written.chain free b
      (are.all b (record { least = low; most = high }) is))

  lost-none : lost_flaw o.sizes image ≡ None
  unfolding lost_flaw
  lost-none =
      found_none (λ b. not (is_among (walked o.sizes image ++ chained o.sizes image) b))
      (o.sizes.blocks - o.sizes.first_data) o.sizes.first_data
      (λ b low high. ap not (met-or-free b (is_among (walked o.sizes image) b) refl low
      (let some = f.has.sizes.some_data in omega (arith, high, some))))

  pub flushed_chained : HasWholeChain image
  flushed_chained =
      let same : geometry_of image ≡ o.sizes = (flushed_sized image o h head order cached f).sizes in
      record {
        chain = subst (λ (x : Geometry). chain_flaw x image ≡ None) (sym same) chain-none;
        lost = subst (λ (x : Geometry). lost_flaw x image ≡ None) (sym same) lost-none;
      }

pub flushed_is_chained : FlushedIsChained
flushed_is_chained image o h head order cached f are = flushed_chained image o h head order cached f are
