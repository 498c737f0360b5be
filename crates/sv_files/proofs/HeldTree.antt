-- What an image reaches from a block, and from an inode, stands at the spots of the held address tree, each block once.
use Rattle.std.proofs.Common.{◌≡◌, ◌≢◌, ◌≤◌, ◌<◌, ◌+◌, ◌*◌, ◌/◌, ◌%◌, ◌^◌, ◌==◌, ◌∷◌, [], ◌∙◌, ℕ, zero, suc, Bool, not, true, false, List}
use Rattle.std.proofs.Common.{Option, Some, None, IsSome, inl, inr, ap, sym, refl, subst, if◌then◌else◌, filter, flat_map, length, get_or}
use Rattle.std.proofs.Common.{slice_index, unwrap_or, arith}
use Rattle.std.specs.List.{range_with_len}
use Rattle.std.proofs.lemmas.Bool.{cases_lt, eqb-true, ne_eqb}
use Rattle.sv_form.specs.declared.geometry.Geometry.{Geometry}
use Rattle.sv_form.specs.Image.{block_of}
use Rattle.sv_form.specs.Number.{number32}
use Rattle.sv_form.specs.PagePath.{block_numbers}
use Rattle.sv_store.specs.Held.{Held, HoldsBlock, Origin, line_of}
use Rattle.sv_store.proofs.Lines.{get_or-line_of}
use Rattle.sv_super.specs.Count.{one_if}
use Rattle.sv_super.proofs.Counts.{times-cons, times-nil}
use Rattle.sv_bmap.specs.Tree as tree
use Rattle.sv_bmap.specs.Tree.{IsSpot, IsTree, block_at, child, down}
use Rattle.sv_check.specs.Walk.{Reached, number_in, reached_under}
use Rattle.sv_files.specs.ConverseLines.{HasLines}
use Rattle.sv_files.proofs.JoinedTimes.{few_in, met, one_in}

pub some_test : (x : ℕ) → not (x == 0) ≡ true → x ≢ 0
some_test x e = grind (arith, e)

module _ (o : Origin) (image : List ℕ) (h : Held) (lines : HasLines o.sizes image h) where
  abbrev g : Geometry
  g = o.sizes

  abbrev per : ℕ
  per = block_numbers o.sizes

  -- ---- the numbers of an indirect block

  module _ (b k : ℕ) (holds : HoldsBlock o h b) (within : k < per) where
    byte : (m at : ℕ) → m < 64 → k / 16 * 64 + m ≡ at
        → slice_index (line_of (block_of g image b) (k / 16)) m ≡ slice_index (block_of g image b) at
    byte m at below is = get_or-line_of (block_of g image b) (k / 16) m below ∙ ap (λ (x : ℕ). get_or (block_of g image b) x 0) is

    line-number : number32 (line_of (block_of g image b) (k / 16)) (k % 16 * 4) ≡ number32 (block_of g image b) (4 * k)
    line-number =
        let e0 = byte (k % 16 * 4) (4 * k) (omega arith) (omega arith) in
        let e1 = byte (k % 16 * 4 + 1) (4 * k + 1) (omega arith) (omega arith) in
        let e2 = byte (k % 16 * 4 + 2) (4 * k + 2) (omega arith) (omega arith) in
        let e3 = byte (k % 16 * 4 + 2 + 1) (4 * k + 2 + 1) (omega arith) (omega arith) in
        omega (arith, e0, e1, e2, e3)

    number_by : (p : Option (List ℕ)) → h b (k / 16) ≡ p → IsSome p
        → number32 (unwrap_or p []) (k % 16 * 4) ≡ number_in (block_of g image b) k
    number_by None is some = let bad : ⊥ = cc some in absurd bad
    number_by (Some line) is some = ap (λ (x : List ℕ). number32 x (k % 16 * 4)) (lines.at b (k / 16) line is) ∙ line-number

    same-number : tree.number_in h b k ≡ number_in (block_of g image b) k
    unfolding tree.number_in
    same-number = number_by (h b (k / 16)) refl (holds.at (k / 16) (omega (arith, within)))

    pub child-number : b ≢ 0 → child h b k ≡ number_in (block_of g image b) k
    unfolding Rattle.sv_form.specs.AddressTree.child
    child-number some = ap (λ (t : Bool). if t then 0 else tree.number_in h b k) (ne_eqb b 0 some) ∙ same-number

  -- ---- a way down

  pub record IsWay (height : ℕ) (ks : List ℕ) : Type 0 where
    pub deep : length ks ≤ height
    pub places : (i : ℕ) → i < length ks → slice_index ks i < per

  pub way-none : (height : ℕ) → IsWay height []
  way-none height = record { deep = omega arith; places = λ i below. absurd (omega (arith, below)) }

  more_places : (k : ℕ) (ks : List ℕ) → k < per → ((i : ℕ) → i < length ks → slice_index ks i < per) → (i : ℕ) → i < length (k ∷ ks)
      → slice_index (k ∷ ks) i < per
  more_places k ks low rest zero below = low
  more_places k ks low rest (suc i) below = rest i (omega (arith, below))

  pub way-more : (height k : ℕ) (ks : List ℕ) → k < per → IsWay height ks → IsWay (suc height) (k ∷ ks)
  way-more height k ks low way = record { deep = (let deep = way.deep in omega (arith, deep)); places = more_places k ks low way.places }

  -- the blocks below a block are held, and no two ways lead to one
  pub record IsHeldBelow (height b : ℕ) : Type 0 where
    pub held : (ks : List ℕ) → IsWay height ks → down h b ks ≢ 0 → HoldsBlock o h (down h b ks)
    pub once : (ks js : List ℕ) → IsWay height ks → IsWay height js → down h b ks ≢ 0 → down h b ks ≡ down h b js → ks ≡ js

  pub holds-first : (height b : ℕ) → b ≢ 0 → IsHeldBelow height b → HoldsBlock o h b
  holds-first height b some below = below.held [] (way-none height) some

  below-child : (height b k : ℕ) → IsHeldBelow (suc height) b → k < per → IsHeldBelow height (child h b k)
  below-child height b k below low = record {
    held = λ ks way ne. below.held (k ∷ ks) (way-more height k ks low way) ne;
    once =
        λ ks js one two ne same. (let all = below.once (k ∷ ks) (k ∷ js) (way-more height k ks low one)
        (way-more height k js low two) ne same in cc all);
  }

  -- a block that is reached stands at the end of a way
  pub record IsAtEnd (height b c : ℕ) : Type 0 where
    pub ks : List ℕ
    pub way : IsWay height ks
    pub is : down h b ks ≡ c
    pub some : c ≢ 0

  abbrev pub under : ℕ → ℕ → ℕ → List Reached
  under height page b = reached_under g image height page b

  abbrev block : Reached → ℕ
  block r = r.block

  abbrev pub below_block : ℕ → ℕ → ℕ → ℕ → List Reached
  below_block height page b k = under height (page + k * per ^ height) (number_in (block_of g image b) k)

  abbrev pub is_filled : ℕ → ℕ → Bool
  is_filled b k = not (number_in (block_of g image b) k == 0)

  at_first : (height b c : ℕ) → b ≢ 0 → b ≡ c → IsAtEnd height b c
  at_first height b c some is = record { ks = []; way = way-none height; is = is; some = λ none. some (is ∙ none) }

  counted : (b c : ℕ) (t : Bool) → (b == c) ≡ t → 0 < one_if t → b ≡ c
  counted b c true is some = eqb-true b c is
  counted b c false is some = absurd (omega (arith, some))

  met-under : (height page b c : ℕ)
      → met block c (under (suc height) page b)
      ≡ one_if (b == c) + met block c (flat_map (below_block height page b) (filter (is_filled b) (range_with_len 0 per)))
  unfolding Rattle.sv_form.specs.AddressTree.reached_under
  met-under height page b c = times-cons c b _

  met-page : (page b c : ℕ) → met block c (under zero page b) ≡ one_if (b == c)
  unfolding Rattle.sv_form.specs.AddressTree.reached_under
  met-page page b c = omega (arith, times-cons c b [], times-nil c)

  abbrev at_child : (height b k c : ℕ) → b ≢ 0 → k < per → IsHeldBelow (suc height) b → IsAtEnd height (number_in (block_of g image b) k) c
      → IsAtEnd (suc height) b c
  at_child height b k c some low below end = record {
    ks = k ∷ end.ks;
    way = way-more height k end.ks low end.way;
    is = ap (λ (x : ℕ). down h x end.ks) (child-number b k (holds-first (suc height) b some below) low some) ∙ end.is;
    some = end.some;
  }

  pub child-below : (height b k : ℕ) → b ≢ 0 → k < per → IsHeldBelow (suc height) b → IsHeldBelow height (number_in (block_of g image b) k)
  child-below height b k some low below =
      subst (λ (x : ℕ). IsHeldBelow height x) (child-number b k (holds-first (suc height) b some below) low some)
      (below-child height b k below low)

  pub at_end : (height page b c : ℕ) → b ≢ 0 → IsHeldBelow height b → 0 < met block c (under height page b) → IsAtEnd height b c
  at_end zero page b c some below there = at_first zero b c some (counted b c (b == c) refl (omega (arith, there, met-page page b c)))
  at_end (suc height) page b c some below there =
      elim (cases_lt 0 (one_if (b == c))) [
        | inl here ↦ at_first (suc height) b c some (counted b c (b == c) refl here)
        | inr none ↦
            let i =
            one_in block c (is_filled b) (below_block height page b) per 0 (omega (arith, there, none, met-under height page b c)) in
            let low = i.high in
            at_child height b i.at c some (omega (arith, low)) below
            (at_end height (page + i.at * per ^ height) (number_in (block_of g image b) i.at) c
            (some_test (number_in (block_of g image b) i.at) i.so) (child-below height b i.at some (omega (arith, low)) below) i.some)
      ]

  -- ---- each block once

  module _ (height page b c : ℕ) (some : b ≢ 0) (below : IsHeldBelow (suc height) b) where
    end-of : (k : ℕ) → k < per → is_filled b k ≡ true → 0 < met block c (below_block height page b k)
        → IsAtEnd height (number_in (block_of g image b) k) c
    end-of k low so there =
        at_end height (page + k * per ^ height) (number_in (block_of g image b) k) c (some_test (number_in (block_of g image b) k) so)
        (child-below height b k some low below) there

    one-place : (j k : ℕ) → j < per → k < per → is_filled b j ≡ true → is_filled b k ≡ true → 0 < met block c (below_block height page b j)
        → 0 < met block c (below_block height page b k) → j ≡ k
    one-place j k jl kl js ks jm km =
        let first = end-of j jl js jm in
        let second = end-of k kl ks km in
        let one = at_child height b j c some jl below first in
        let two = at_child height b k c some kl below second in
        let same : j ∷ first.ks ≡ k ∷ second.ks =
        below.once one.ks two.ks one.way two.way (λ none. one.some (sym one.is ∙ none)) (one.is ∙ sym two.is) in
        cc same

    not-itself : b ≡ c → 0 < met block c (flat_map (below_block height page b) (filter (is_filled b) (range_with_len 0 per))) → ⊥
    not-itself is there =
        let i = one_in block c (is_filled b) (below_block height page b) per 0 there in
        let low = i.high in
        let end = end-of i.at (omega (arith, low)) i.so i.some in
        let at = at_child height b i.at c some (omega (arith, low)) below end in
        let same : i.at ∷ end.ks ≡ [] =
        below.once at.ks [] at.way (way-none (suc height)) (λ none. at.some (sym at.is ∙ none)) (at.is ∙ sym is) in
        let bad : ⊥ = cc same in bad

    once_by : (t : Bool) → (b == c) ≡ t
        → met block c (flat_map (below_block height page b) (filter (is_filled b) (range_with_len 0 per))) ≤ 1
        → one_if t + met block c (flat_map (below_block height page b) (filter (is_filled b) (range_with_len 0 per))) ≤ 1
    once_by false is few = omega (arith, few)
    once_by true is few =
        elim (cases_lt 0 (met block c (flat_map (below_block height page b) (filter (is_filled b) (range_with_len 0 per))))) [
          | inl there ↦ absurd (not-itself (eqb-true b c is) there)
          | inr none ↦ omega (arith, none)
        ]

  small : (t : Bool) → one_if t ≤ 1
  small true = omega arith
  small false = omega arith

  pub once_under : (height page b c : ℕ) → b ≢ 0 → IsHeldBelow height b → met block c (under height page b) ≤ 1
  once_under zero page b c some below = let one = small (b == c) in omega (arith, one, met-page page b c)
  once_under (suc height) page b c some below =
      let all = once_by height page b c some below (b == c) refl
      (few_in block c (is_filled b) (below_block height page b) per 0
      (λ k low high so. once_under height (page + k * per ^ height) (number_in (block_of g image b) k) c
      (some_test (number_in (block_of g image b) k) so) (child-below height b k some (omega (arith, high)) below))
      (λ j k jl jh kl kh js ks jm km. one-place height page b c some below j k (omega (arith, jh)) (omega (arith, kh)) js ks jm km)) in
      omega (arith, all, met-under height page b c)
