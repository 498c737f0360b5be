-- What holds of each element of a list, and of each block that an image reaches: it stands at a spot of the held address tree.
use Rattle.std.proofs.Common.{◌≡◌, ◌≢◌, ◌≤◌, ◌<◌, ◌+◌, ◌*◌, ◌^◌, ◌||◌, ◌++◌, ◌∷◌, [], ◌∙◌, ℕ, zero, suc, Bool, not, true, false, List, Some}
use Rattle.std.proofs.Common.{None, ap, sym, refl, cond, find, filter, flat_map, length, arith}
use Rattle.std.specs.List.{list_any, range_with_len}
use Rattle.std.proofs.lemmas.Bool.{false≢true, ne_eqb}
use Rattle.sv_form.specs.declared.geometry.Geometry.{Geometry}
use Rattle.sv_form.specs.Image.{block_of}
use Rattle.sv_form.specs.PagePath.{block_numbers}
use Rattle.sv_store.specs.Held.{Held, Origin}
use Rattle.sv_bmap.specs.Tree.{child, down}
use Rattle.sv_bmap.proofs.Paths.{child-hole}
use Rattle.sv_check.specs.Walk.{Reached, number_in, reached_under}
use Rattle.sv_check.proofs.BooleanTests.{or_true}
use Rattle.sv_files.specs.ConverseLines.{HasLines}
use Rattle.sv_files.proofs.HeldTree.{IsHeldBelow, IsWay, below_block, child-below, child-number, holds-first, is_filled, some_test}
use Rattle.sv_files.proofs.HeldTree.{way-more, way-none}
use Rattle.sv_files.proofs.RangeTests.{any_joined}

-- ---- each element

abbrev pub Each : {X : Type 0} → (X → Type 0) → List X → Type 0
Each P [] = Unit {0}
Each P (x ∷ xs) = P x × Each P xs

pub each_map : {X : Type 0} (P Q : X → Type 0) → ((x : X) → P x → Q x) → (xs : List X) → Each P xs → Each Q xs
each_map P Q f [] e = tt
each_map P Q f (x ∷ xs) e = (f x e.0, each_map P Q f xs e.1)

each_append : {X : Type 0} (P : X → Type 0) (xs ys : List X) → Each P xs → Each P ys → Each P (xs ++ ys)
each_append P [] ys a b = b
each_append P (x ∷ xs) ys a b = (a.0, each_append P xs ys a.1 b)

module _ {X : Type 0} (P : X → Type 0) (q : ℕ → Bool) (f : ℕ → List X) where
  joined_step : (a : ℕ) (t : Bool) (rest : List ℕ) → (t ≡ true → Each P (f a)) → Each P (flat_map f rest)
      → Each P (flat_map f (cond t (a ∷ rest) rest))
  joined_step a false rest here later = later
  joined_step a true rest here later = each_append P (f a) (flat_map f rest) (here refl) later

  pub each_joined : (n a : ℕ) → ((k : ℕ) → a ≤ k → k < a + n → q k ≡ true → Each P (f k))
      → Each P (flat_map f (filter q (range_with_len a n)))
  each_joined zero a each = tt
  each_joined (suc n) a each =
      joined_step a (q a) (filter q (range_with_len (a + 1) n)) (λ so. each a (omega arith) (omega arith) so)
      (each_joined n (a + 1) (λ k low high so. each k (omega (arith, low)) (omega (arith, high)) so))

-- no element passes a test that each fails
pub none_passes : {X : Type 0} (test : X → Bool) (xs : List X) → Each (λ x. test x ≡ false) xs → list_any test xs ≡ false
none_passes test [] e = refl
none_passes test (x ∷ xs) e = ap (λ (t : Bool). t || list_any test xs) e.0 ∙ none_passes test xs e.1

-- what is found passes, and has what each element has
module _ {X : Type 0} (P : X → Type 0) (test : X → Bool) where
  pub record IsFound (xs : List X) : Type 0 where
    pub at : X
    pub is : find test xs ≡ Some at
    pub so : test at ≡ true
    pub has : P at

  found_step : (x : X) (xs : List X) (t : Bool) → test x ≡ t → P x → (list_any test xs ≡ true → IsFound xs) → (t || list_any test xs) ≡ true
      → (find test (x ∷ xs) ≡ cond t (Some x) (find test xs)) → IsFound (x ∷ xs)
  found_step x xs true is here later some same = record { at = x; is = same; so = is; has = here }
  found_step x xs false is here later some same = let f = later some in record { at = f.at; is = same ∙ f.is; so = f.so; has = f.has }

  pub found : (xs : List X) → Each P xs → list_any test xs ≡ true → IsFound xs
  found [] each some = absurd (false≢true some)
  found (x ∷ xs) each some = found_step x xs (test x) refl each.0 (λ more. found xs each.1 more) some refl

pub none_found_in : {X : Type 0} (test : X → Bool) (xs : List X) → list_any test xs ≡ false → find test xs ≡ None
none_found_in test [] e = refl
none_found_in test (x ∷ xs) e = by_test (test x) refl e (λ more. none_found_in test xs more) where
  by_test : (t : Bool) → test x ≡ t → (t || list_any test xs) ≡ false → (list_any test xs ≡ false → find test xs ≡ None)
      → cond (test x) (Some x) (find test xs) ≡ None
  by_test true is bad later = absurd (false≢true (sym bad))
  by_test false is none later = ap (λ (t : Bool). cond t (Some x) (find test xs)) is ∙ later none

-- ---- the blocks under a block

-- how many pages after the first a way leads, where an indirect block has so many numbers
abbrev pub offset : ℕ → ℕ → List ℕ → ℕ
offset per zero ks = 0
offset per (suc height) [] = 0
offset per (suc height) (k ∷ ks) = k * per ^ height + offset per height ks

pub offset-none : (per height : ℕ) → offset per height [] ≡ 0
offset-none per zero = refl
offset-none per (suc height) = refl

module _ (o : Origin) (image : List ℕ) (h : Held) (lines : HasLines o.sizes image h) where
  abbrev g : Geometry
  g = o.sizes

  abbrev per : ℕ
  per = block_numbers o.sizes

  way-rest : (height k : ℕ) (ks : List ℕ) → IsWay o image h lines (suc height) (k ∷ ks) → IsWay o image h lines height ks
  way-rest height k ks way = record {
    deep = (let deep = way.deep in omega (arith, deep));
    places = λ i below. way.places (suc i) (omega (arith, below));
  }

  -- what is reached stands at the end of a way, at the height that is left, and its page is so far after the first
  pub record IsReachedAt (height page b : ℕ) (r : Reached) : Type 0 where
    pub ks : List ℕ
    pub way : IsWay o image h lines height ks
    pub is : down h b ks ≡ r.block
    pub some : r.block ≢ 0
    pub left : length ks + r.height ≡ height
    pub page_is : r.page ≡ page + offset per height ks

  abbrev blocks_of_child : ℕ → ℕ → ℕ → ℕ → List Reached
  blocks_of_child height page b k = below_block o image h lines height page b k

  abbrev number : ℕ → ℕ → ℕ
  number b k = number_in (block_of g image b) k

  first_reached : (height page b : ℕ) → b ≢ 0 → IsReachedAt height page b (record { height = height; page = page; block = b })
  first_reached height page b some = record {
    ks = [];
    way = way-none o image h lines height;
    is = refl;
    some = some;
    left = omega arith;
    page_is = (let none = offset-none per height in omega (arith, none));
  }

  wider : (height page b k : ℕ) → k < per → child h b k ≡ number b k → (r : Reached)
      → IsReachedAt height (page + k * per ^ height) (number b k) r → IsReachedAt (suc height) page b r
  wider height page b k low is r at = record {
    ks = k ∷ at.ks;
    way = way-more o image h lines height k at.ks low at.way;
    is = ap (λ (x : ℕ). down h x at.ks) is ∙ at.is;
    some = at.some;
    left = (let left = at.left in omega (arith, left));
    page_is = (let page_is = at.page_is in omega (arith, page_is));
  }

  pub each_under : (height page b : ℕ) → b ≢ 0 → IsHeldBelow o image h lines height b
      → Each (IsReachedAt height page b) (reached_under g image height page b)
  unfolding Rattle.sv_form.specs.AddressTree.reached_under
  each_under zero page b some below = (first_reached zero page b some, tt)
  each_under (suc height) page b some below = (
    first_reached (suc height) page b some,
    each_joined (IsReachedAt (suc height) page b) (is_filled o image h lines b) (blocks_of_child height page b) per 0
        (λ k least low so.
        each_map (IsReachedAt height (page + k * per ^ height) (number b k)) (IsReachedAt (suc height) page b)
        (wider height page b k (omega (arith, low))
        (child-number o image h lines b k (holds-first o image h lines (suc height) b some below)
        (omega (arith, low)) some)) (blocks_of_child height page b k)
        (each_under height (page + k * per ^ height) (number b k) (some_test (number b k) so)
        (child-below o image h lines height b k some (omega (arith, low)) below))),
  )

  -- ---- and back: what stands at the end of a whole way is reached

  down-hole : (ks : List ℕ) → down h 0 ks ≡ 0
  down-hole [] = refl
  down-hole (k ∷ ks) = ap (λ (x : ℕ). down h x ks) (child-hole h 0 k refl) ∙ down-hole ks

  pub hole-down : (b : ℕ) (ks : List ℕ) → down h b ks ≢ 0 → b ≢ 0
  hole-down b ks some none = some (ap (λ (x : ℕ). down h x ks) none ∙ down-hole ks)

  pub there_under : (height page b : ℕ) (ks : List ℕ) → length ks ≡ height → IsWay o image h lines height ks → down h b ks ≢ 0
      → IsHeldBelow o image h lines height b → (test : Reached → Bool)
      → ((r : Reached) → r.height ≡ 0 → r.page ≡ page + offset per height ks → r.block ≡ down h b ks → test r ≡ true)
      → list_any test (reached_under g image height page b) ≡ true
  unfolding Rattle.sv_form.specs.AddressTree.reached_under
  there_under zero page b [] size way some below test passes =
      ap (λ (t : Bool). t || false) (passes (record { height = 0; page = page; block = b }) refl (omega arith) refl)
  there_under zero page b (k ∷ ks) size way some below test passes = absurd (omega (arith, size))
  there_under (suc height) page b [] size way some below test passes = absurd (omega (arith, size))
  there_under (suc height) page b (k ∷ ks) size way some below test passes =
      let low : k < per = way.places 0 (omega arith) in
      let here : b ≢ 0 = hole-down b (k ∷ ks) some in
      let is : child h b k ≡ number b k =
      child-number o image h lines b k (holds-first o image h lines (suc height) b here below) low here in
      let same : down h (child h b k) ks ≡ down h (number b k) ks = ap (λ (x : ℕ). down h x ks) is in
      let on : down h (number b k) ks ≢ 0 = λ none. some (same ∙ none) in
      let filled_is : is_filled o image h lines b k ≡ true = ap not (ne_eqb (number b k) 0 (hole-down (number b k) ks on)) in
      let rest : list_any test (blocks_of_child height page b k) ≡ true =
      there_under height (page + k * per ^ height) (number b k) ks (omega (arith, size)) (way-rest height k ks way) on
      (child-below o image h lines height b k here low below) test
      (λ r flat page_is block_is. passes r flat (omega (arith, page_is)) (block_is ∙ sym same)) in
      ap (λ (t : Bool). test (record { height = suc height; page = page; block = b }) || t)
      (any_joined (is_filled o image h lines b) (blocks_of_child height page b) test per 0 k (omega arith)
      (omega (arith, low)) filled_is rest)
      ∙ or_true (test (record { height = suc height; page = page; block = b }))

  -- and so is what stands at the end of any way
  pub met_under : (height page b : ℕ) (ks : List ℕ) → IsWay o image h lines height ks → down h b ks ≢ 0
      → IsHeldBelow o image h lines height b → (test : Reached → Bool)
      → ((r : Reached) → r.block ≡ down h b ks → test r ≡ true) → list_any test (reached_under g image height page b) ≡ true
  unfolding Rattle.sv_form.specs.AddressTree.reached_under
  met_under zero page b [] way some below test passes =
      ap (λ (t : Bool). t || false) (passes (record { height = 0; page = page; block = b }) refl)
  met_under zero page b (k ∷ ks) way some below test passes = (let deep = way.deep in absurd (omega (arith, deep)))
  met_under (suc height) page b [] way some below test passes =
      ap (λ (t : Bool). t || list_any test
      (flat_map (blocks_of_child height page b) (filter (is_filled o image h lines b) (range_with_len 0 per))))
      (passes (record { height = suc height; page = page; block = b }) refl)
  met_under (suc height) page b (k ∷ ks) way some below test passes =
      let low : k < per = way.places 0 (omega arith) in
      let here : b ≢ 0 = hole-down b (k ∷ ks) some in
      let is : child h b k ≡ number b k =
      child-number o image h lines b k (holds-first o image h lines (suc height) b here below) low here in
      let same : down h (child h b k) ks ≡ down h (number b k) ks = ap (λ (x : ℕ). down h x ks) is in
      let on : down h (number b k) ks ≢ 0 = λ none. some (same ∙ none) in
      let filled_is : is_filled o image h lines b k ≡ true = ap not (ne_eqb (number b k) 0 (hole-down (number b k) ks on)) in
      let rest : list_any test (blocks_of_child height page b k) ≡ true =
      met_under height (page + k * per ^ height) (number b k) ks (way-rest height k ks way) on
      (child-below o image h lines height b k here low below) test
      (λ r block_is. passes r (block_is ∙ sym same)) in
      ap (λ (t : Bool). test (record { height = suc height; page = page; block = b }) || t)
      (any_joined (is_filled o image h lines b) (blocks_of_child height page b) test per 0 k (omega arith)
      (omega (arith, low)) filled_is rest)
      ∙ or_true (test (record { height = suc height; page = page; block = b }))
