-- The pages that an inode reaches are met in ascending order.
use Rattle.std.proofs.Common.{◌≡◌, ◌≤◌, ◌<◌, ◌+◌, ◌*◌, ◌^◌, ◌==◌, ◌++◌, ◌∷◌, [], ◌∙◌, ℕ, zero, suc, Bool, not, true, false, List, ap, sym, refl, subst, inl, inr, cond, if◌then◌else◌, filter, flat_map, nat_le, arith}
use Rattle.std.specs.List.{range_with_len}
use Rattle.std.proofs.Math.Nat.{pow-suc, pow-zero}
use Rattle.std.proofs.lemmas.Bool.{cases_eq, cases_lt}
use Rattle.std.proofs.lemmas.List.Concat.{flat_map-append}
use Rattle.sv_form.specs.declared.geometry.Geometry.{Geometry}
use Rattle.sv_form.specs.Image.{block_of}
use Rattle.sv_form.specs.PagePath.{block_numbers, first_double, first_triple}
use Rattle.sv_plain.specs.Front.{address_of}
use Rattle.sv_check.specs.declared.pages.PageBlock.{PageBlock}
use Rattle.sv_check.specs.Pages.{IsAscending, page_at, pages_among}
use Rattle.sv_check.specs.Walk.{Reached, reached, reached_under, first_page, height_of, number_in}

ascending-lower : (less low high : ℕ) (ps : List PageBlock) → less ≤ low → IsAscending low ps high → IsAscending less ps high
ascending-lower less low high [] below is = omega (arith, below, is)
ascending-lower less low high (p ∷ ps) below is = (omega (arith, below, is.0), is.1)

ascending-append : (low mid high : ℕ) (xs ys : List PageBlock) → IsAscending low xs mid → IsAscending mid ys high → IsAscending low (xs ++ ys) high
ascending-append low mid high [] ys one two = ascending-lower low mid high ys one two
ascending-append low mid high (x ∷ xs) ys one two = (one.0, ascending-append (x.page + 1) mid high xs ys one.1 two)

-- the pages of one part and then of another
both : (low mid high : ℕ) (xs ys : List Reached) → IsAscending low (pages_among xs) mid → IsAscending mid (pages_among ys) high → IsAscending low (pages_among (xs ++ ys)) high
both low mid high xs ys one two =
    subst (λ (l : List PageBlock). IsAscending low l high) (sym (flat_map-append page_at xs ys)) (ascending-append low mid high (pages_among xs) (pages_among ys) one two)

pub ascending-raise : (low mid high : ℕ) (ps : List PageBlock) → mid ≤ high → IsAscending low ps mid → IsAscending low ps high
ascending-raise low mid high [] below is = omega (arith, below, is)
ascending-raise low mid high (p ∷ ps) below is = (is.0, ascending-raise (p.page + 1) mid high ps below is.1)

above_zero : (h : ℕ) → (suc h == 0) ≡ false
above_zero h = grind arith

module _ (g : Geometry) (image : List ℕ) where
  abbrev per : ℕ
  per = block_numbers g

  -- ---- the numbers of an indirect block, from one on

  module _ (h page b : ℕ) where
    abbrev under : ℕ → List Reached
    under k = reached_under g image h (page + k * per ^ h) (number_in (block_of g image b) k)

    abbrev has : ℕ → Bool
    has k = not (number_in (block_of g image b) k == 0)

    abbrev left : ℕ → ℕ → List Reached
    left n k = flat_map under (filter has (range_with_len k n))

    module _ (below : (page number : ℕ) → IsAscending page (pages_among (reached_under g image h page number)) (page + per ^ h)) where
      one_number : (n k : ℕ) (t : Bool) → IsAscending (page + (k + 1) * per ^ h) (pages_among (left n (k + 1))) (page + per * per ^ h)
          → IsAscending (page + k * per ^ h) (pages_among (flat_map under (cond t (k ∷ filter has (range_with_len (k + 1) n)) (filter has (range_with_len (k + 1) n))))) (page + per * per ^ h)
      one_number n k false rest =
          let next : (k + 1) * per ^ h ≡ k * per ^ h + per ^ h = grind arith in
          ascending-lower (page + k * per ^ h) (page + (k + 1) * per ^ h) (page + per * per ^ h) (pages_among (left n (k + 1))) (omega (arith, next)) rest
      one_number n k true rest =
          let next : page + k * per ^ h + per ^ h ≡ page + (k + 1) * per ^ h = grind arith in
          both (page + k * per ^ h) (page + (k + 1) * per ^ h) (page + per * per ^ h) (under k) (left n (k + 1))
          (subst (λ (x : ℕ). IsAscending (page + k * per ^ h) (pages_among (under k)) x) next (below (page + k * per ^ h) (number_in (block_of g image b) k))) rest

      from_number : (n k : ℕ) → k + n ≡ per → IsAscending (page + k * per ^ h) (pages_among (left n k)) (page + per * per ^ h)
      from_number zero k e =
          let all : k ≡ per = omega (arith, e) in
          let same : k * per ^ h ≡ per * per ^ h = ap (λ (x : ℕ). x * per ^ h) all in
          omega (arith, same)
      from_number (suc n) k e = one_number n k (has k) (from_number n (k + 1) (omega (arith, e)))

  pub under-ascends : (h page b : ℕ) → IsAscending page (pages_among (reached_under g image h page b)) (page + per ^ h)
  unfolding Rattle.sv_form.specs.AddressTree.reached_under
  under-ascends zero page b =
      let one : per ^ 0 ≡ 1 = pow-zero per in
      (omega arith, omega (arith, one))
  under-ascends (suc h) page b =
      let rest : IsAscending (page + 0 * per ^ h) (pages_among (left h page b per 0)) (page + per * per ^ h) = from_number h page b (under-ascends h) per 0 (omega arith) in
      let start : page ≤ page + 0 * per ^ h = omega arith in
      let end : page + per * per ^ h ≡ page + per ^ suc h = grind (arith, pow-suc per h) in
      let all : IsAscending page (pages_among (left h page b per 0)) (page + per ^ suc h) =
      subst (λ (x : ℕ). IsAscending page (pages_among (left h page b per 0)) x) end (ascending-lower page (page + 0 * per ^ h) (page + per * per ^ h) (pages_among (left h page b per 0)) start rest) in
      subst (λ (t : Bool). IsAscending page ((if t then record { page = page; block = b } ∷ [] else []) ++ pages_among (left h page b per 0)) (page + per ^ suc h)) (sym (above_zero h)) all

  -- ---- the addresses of an inode, from one on

  -- the page after all
  abbrev pub top : ℕ
  top = first_triple per + per ^ 3

  abbrev pub start : ℕ → ℕ
  start k = if nat_le k 12 then first_page g k else top

  next_page : (k : ℕ) → k < 10 → first_page g k + per ^ height_of k ≤ start (k + 1)
  next_page k below =
      let flat : height_of k ≡ 0 = omega (arith, below) in
      let one : per ^ height_of k ≡ 1 = ap (λ (x : ℕ). per ^ x) flat ∙ pow-zero per in
      let here : nat_le k 10 ≡ true = grind (arith, below) in
      let there : nat_le (k + 1) 10 ≡ true = grind (arith, below) in
      let known : nat_le (k + 1) 12 ≡ true = grind (arith, below) in
      let is : first_page g k ≡ k = ap (λ (t : Bool). if t then k else (if k == 11 then first_double per else first_triple per)) here in
      let after : start (k + 1) ≡ k + 1 =
      ap (λ (t : Bool). if t then first_page g (k + 1) else top) known ∙ ap (λ (t : Bool). if t then k + 1 else (if k + 1 == 11 then first_double per else first_triple per)) there in
      omega (arith, one, is, after)

  one_power : per ^ 1 ≡ per
  one_power = grind (arith, pow-suc per 0, pow-zero per)

  two_power : per ^ 2 ≡ per * per
  two_power = pow-suc per 1 ∙ ap (λ (x : ℕ). x * per) one_power

  next_single : first_page g 10 + per ^ height_of 10 ≤ start (10 + 1)
  next_single = omega (arith, one_power)

  next_double : first_page g 11 + per ^ height_of 11 ≤ start (11 + 1)
  next_double = omega (arith, two_power)

  next_triple : first_page g 12 + per ^ height_of 12 ≤ start (12 + 1)
  next_triple = omega arith

  pub next : (k : ℕ) → k < 13 → first_page g k + per ^ height_of k ≤ start (k + 1)
  next k below =
      let Goes : ℕ → Type 0 = λ x. first_page g x + per ^ height_of x ≤ start (x + 1) in
      elim (cases_lt k 10) as (λ _. Goes k) [
        | inl direct ↦ next_page k direct
        | inr past ↦ elim (cases_eq k 10) as (λ _. Goes k) [
          | inl e ↦ subst Goes (sym e) next_single
          | inr not_single ↦ elim (cases_eq k 11) as (λ _. Goes k) [
            | inl e ↦ subst Goes (sym e) next_double
            | inr not_double ↦ let e : k ≡ 12 = omega (arith, past, below, not_single, not_double) in subst Goes (sym e) next_triple
          ]
        ]
      ]

  module _ (inode : List ℕ) where
    abbrev at : ℕ → List Reached
    at k = reached_under g image (height_of k) (first_page g k) (address_of inode k)

    abbrev addressed_at : ℕ → Bool
    addressed_at k = not (address_of inode k == 0)

    abbrev addresses : ℕ → ℕ → List Reached
    addresses n k = flat_map at (filter addressed_at (range_with_len k n))

    one_address : (n k : ℕ) → k < 13 → (t : Bool) → IsAscending (start (k + 1)) (pages_among (addresses n (k + 1))) top
        → IsAscending (first_page g k) (pages_among (flat_map at (cond t (k ∷ filter addressed_at (range_with_len (k + 1) n)) (filter addressed_at (range_with_len (k + 1) n))))) top
    one_address n k below false rest = ascending-lower (first_page g k) (start (k + 1)) top (pages_among (addresses n (k + 1))) (omega (arith, next k below)) rest
    one_address n k below true rest =
        both (first_page g k) (start (k + 1)) top (at k) (addresses n (k + 1))
        (ascending-raise (first_page g k) (first_page g k + per ^ height_of k) (start (k + 1)) (pages_among (at k)) (next k below)
        (under-ascends (height_of k) (first_page g k) (address_of inode k))) rest

    from_address : (n k : ℕ) → k + n ≡ 13 → IsAscending (start k) (pages_among (addresses n k)) top
    from_address zero k e =
        let all : k ≡ 13 = omega (arith, e) in
        let same : start k ≡ start 13 = ap start all in
        omega (arith, same)
    from_address (suc n) k e =
        let below : k < 13 = omega (arith, e) in
        let known : nat_le k 12 ≡ true = grind (arith, below) in
        subst (λ (t : Bool). IsAscending (if t then first_page g k else top) (pages_among (addresses (suc n) k)) top) (sym known)
        (one_address n k below (addressed_at k) (from_address n (k + 1) (omega (arith, e))))

    pub reached-ascends : IsAscending 0 (pages_among (reached g image inode)) top
    unfolding Rattle.sv_form.specs.AddressTree.reached
    reached-ascends = from_address 13 0 refl
