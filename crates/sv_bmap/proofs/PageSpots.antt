-- What a row of new blocks does to the pages.
use Rattle.std.proofs.Common.{◌≡◌, ◌≢◌, ◌<◌, ◌≤◌, ◌+◌, ◌-◌, ℕ, zero, suc, List, [], ◌∷◌, length, get_or, refl, sym, ap, ◌∙◌, arith}
use Rattle.sv_form.specs.PagePath.{IsPath, page_of, block_numbers}
use Rattle.sv_form.specs.declared.geometry.Geometry.{Geometry}
use Rattle.sv_form.specs.declared.page_path.PagePath.{PagePath}
use Rattle.sv_form.specs.declared.page_path.PagePath.TheVariants.{Direct, Single, Double, Triple}
use Rattle.sv_store.specs.Held.{Held, Origin}
use Rattle.sv_bmap.specs.Hang.{Hangs}
use Rattle.sv_bmap.specs.Tree.{IsSpot, IsTree, slot_of, places_of, page_block}
use Rattle.sv_bmap.proofs.Hang.{hung-page, hung-other}
use Rattle.sv_bmap.proofs.Paths.{top-spot, one-spot, two-spot, page-block-is}

three-spot : (n slot i j k : ℕ) → slot < 13 → 12 ≤ slot → i < n → j < n → k < n → IsSpot n slot (i ∷ j ∷ k ∷ [])
three-spot n slot i j k low high first second third = record { among = low; deep = omega arith; places = each }
  where
    each : (m : ℕ) → m < length (i ∷ j ∷ k ∷ []) → get_or (i ∷ j ∷ k ∷ []) m 0 < n
    each zero below = first
    each (suc zero) below = second
    each (suc (suc zero)) below = third
    each (suc (suc (suc m))) below = absurd (omega arith)

-- a page stands at a spot of the tree, as deep as its address goes
pub path-spot : (g : Geometry) (p : PagePath) → IsPath g p → IsSpot (block_numbers g) (slot_of p) (places_of p)
path-spot g (Direct i) is = top-spot (block_numbers g) i (omega (arith, is))
path-spot g (Single i) is = one-spot (block_numbers g) 10 i (omega arith) (omega arith) is
path-spot g (Double i j) is = two-spot (block_numbers g) 11 i j (omega arith) (omega arith) is.0 is.1
path-spot g (Triple i j k) is = three-spot (block_numbers g) 12 i j k (omega arith) (omega arith) is.0 is.1 is.2

pub path-deep : (g : Geometry) (p : PagePath) → IsPath g p → length (places_of p) ≡ slot_of p - 9
path-deep g (Direct i) is = omega (arith, is)
path-deep g (Single i) is = refl
path-deep g (Double i j) is = refl
path-deep g (Triple i j k) is = refl

-- two pages at one spot are one page
pub same-page : (g : Geometry) (p q : PagePath) → IsPath g p → IsPath g q → slot_of p ≡ slot_of q → places_of p ≡ places_of q
    → page_of g p ≡ page_of g q
same-page g (Direct i) (Direct j) is also e f = e
same-page g (Direct i) (Single j) is also e f = absurd (omega (arith, is, e))
same-page g (Direct i) (Double j k) is also e f = absurd (omega (arith, is, e))
same-page g (Direct i) (Triple j k l) is also e f = absurd (omega (arith, is, e))
same-page g (Single i) (Direct j) is also e f = absurd (omega (arith, also, e))
same-page g (Single i) (Single j) is also e f = ap (λ q. 10 + get_or q 0 0) f
same-page g (Single i) (Double j k) is also e f = absurd (omega (arith, e))
same-page g (Single i) (Triple j k l) is also e f = absurd (omega (arith, e))
same-page g (Double i j) (Direct k) is also e f = absurd (omega (arith, also, e))
same-page g (Double i j) (Single k) is also e f = absurd (omega (arith, e))
same-page g (Double i j) (Double k l) is also e f = ap (λ q. page_of g (Double (get_or q 0 0) (get_or q 1 0))) f
same-page g (Double i j) (Triple k l m) is also e f = absurd (omega (arith, e))
same-page g (Triple i j k) (Direct l) is also e f = absurd (omega (arith, also, e))
same-page g (Triple i j k) (Single l) is also e f = absurd (omega (arith, e))
same-page g (Triple i j k) (Double l m) is also e f = absurd (omega (arith, e))
same-page g (Triple i j k) (Triple l m o) is also e f = ap (λ q. page_of g (Triple (get_or q 0 0) (get_or q 1 0) (get_or q 2 0))) f

-- the page of the row is its last block
pub page-hung : {o : Origin} {h new : Held} {a b : List ℕ} {above parent place : ℕ} {xs : List ℕ} (p : PagePath) → IsPath o.sizes p
    → Hangs (block_numbers o.sizes) h new a b (slot_of p) (places_of p) above parent place xs → IsTree o h a
    → page_block o.sizes new b (page_of o.sizes p) ≡ get_or xs (length xs - 1) 0
page-hung {o} {h} {new} {a} {b} p is hangs tree = page-block-is o.sizes o.sizes new b p (page_of o.sizes p) refl is refl
    ∙ hung-page hangs tree

-- every other page has the block that it had, or is the hole that it was
pub other-hung : {o : Origin} {h new : Held} {a b : List ℕ} {above parent place : ℕ} {xs : List ℕ} (p q : PagePath) → IsPath o.sizes p
    → IsPath o.sizes q → page_of o.sizes q ≢ page_of o.sizes p
    → Hangs (block_numbers o.sizes) h new a b (slot_of p) (places_of p) above parent place xs → IsTree o h a
    → page_block o.sizes new b (page_of o.sizes q) ≡ page_block o.sizes h a (page_of o.sizes q)
other-hung {o} {h} {new} {a} {b} p q is also other hangs tree =
    page-block-is o.sizes o.sizes new b q (page_of o.sizes q) refl also refl
    ∙ (hung-other hangs tree (slot_of q) (places_of q) (path-spot o.sizes q also) (path-deep o.sizes q also)
    (λ e f. other (same-page o.sizes q p also is e f)) ∙ sym (page-block-is o.sizes o.sizes h a q (page_of o.sizes q) refl also refl))
