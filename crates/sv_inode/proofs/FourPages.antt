-- A file whose pages 0, 2 and 3 are the blocks 50, 52 and 53.
use Rattle.std.proofs.Common.{◌≡◌, ◌≢◌, ◌+◌, ◌<◌, ◌≤◌, ℕ, zero, suc, List, [], ◌∷◌, get_or, arith, refl, sym, ◌∙◌}
use Rattle.sv_form.specs.PagePath.{block_numbers, greatest_size}
use Rattle.sv_form.specs.declared.geometry.Geometry.{Geometry}
use Rattle.sv_form.proofs.PageLemmas.{greatest_size_is}
use Rattle.sv_store.specs.Held.{Held, Origin, HoldsBlock}
use Rattle.sv_bmap.specs.Tree.{IsSpot, IsTree, block_at, child, down}
use Rattle.sv_bmap.proofs.Empty.{small, zeros}
use Rattle.sv_bmap.proofs.Paths.{child-hole}

down_hole : (h : Held) (b : ℕ) (ks : List ℕ) → b ≡ 0 → down h b ks ≡ 0
down_hole h b [] e = e
down_hole h b (k ∷ ks) e = down_hole h (child h b k) ks (child-hole h b k e)

abbrev pub four : List ℕ
four = 50 ∷ 0 ∷ 52 ∷ 53 ∷ 0 ∷ 0 ∷ 0 ∷ 0 ∷ 0 ∷ 0 ∷ 0 ∷ 0 ∷ 0 ∷ []

-- the block at a slot is as far from 50 as the slot from 0
block_is : (slot : ℕ) → get_or four slot 0 ≢ 0 → (get_or four slot 0 ≡ 50 + slot) × (slot < 4)
block_is zero some = (refl, omega arith)
block_is (suc zero) some = absurd (some refl)
block_is (suc (suc zero)) some = (refl, omega arith)
block_is (suc (suc (suc zero))) some = (refl, omega arith)
block_is (suc (suc (suc (suc m)))) some = absurd (some (zeros (suc (suc (suc (suc m))))))

at_slot : (n : ℕ) (h : Held) (slot : ℕ) (ks : List ℕ) → IsSpot n slot ks → block_at h four slot ks ≢ 0
    → (block_at h four slot ks ≡ 50 + slot) × (slot < 4) × (ks ≡ [])
at_slot n h slot [] spot some = let is = block_is slot some in (is.0, is.1, refl)
at_slot n h slot (k ∷ ks) spot some =
    let is = block_is slot (λ e. some (down_hole h (get_or four slot 0) (k ∷ ks) e)) in
    absurd (omega (arith, spot.deep, is.1))

pub four_tree : (o : Origin) (h : Held) → ((b : ℕ) → b < 200 → HoldsBlock o h b) → IsTree o h four
four_tree o h holds = record {
  whole = λ slot ks spot some.
      (let is = at_slot (block_numbers o.sizes) h slot ks spot some in holds (block_at h four slot ks) (omega (arith, is.0, is.1)));
  once = λ slot ks other js spot that some same.
      (let one = at_slot (block_numbers o.sizes) h slot ks spot some in
      let two = at_slot (block_numbers o.sizes) h other js that (λ e. some (same ∙ e)) in
      (omega (arith, one.0, two.0, same), one.2 ∙ sym two.2));
}

-- the size is none too great
pub size_fits : (g : Geometry) → g.block_size ≡ 1024 → g.blocks ≡ 200 → g.first_data ≡ 3 → 3500 ≤ greatest_size g
size_fits g size blocks first = omega (arith, greatest_size_is g (small g size blocks first))
