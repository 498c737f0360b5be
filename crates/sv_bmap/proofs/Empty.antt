-- A file without pages.
use Rattle.std.proofs.Common.{◌≡◌, ◌≢◌, ◌≤◌, ◌*◌, ℕ, zero, suc, List, [], ◌∷◌, get_or, ap, refl, sym, ◌∙◌, arith}
use Rattle.sv_form.specs.Geometry.{IsGeometry}
use Rattle.sv_form.specs.PagePath.{IsPage, block_numbers}
use Rattle.sv_form.specs.declared.geometry.Geometry.{Geometry}
use Rattle.sv_form.proofs.PageLemmas.{greatest_size_is}
use Rattle.sv_store.specs.Held.{Held, Origin, HoldsBlock}
use Rattle.sv_bmap.specs.Tree.{down, child, block_at, IsSpot, IsTree}
use Rattle.sv_bmap.proofs.Paths.{child-hole}

pub down-hole : (h : Held) (b : ℕ) (ks : List ℕ) → b ≡ 0 → down h b ks ≡ 0
down-hole h b [] e = e
down-hole h b (k ∷ ks) e = down-hole h (child h b k) ks (child-hole h b k e)

-- addresses that are all 0 are a tree
pub empty-tree : (o : Origin) (h : Held) (a : List ℕ) → ((slot : ℕ) → get_or a slot 0 ≡ 0) → IsTree o h a
empty-tree o h a none = record {
  whole = λ slot ks spot some. absurd (some (down-hole h (get_or a slot 0) ks (none slot)));
  once = λ slot ks other js spot that some same. absurd (some (down-hole h (get_or a slot 0) ks (none slot)));
}

pub is-page : (g : Geometry) → IsGeometry g → (page : ℕ) → page ≤ 2000000 → IsPage g page
is-page g is page low =
    let bytes : page * g.block_size ≡ page * 1024 = ap (λ q. page * q) is.block_size in
    omega (arith, greatest_size_is g is, bytes, low)

-- the sizes of a small disk
pub small : (g : Geometry) → g.block_size ≡ 1024 → g.blocks ≡ 200 → g.first_data ≡ 3 → IsGeometry g
small g size blocks first = record {
  block_size = size;
  least_blocks = omega (arith, blocks);
  most_blocks = omega (arith, blocks);
  least_first = omega (arith, first);
  most_first = omega (arith, first);
  some_data = omega (arith, blocks, first);
}

zero-cons : (xs : List ℕ) → ((slot : ℕ) → get_or xs slot 0 ≡ 0) → (slot : ℕ) → get_or (0 ∷ xs) slot 0 ≡ 0
zero-cons xs each zero = refl
zero-cons xs each (suc m) = each m

-- thirteen addresses that are 0
abbrev pub thirteen : List ℕ
thirteen = 0 ∷ 0 ∷ 0 ∷ 0 ∷ 0 ∷ 0 ∷ 0 ∷ 0 ∷ 0 ∷ 0 ∷ 0 ∷ 0 ∷ 0 ∷ []

pub zeros : (slot : ℕ) → get_or thirteen slot 0 ≡ 0
zeros = zero-cons (0 ∷ 0 ∷ 0 ∷ 0 ∷ 0 ∷ 0 ∷ 0 ∷ 0 ∷ 0 ∷ 0 ∷ 0 ∷ 0 ∷ [])
    (zero-cons (0 ∷ 0 ∷ 0 ∷ 0 ∷ 0 ∷ 0 ∷ 0 ∷ 0 ∷ 0 ∷ 0 ∷ 0 ∷ [])
    (zero-cons (0 ∷ 0 ∷ 0 ∷ 0 ∷ 0 ∷ 0 ∷ 0 ∷ 0 ∷ 0 ∷ 0 ∷ [])
    (zero-cons (0 ∷ 0 ∷ 0 ∷ 0 ∷ 0 ∷ 0 ∷ 0 ∷ 0 ∷ 0 ∷ [])
    (zero-cons (0 ∷ 0 ∷ 0 ∷ 0 ∷ 0 ∷ 0 ∷ 0 ∷ 0 ∷ [])
    (zero-cons (0 ∷ 0 ∷ 0 ∷ 0 ∷ 0 ∷ 0 ∷ 0 ∷ [])
    (zero-cons (0 ∷ 0 ∷ 0 ∷ 0 ∷ 0 ∷ 0 ∷ [])
    (zero-cons (0 ∷ 0 ∷ 0 ∷ 0 ∷ 0 ∷ [])
    (zero-cons (0 ∷ 0 ∷ 0 ∷ 0 ∷ [])
    (zero-cons (0 ∷ 0 ∷ 0 ∷ []) (zero-cons (0 ∷ 0 ∷ []) (zero-cons (0 ∷ []) (zero-cons ([]) (λ slot. refl)))))))))))))

-- one page at the first direct address, and no other
abbrev pub after-first : List ℕ
after-first = 0 ∷ 0 ∷ 0 ∷ 0 ∷ 0 ∷ 0 ∷ 0 ∷ 0 ∷ 0 ∷ 0 ∷ 0 ∷ 0 ∷ []

no-more : (slot : ℕ) → get_or after-first slot 0 ≡ 0
no-more = zero-cons (0 ∷ 0 ∷ 0 ∷ 0 ∷ 0 ∷ 0 ∷ 0 ∷ 0 ∷ 0 ∷ 0 ∷ 0 ∷ [])
    (zero-cons (0 ∷ 0 ∷ 0 ∷ 0 ∷ 0 ∷ 0 ∷ 0 ∷ 0 ∷ 0 ∷ 0 ∷ [])
    (zero-cons (0 ∷ 0 ∷ 0 ∷ 0 ∷ 0 ∷ 0 ∷ 0 ∷ 0 ∷ 0 ∷ [])
    (zero-cons (0 ∷ 0 ∷ 0 ∷ 0 ∷ 0 ∷ 0 ∷ 0 ∷ 0 ∷ [])
    (zero-cons (0 ∷ 0 ∷ 0 ∷ 0 ∷ 0 ∷ 0 ∷ 0 ∷ [])
    (zero-cons (0 ∷ 0 ∷ 0 ∷ 0 ∷ 0 ∷ 0 ∷ [])
    (zero-cons (0 ∷ 0 ∷ 0 ∷ 0 ∷ 0 ∷ [])
    (zero-cons (0 ∷ 0 ∷ 0 ∷ 0 ∷ [])
    (zero-cons (0 ∷ 0 ∷ 0 ∷ []) (zero-cons (0 ∷ 0 ∷ []) (zero-cons (0 ∷ []) (zero-cons ([]) (λ slot. refl))))))))))))

pub first-tree : (o : Origin) (h : Held) (b : ℕ) → HoldsBlock o h b → IsTree o h (b ∷ after-first)
first-tree o h b holds = record {
  whole = whole;
  once = λ slot ks other js spot that some same.
      (let one = first slot ks spot some in
      let two = first other js that (λ e. some (same ∙ e)) in
      (one.0 ∙ sym two.0, one.1 ∙ sym two.1));
}
  where
    first : (slot : ℕ) (ks : List ℕ) → IsSpot (block_numbers o.sizes) slot ks → block_at h (b ∷ after-first) slot ks ≢ 0
        → (slot ≡ 0) × (ks ≡ [])
    first zero [] spot some = (refl, refl)
    first zero (k ∷ ks) spot some = absurd (omega (arith, spot.deep))
    first (suc m) ks spot some = absurd (some (down-hole h (get_or after-first m 0) ks (no-more m)))

    whole : (slot : ℕ) (ks : List ℕ) → IsSpot (block_numbers o.sizes) slot ks → block_at h (b ∷ after-first) slot ks ≢ 0
        → HoldsBlock o h (block_at h (b ∷ after-first) slot ks)
    whole zero [] spot some = holds
    whole zero (k ∷ ks) spot some = absurd (omega (arith, spot.deep))
    whole (suc m) ks spot some = absurd (some (down-hole h (get_or after-first m 0) ks (no-more m)))
