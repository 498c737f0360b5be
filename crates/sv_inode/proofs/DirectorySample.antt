-- A directory whose one page is block 50.
use Rattle.std.proofs.Common.{◌≡◌, ◌≢◌, ◌<◌, ◌≤◌, ℕ, zero, suc, List, [], ◌∷◌, get_or, IsSome, sym, subst, arith}
use Rattle.sv_form.specs.Geometry.{IsDataBlock}
use Rattle.sv_form.specs.PagePath.{block_numbers, greatest_size}
use Rattle.sv_form.specs.declared.geometry.Geometry.{Geometry}
use Rattle.sv_store.specs.Held.{Held, HoldsBlock, Origin}
use Rattle.sv_bmap.specs.Tree.{IsSpot, IsTree, block_at}
use Rattle.sv_bmap.proofs.Empty.{after-first, down-hole, first-tree, zeros}
use Rattle.sv_inode.specs.StandsFor.{HasDataBlocks}
use Rattle.sv_inode.proofs.FourPages.{size_fits}

-- the sizes, and block 50
pub holds : {o : Origin} {h : Held} → o.sizes.block_size ≡ 1024 → ((l : ℕ) → l < 16 → IsSome (h 50 l)) → HoldsBlock o h 50
holds long lines = record { at = λ l low. lines l (omega (arith, long, low)) }

pub directory-tree : {o : Origin} {h : Held} → o.sizes.block_size ≡ 1024 → ((l : ℕ) → l < 16 → IsSome (h 50 l))
    → IsTree o h (50 ∷ after-first)
directory-tree {o} {h} long lines = first-tree o h 50 (holds long lines)

pub tree-after : {o : Origin} {h : Held} {a : List ℕ} → a ≡ 50 ∷ after-first → o.sizes.block_size ≡ 1024
    → ((l : ℕ) → l < 16 → IsSome (h 50 l)) → IsTree o h a
tree-after {o} {h} e long lines = let P : List ℕ → Type 0 = λ q. IsTree o h q in subst P (sym e) (directory-tree long lines)

pub directory-data : (g : Geometry) (h : Held) → g.first_data ≡ 3 → g.blocks ≡ 200 → HasDataBlocks g h (50 ∷ after-first)
directory-data g h first blocks = record { at = at }
  where
    at : (slot : ℕ) (ks : List ℕ) → IsSpot (block_numbers g) slot ks → block_at h (50 ∷ after-first) slot ks ≢ 0
        → IsDataBlock g (block_at h (50 ∷ after-first) slot ks)
    at zero [] spot some = record { least = omega (arith, first); most = omega (arith, blocks) }
    at zero (k ∷ ks) spot some = absurd (omega (arith, spot.deep))
    at (suc m) ks spot some = absurd (some (down-hole h (get_or after-first m 0) ks (zeros (suc m))))

pub directory-size : (g : Geometry) → g.block_size ≡ 1024 → g.blocks ≡ 200 → g.first_data ≡ 3 → 96 ≤ greatest_size g
directory-size g size blocks first = omega (arith, size_fits g size blocks first)
