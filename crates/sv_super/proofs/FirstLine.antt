-- The line of inode 1 while other lines come and go, and the sizes that the superblock names.
use Rattle.std.proofs.Common.{◌≡◌, ◌≢◌, ◌≤◌, ◌<◌, ◌==◌, ◌&&◌, ℕ, Bool, true, false, cond, List, Some, None, IsSome, is_some, replicate, arith, refl, sym, ap, ◌∙◌, subst}
use Rattle.std.proofs.lemmas.Bool.{eqb-true}
use Rattle.sv_form.specs.Geometry.{IsDataBlock, IsGeometry, inode_place}
use Rattle.sv_form.specs.declared.geometry.Geometry.{Geometry}
use Rattle.sv_store.specs.Held.{Both, Held, Origin}
use Rattle.sv_super.specs.Calls.{Links}
use Rattle.sv_super.specs.Core.{Head, HoldsFirst, NamesSizes, less, line_less}
use Rattle.sv_super.proofs.Flushes.{linked-others}
use Rattle.sv_super.proofs.InodeLines.{both-first, both-no, count-is, place-low, place-once}
use Rattle.sv_super.proofs.Sound.{Joined, less-other}

-- the lines before the data blocks stay
pub first-stay : {o o' : Origin} {h h' : Held} → IsGeometry o.sizes → HoldsFirst o h → o' ≡ o → ((c l : ℕ) → 2 ≤ c → c < o.sizes.first_data → IsSome (h c l) → h' c l ≡ h c l) → HoldsFirst o' h'
first-stay {o} {o'} {h} {h'} sizes first home same =
    (let P : Origin → Type 0 = λ q. HoldsFirst q h' in
    subst P (sym home) (record { line = same (inode_place o.sizes 1).block (inode_place o.sizes 1).line place.0 place.1 (ap is_some first.line) ∙ first.line }))
  where
    place : (2 ≤ (inode_place o.sizes 1).block) × ((inode_place o.sizes 1).block < o.sizes.first_data) × ((inode_place o.sizes 1).line < 16)
    place = place-low 1 sizes (omega arith) (omega (arith, count-is sizes, sizes.least_first))

-- a data block was cut off
pub first-less : {o o' : Origin} {h h' : Held} (b : ℕ) → IsGeometry o.sizes → HoldsFirst o h → o' ≡ o → h' ≡ less b h → IsDataBlock o.sizes b → HoldsFirst o' h'
first-less {o} {o'} {h} {h'} b sizes first home cut in_data =
    first-stay sizes first home (λ c l past low some. ap (λ q. q c l) cut ∙ ap (λ q. q l) (less-other b c h (λ same. absurd (omega (arith, low, same, in_data.least)))))

-- a data block came in
pub first-joined : {o o' : Origin} {h k new : Held} (b : ℕ) → IsGeometry o.sizes → HoldsFirst o h → o' ≡ o → Joined h k new b → IsDataBlock o.sizes b → HoldsFirst o' new
first-joined {o} {o'} {h} {k} {new} b sizes first home joined in_data =
    first-stay sizes first home (λ c l past low some. ap (λ q. q l) (joined.others c (λ same. absurd (omega (arith, low, same, in_data.least)))) ∙ both-first h k c l some)

-- a data block was linked
pub first-linked : {o o' : Origin} {h new : Held} {list list' : List ℕ} (b : ℕ) → IsGeometry o.sizes → HoldsFirst o h → o' ≡ o → Links h new list list' b → IsDataBlock o.sizes b → HoldsFirst o' new
first-linked {o} {o'} {h} {new} {list} {list'} b sizes first home links in_data =
    first-stay sizes first home (λ c l past low some. ap (λ q. q l) (linked-others b links c (λ same. absurd (omega (arith, low, same, in_data.least)))))

-- the line of another inode was cut off
pub first-line_less : {o o' : Origin} {h h' : Held} (n : ℕ) → IsGeometry o.sizes → HoldsFirst o h → 2 ≤ n → h' ≡ line_less (inode_place o.sizes n) h → o' ≡ o → HoldsFirst o' h'
unfolding line_less
first-line_less {o} {o'} {h} {h'} n sizes first low cut home =
    (let P : Origin → Type 0 = λ q. HoldsFirst q h' in
    subst P (sym home)
    (record {
      line = ap (λ q. q (inode_place o.sizes 1).block (inode_place o.sizes 1).line) cut
          ∙ (ap (λ t. cond t None (h (inode_place o.sizes 1).block (inode_place o.sizes 1).line))
          (both-no ((inode_place o.sizes 1).block == (inode_place o.sizes n).block) ((inode_place o.sizes 1).line == (inode_place o.sizes n).line)
          (λ p q. ne (place-once n 1 sizes (omega (arith, low)) (omega arith) (eqb-true (inode_place o.sizes 1).block (inode_place o.sizes n).block p) (eqb-true (inode_place o.sizes 1).line (inode_place o.sizes n).line q))))
          ∙ first.line);
    }))
  where
    ne : 1 ≢ n
    ne same = absurd (omega (arith, same, low))

-- the line of another inode came in
pub first-joined_line : {o o' : Origin} {h : Held} (k : Held) {h' : Held} → HoldsFirst o h → h' ≡ Both h k → o' ≡ o → HoldsFirst o' h'
first-joined_line {o} {o'} {h} k {h'} first joins home =
    (let P : Origin → Type 0 = λ q. HoldsFirst q h' in
    subst P (sym home) (record { line = ap (λ q. q (inode_place o.sizes 1).block (inode_place o.sizes 1).line) joins ∙ (both-first h k (inode_place o.sizes 1).block (inode_place o.sizes 1).line (ap is_some first.line) ∙ first.line) }))

pub names-home : {o o' : Origin} {head : Head} → o' ≡ o → NamesSizes o.sizes head → NamesSizes o'.sizes head
names-home {o} {o'} {head} home names = (let P : Origin → Type 0 = λ q. NamesSizes q.sizes head in subst P (sym home) names)
