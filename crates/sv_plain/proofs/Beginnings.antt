-- What is kept holds where there is nothing yet.
use Rattle.std.proofs.Common.{◌≡◌, ◌≤◌, ◌<◌, ℕ, ◌+◌, ◌-◌, ◌*◌, ◌/◌, ◌%◌, ◌^◌, ◌==◌, min, not, subst, sym, refl, ap, ◌∙◌, arith, option_map}
use Rattle.std.specs.Ordering.{nat_cmp}
use Rattle.std.specs.FinMap as map
use Rattle.sv_form.specs.Pair.{pair_cmp}
use Rattle.sv_form.specs.Node.{used, block_set, numbers_per}
use Rattle.sv_plain.specs.declared.fs.opening.Opening.{Opening}
use Rattle.sv_plain.specs.Totals.{total, at_or_0, one_if}
use Rattle.sv_form.specs.declared.geometry.Geometry.{Geometry}
use Rattle.sv_form.specs.Geometry.{IsGeometry, inode_count}
use Rattle.sv_plain.specs.Whole.{IsSized}
use Rattle.sv_plain.specs.Fs.{greatest_size, holders, places_taken, used_by_all, promised}
use Rattle.sv_plain.specs.Keeping.{AreBlocksOf}
use Rattle.sv_plain.proofs.Totals.{total-empty}
use Rattle.sv_plain.proofs.Counts.{count_none}

pub no_holders : (i : ℕ) → holders map.empty map.empty i ≡ 0
unfolding holders
no_holders i =
    let first : total (λ p _. one_if (p.1 == i)) (map.empty {X = ℕ} {R = pair_cmp}) ≡ 0 = total-empty pair_cmp (λ p _. one_if (p.1 == i)) in
    let second : total (λ _ f. one_if (f.inode == i)) (map.empty {X = Opening} {R = nat_cmp}) ≡ 0 = total-empty nat_cmp (λ _ f. one_if (f.inode == i)) in
    omega (arith, first, second)

pub no_places_taken : (inodes : ℕ) → places_taken inodes map.empty map.empty ≡ 0
unfolding places_taken
no_places_taken inodes = count_none (λ i. not (holders map.empty map.empty i == 0)) 0 (inodes + 1) (λ i. ap (λ n. not (n == 0)) (no_holders i))

pub none_used : (block : ℕ) → used_by_all block map.empty ≡ 0
unfolding used_by_all
none_used block = total-empty nat_cmp (λ _ node. used block node)

pub none_promised : promised map.empty ≡ 0
unfolding promised
none_promised = total-empty nat_cmp (λ _ n. n)

pub no_blocks : (block : ℕ) → AreBlocksOf block map.empty map.empty
no_blocks block i = map.get-empty nat_cmp i ∙ ap (option_map (λ node. block_set (numbers_per block) (map.keys node.pages))) (sym (map.get-empty nat_cmp i))

pub none_held : (i : ℕ) → at_or_0 (λ n. n) (map.get (map.empty {R = nat_cmp}) i) ≡ holders map.empty map.empty i
none_held i = ap (at_or_0 (λ n. n)) (map.get-empty nat_cmp i) ∙ sym (no_holders i)

few_inodes : (block first : ℕ) → block ≡ 1024 → first ≤ 4097 → (first - 2) * block / 64 < 2 ^ 16
few_inodes block first e h =
    let of_1024 : (first - 2) * 1024 / 64 < 2 ^ 16 = omega (arith, h) in
    subst (λ (b : ℕ). (first - 2) * b / 64 < 2 ^ 16) (sym e) of_1024

least : (a b : ℕ) → min a b ≤ a
least a b = omega arith

-- the sizes of a geometry
pub sized : (g : Geometry) → IsGeometry g → IsSized g.block_size (greatest_size g.block_size) (inode_count g)
sized g h = record {
  some = omega (arith, h.block_size);
  block_fits = omega (arith, h.block_size);
  entries = subst (λ (b : ℕ). b % 16 ≡ 0) (sym h.block_size) refl;
  greatest_fits =
      (let per : ℕ = numbers_per g.block_size in
      let low = least 2147483647 ((10 + per + per * per + per * per * per) * g.block_size) in
      omega (arith, low));
  names_fit =
      (let few = few_inodes g.block_size g.first_data h.block_size h.most_first in
      let greatest : greatest_size g.block_size ≡ 2147483647 = ap greatest_size h.block_size in
      omega (arith, few, greatest));
  inodes_fit = few_inodes g.block_size g.first_data h.block_size h.most_first;
}
