-- What an inode of an image reaches stands at the spots of its held address tree, each block once.
use Rattle.std.proofs.Common.{◌≡◌, ◌≢◌, ◌≤◌, ◌<◌, ◌==◌, ◌∙◌, ℕ, Bool, not, true, List, ap, sym, subst, slice_index, arith}
use Rattle.sv_form.specs.PagePath.{block_numbers}
use Rattle.sv_store.specs.Held.{Held, HoldsBlock, Origin}
use Rattle.sv_bmap.specs.Tree.{IsSpot, IsTree, block_at, down}
use Rattle.sv_plain.specs.Front.{address_of}
use Rattle.sv_check.specs.Walk.{Reached, first_page, height_of, reached, reached_under}
use Rattle.sv_files.specs.ConverseLines.{HasLines}
use Rattle.sv_files.proofs.HeldTree.{IsHeldBelow, IsWay, at_end, once_under, some_test}
use Rattle.sv_files.proofs.JoinedTimes.{few_in, met, one_in}

module _ (o : Origin) (image : List ℕ) (h : Held) (lines : HasLines o.sizes image h) (inode a : List ℕ) (tree : IsTree o h a)
    (same : (k : ℕ) → k < 13 → address_of inode k ≡ slice_index a k) where
  abbrev block : Reached → ℕ
  block r = r.block

  abbrev has : ℕ → Bool
  has k = not (address_of inode k == 0)

  abbrev from : ℕ → List Reached
  from k = reached_under o.sizes image (height_of k) (first_page o.sizes k) (address_of inode k)

  pub way_spot : (k : ℕ) (ks : List ℕ) → k < 13 → IsWay o image h lines (height_of k) ks → IsSpot (block_numbers o.sizes) k ks
  way_spot k ks low way = record { among = low; deep = (let deep = way.deep in omega (arith, deep)); places = way.places }

  below-address : (k : ℕ) → k < 13 → IsHeldBelow o image h lines (height_of k) (slice_index a k)
  below-address k low = record {
    held = λ ks way ne. tree.whole k ks (way_spot k ks low way) ne;
    once = λ ks js one two ne is. (tree.once k ks k js (way_spot k ks low one) (way_spot k js low two) ne is).1;
  }

  pub below : (k : ℕ) → k < 13 → IsHeldBelow o image h lines (height_of k) (address_of inode k)
  below k low = subst (λ (x : ℕ). IsHeldBelow o image h lines (height_of k) x) (sym (same k low)) (below-address k low)

  -- a block of the tree, by its spot
  pub record IsInTree (c : ℕ) : Type 0 where
    pub slot : ℕ
    pub ks : List ℕ
    pub spot : IsSpot (block_numbers o.sizes) slot ks
    pub is : block_at h a slot ks ≡ c
    pub some : c ≢ 0

  from-spot : (k c : ℕ) → k < 13 → has k ≡ true → 0 < met block c (from k) → IsInTree c
  from-spot k c low so there =
      let end =
      at_end o image h lines (height_of k) (first_page o.sizes k) (address_of inode k) c (some_test (address_of inode k) so)
      (below k low) there in
      record {
        slot = k;
        ks = end.ks;
        spot = way_spot k end.ks low end.way;
        is = ap (λ (x : ℕ). down h x end.ks) (sym (same k low)) ∙ end.is;
        some = end.some;
      }

  pub in_tree : (c : ℕ) → 0 < met block c (reached o.sizes image inode) → IsInTree c
  unfolding Rattle.sv_form.specs.AddressTree.reached
  in_tree c there =
      let i = one_in block c has from 13 0 there in
      let low = i.high in
      from-spot i.at c (omega (arith, low)) i.so i.some

  one-slot : (c j k : ℕ) → j < 13 → k < 13 → has j ≡ true → has k ≡ true → 0 < met block c (from j) → 0 < met block c (from k) → j ≡ k
  one-slot c j k jl kl js ks jm km =
      let one =
      at_end o image h lines (height_of j) (first_page o.sizes j) (address_of inode j) c (some_test (address_of inode j) js)
      (below j jl) jm in
      let two =
      at_end o image h lines (height_of k) (first_page o.sizes k) (address_of inode k) c (some_test (address_of inode k) ks)
      (below k kl) km in
      let first : block_at h a j one.ks ≡ c = ap (λ (x : ℕ). down h x one.ks) (sym (same j jl)) ∙ one.is in
      let second : block_at h a k two.ks ≡ c = ap (λ (x : ℕ). down h x two.ks) (sym (same k kl)) ∙ two.is in
      (tree.once j one.ks k two.ks (way_spot j one.ks jl one.way) (way_spot k two.ks kl two.way) (λ none. one.some (sym first ∙ none))
      (first ∙ sym second)).0

  pub once_in_tree : (c : ℕ) → met block c (reached o.sizes image inode) ≤ 1
  unfolding Rattle.sv_form.specs.AddressTree.reached
  once_in_tree c =
      few_in block c has from 13 0
      (λ k low high so. once_under o image h lines (height_of k) (first_page o.sizes k) (address_of inode k) c
      (some_test (address_of inode k) so) (below k (omega (arith, high))))
      (λ j k jl jh kl kh js ks jm km. one-slot c j k (omega (arith, jh)) (omega (arith, kh)) js ks jm km)

  pub held_in_tree : (c : ℕ) → IsInTree c → HoldsBlock o h c
  held_in_tree c i = subst (λ (x : ℕ). HoldsBlock o h x) i.is (tree.whole i.slot i.ks i.spot (λ none. i.some (sym i.is ∙ none)))
