-- The pages that an inode of an image reaches are those of the node for which it stands.
use Rattle.std.proofs.Common.{◌≡◌, ◌≢◌, ◌≤◌, ◌<◌, ◌+◌, ◌*◌, ◌/◌, ◌%◌, ◌==◌, ◌∷◌, ◌⊎◌, ◌∙◌, ℕ, zero, suc, Bool, not, true, false, List}
use Rattle.std.proofs.Common.{Option, Some, None, inl, inr, ap, sym, refl, subst, cond, filter, get_or, length, slice_index, arith}
use Rattle.std.specs.List.{list_any, range_with_len}
use Rattle.std.specs.FinMap as fmap
use Rattle.std.proofs.lemmas.Bool.{cases_eq, cases_lt, false≢true, ne_eqb}
use Rattle.std.proofs.lemmas.List.{ext_get_or}
use Rattle.sv_form.specs.declared.geometry.Geometry.{Geometry}
use Rattle.sv_form.specs.declared.inode.InodeBody.{InodeBody}
use Rattle.sv_form.specs.Geometry.{IsGeometry}
use Rattle.sv_form.specs.Image.{block_of}
use Rattle.sv_form.specs.Node.{Node}
use Rattle.sv_form.specs.declared.page_path.PagePath.{PagePath}
use Rattle.sv_form.specs.PagePath.{IsPath, block_numbers, page_limit, page_of}
use Rattle.sv_store.specs.Held.{Held, HoldsBlock, Origin, line_of}
use Rattle.sv_store.proofs.Lines.{get_or-by_line}
use Rattle.sv_bmap.specs.Tree.{IsSpot, block_at, child, down, page_block, places_of, slot_of}
use Rattle.sv_bmap.proofs.Paths.{page-block-is}
use Rattle.sv_bmap.proofs.PagePaths.{has_path}
use Rattle.sv_bmap.proofs.PageSpots.{path-deep, path-spot, same-page}
use Rattle.sv_inode.specs.StandsFor.{IsHeldPage, IsPageOf, StandsFor}
use Rattle.sv_plain.specs.Front.{address_of}
use Rattle.sv_check.specs.Walk.{Reached, filled, first_page, height_of, number_in, reached, reached_under}
use Rattle.sv_check.proofs.WholeNodes.{length-block}
use Rattle.sv_files.specs.ConverseLines.{HasLines}
use Rattle.sv_files.proofs.EachReached.{Each, IsReachedAt, each_joined, each_map, each_under, hole-down, offset, there_under}
use Rattle.sv_files.proofs.HeldInode.{below, way_spot}
use Rattle.sv_files.proofs.HeldTree.{IsWay, child-number, some_test}
use Rattle.sv_files.proofs.RangeTests.{any_joined}
use Rattle.sv_files.proofs.SpotPaths.{HasPathAt, path-low, spot_path}

first_filled : (t : Bool) → t ≡ true → (a : ℕ) (rest : List ℕ) → 1 ≤ length (cond t (a ∷ rest) rest)
first_filled true is a rest = omega arith
first_filled false is a rest = absurd (false≢true is)

more_filled : (t : Bool) (a : ℕ) (rest : List ℕ) → 1 ≤ length rest → 1 ≤ length (cond t (a ∷ rest) rest)
more_filled true a rest some = omega arith
more_filled false a rest some = some

-- some number of a range passes
some_filled : (k n first : ℕ) (q : ℕ → Bool) → q k ≡ true → first ≤ k → k < first + n → 1 ≤ length (filter q (range_with_len first n))
some_filled k zero first q so low high = absurd (omega (arith, low, high))
some_filled k (suc n) first q so low high =
    elim (cases_eq first k) [
      | inl is ↦ first_filled (q first) (ap q is ∙ so) first (filter q (range_with_len (first + 1) n))
      | inr other ↦
          more_filled (q first) first (filter q (range_with_len (first + 1) n))
          (some_filled k n (first + 1) q so (omega (arith, low, other)) (omega (arith, high)))
    ]

module _ (o : Origin) (image : List ℕ) (h : Held) (lines : HasLines o.sizes image h) (inode : List ℕ) (body : InodeBody) (node : Node)
    (stands : StandsFor o h body node)
    (same : (k : ℕ) → k < 13 → address_of inode k ≡ slice_index body.addresses k) (sizes : IsGeometry o.sizes)
    (long : length image ≡ o.sizes.blocks * o.sizes.block_size) where
  abbrev g : Geometry
  g = o.sizes

  abbrev a : List ℕ
  a = body.addresses

  abbrev has : ℕ → Bool
  has k = not (address_of inode k == 0)

  abbrev from : ℕ → List Reached
  from k = reached_under g image (height_of k) (first_page g k) (address_of inode k)

  -- what is reached from an address
  pub record IsFrom (r : Reached) : Type 0 where
    pub slot : ℕ
    pub low : slot < 13
    pub at : IsReachedAt o image h lines (height_of slot) (first_page g slot) (address_of inode slot) r

  pub each_from : Each IsFrom (reached g image inode)
  unfolding Rattle.sv_form.specs.AddressTree.reached
  each_from =
      each_joined IsFrom has from 13 0
      (λ k least low so.
      each_map (IsReachedAt o image h lines (height_of k) (first_page g k) (address_of inode k)) IsFrom
      (λ r at. record { slot = k; low = omega (arith, low); at = at }) (from k)
      (each_under o image h lines (height_of k) (first_page g k) (address_of inode k) (some_test (address_of inode k) so)
      (below o image h lines inode a stands.tree same k (omega (arith, low)))))

  module _ (r : Reached) (f : IsFrom r) where
    spot-is : block_at h a f.slot f.at.ks ≡ r.block
    spot-is = ap (λ (x : ℕ). down h x f.at.ks) (sym (same f.slot f.low)) ∙ f.at.is

    spot : IsSpot (block_numbers g) f.slot f.at.ks
    spot = way_spot o image h lines inode a stands.tree same f.slot f.at.ks f.low f.at.way

    -- an indirect block has a number
    filled-number : (h0 : r.height ≢ 0) → (k : ℕ) × ((k < block_numbers g) × (number_in (block_of g image r.block) k ≢ 0))
    filled-number h0 =
        let left = f.at.left in
        let some = stands.no_empty.some f.slot f.at.ks spot (omega (arith, left, h0)) (λ none. f.at.some (sym spot-is ∙ none)) in
        let held =
        subst (λ (b : ℕ). HoldsBlock o h b) spot-is (stands.tree.whole f.slot f.at.ks spot (λ none. f.at.some (sym spot-is ∙ none))) in
        let number-is = ap (λ (b : ℕ). child h b some.0) spot-is ∙ child-number o image h lines r.block some.0 held some.1.0 f.at.some in
        (some.0, (some.1.0, λ none. some.1.1 (number-is ∙ none)))

    -- a page is one of the node's
    pub record IsPageIn : Type 0 where
      pub bytes : List ℕ
      pub there : fmap.get node.pages r.page ≡ Some bytes
      pub shown : block_of g image r.block ≡ bytes

    path : r.height ≡ 0 → HasPathAt g f.slot f.at.ks (first_page g f.slot + offset (block_numbers g) (height_of f.slot) f.at.ks)
    path flat = (let left = f.at.left in spot_path g f.slot f.at.ks f.low (omega (arith, left, flat)) f.at.way.places)

    page-here : (flat : r.height ≡ 0) → page_block g h a r.page ≡ r.block
    page-here flat =
        let p = path flat in
        page-block-is g g h a p.path r.page refl p.is (p.page_is ∙ sym f.at.page_is)
        ∙ ap (λ (s : ℕ). block_at h a s (places_of p.path)) p.slot_is ∙ ap (λ (ks : List ℕ). block_at h a f.slot ks) p.places_is ∙ spot-is

    page-low : r.height ≡ 0 → r.page < page_limit (block_numbers g)
    page-low flat =
        let p = path flat in
        let low = path-low g p.path p.is in
        let is = p.page_is in
        let at = f.at.page_is in
        omega (arith, low, is, at)

    pub inside-from : r.block < g.blocks
    inside-from =
        subst (λ (b : ℕ). b < g.blocks) spot-is (stands.data_blocks.at f.slot f.at.ks spot (λ none. f.at.some (sym spot-is ∙ none))).most

    shown-by : (bytes : List ℕ) → IsHeldPage g h r.block bytes → block_of g image r.block ≡ bytes
    shown-by bytes is =
        let size : length (block_of g image r.block) ≡ g.block_size = length-block g image r.block sizes long inside-from in
        ext_get_or 0 (block_of g image r.block) bytes (size ∙ sym is.size)
        (λ k low.
        get_or-by_line (block_of g image r.block) k
        ∙ ap (λ (l : List ℕ). get_or l (k % 64) 0)
        (sym (lines.at r.block (k / 64) (line_of bytes (k / 64)) (is.lines (k / 64) (omega (arith, low, size)))))
        ∙ sym (get_or-by_line bytes k))

    page_by : (p : Option (List ℕ)) → fmap.get node.pages r.page ≡ p → IsPageOf g h r.block p → IsPageIn
    page_by None is none = absurd (f.at.some none)
    page_by (Some bytes) is held = record { bytes = bytes; there = is; shown = shown-by bytes held }

    pub page-in : r.height ≡ 0 → IsPageIn
    page-in flat =
        page_by (fmap.get node.pages r.page) refl
        (subst (λ (b : ℕ). IsPageOf g h b (fmap.get node.pages r.page)) (page-here flat) (stands.pages.within r.page (page-low flat)))

    pub not-empty : r.height ≢ 0 → (length (filled g (block_of g image r.block)) == 0) ≡ false
    not-empty high =
        let k = filled-number high in
        let some =
        some_filled k.0 (block_numbers g) 0 (λ j. not (number_in (block_of g image r.block) j == 0))
        (ap not (ne_eqb (number_in (block_of g image r.block) k.0) 0 k.1.1)) (omega arith) (let low = k.1.0 in omega (arith, low)) in
        ne_eqb (length (filled g (block_of g image r.block))) 0 (λ none. omega (arith, some, none))

  -- ---- and back: each page of the node is reached

  module _ (k : ℕ) (bytes : List ℕ) (there : fmap.get node.pages k ≡ Some bytes) where
    reach_by : (k < page_limit (block_numbers g)) ⊎ (page_limit (block_numbers g) ≤ k) → k < page_limit (block_numbers g)
    reach_by (inl low) = low
    reach_by (inr past) = let bad : ⊥ = cc (stands.pages.past k past, there) in absurd bad

    low-page : k < page_limit (block_numbers g)
    low-page = reach_by (cases_lt k (page_limit (block_numbers g)))

    held-page : IsHeldPage g h (page_block g h a k) bytes
    held-page = subst (λ (p : Option (List ℕ)). IsPageOf g h (page_block g h a k) p) there (stands.pages.within k low-page)

    some_numbers : 0 < block_numbers g
    some_numbers =
        let is : block_numbers g ≡ 256 = ap (λ (s : ℕ). s / 4) sizes.block_size in
        omega (arith, is)

    module _ (p : PagePath) (is : IsPath g p) (page_is : page_of g p ≡ k) where
      path-block : page_block g h a k ≡ block_at h a (slot_of p) (places_of p)
      path-block = page-block-is g g h a p k refl is page_is

      low-slot : slot_of p < 13
      low-slot = (path-spot g p is).among

      below-path : down h (address_of inode (slot_of p)) (places_of p) ≡ page_block g h a k
      below-path = ap (λ (x : ℕ). down h x (places_of p)) (same (slot_of p) low-slot) ∙ sym path-block

      down-some : down h (address_of inode (slot_of p)) (places_of p) ≢ 0
      down-some none = held-page.some (sym below-path ∙ none)

      path-way : IsWay o image h lines (height_of (slot_of p)) (places_of p)
      path-way = (let s = path-spot g p is in let deep = s.deep in record { deep = omega (arith, deep); places = s.places })

      size-of-path : length (places_of p) ≡ height_of (slot_of p)
      size-of-path = (let deep = path-deep g p is in omega (arith, deep))

      page-of-path : first_page g (slot_of p) + offset (block_numbers g) (height_of (slot_of p)) (places_of p) ≡ k
      page-of-path =
          let q = spot_path g (slot_of p) (places_of p) low-slot size-of-path path-way.places in
          sym q.page_is ∙ same-page g q.path p q.is is q.slot_is q.places_is ∙ page_is

      pub there_by : (test : Reached → Bool) → ((r : Reached) → r.height ≡ 0 → r.page ≡ k → test r ≡ true)
          → list_any test (reached g image inode) ≡ true
      unfolding Rattle.sv_form.specs.AddressTree.reached
      there_by test passes =
          any_joined has from test 13 0 (slot_of p) (omega arith) (let low = low-slot in omega (arith, low))
          (ap not (ne_eqb (address_of inode (slot_of p)) 0
          (hole-down o image h lines (address_of inode (slot_of p)) (places_of p) down-some)))
          (there_under o image h lines (height_of (slot_of p)) (first_page g (slot_of p)) (address_of inode (slot_of p))
          (places_of p) size-of-path path-way down-some
          (below o image h lines inode a stands.tree same (slot_of p) low-slot) test
          (λ r flat page_at block_at_. passes r flat (page_at ∙ page-of-path)))

    pub there_from : (test : Reached → Bool) → ((r : Reached) → r.height ≡ 0 → r.page ≡ k → test r ≡ true)
        → list_any test (reached g image inode) ≡ true
    there_from test passes =
        let p = has_path g k some_numbers low-page in
        there_by p.0 p.1.0 p.1.1 test passes
