-- The inode stands for the node with one page more, or with other bytes in a page, once the page was attached or written
-- where it stands.
use Rattle.std.proofs.Common.{◌≡◌, ◌≢◌, ◌<◌, ◌+◌, ◌-◌, ◌*◌, ◌/◌, ◌%◌, ◌==◌, ◌++◌, ◌⊎◌, inl, inr, ℕ, zero, suc, Bool, true, false, cond}
use Rattle.std.proofs.Common.{List, [], ◌∷◌, length, take, get_or, Option, Some, None, IfSome, IsSome, is_some, unwrap_or, arith, refl}
use Rattle.std.proofs.Common.{sym, ap, ◌∙◌, subst}
use Rattle.std.specs.FinMap as fmap
use Rattle.std.specs.List.{All}
use Rattle.std.specs.Ordering.{nat_cmp}
use Rattle.std.proofs.lemmas.Bool.{eqb-true}
use Rattle.std.proofs.lemmas.Bool.Decides.{nat_tests}
use Rattle.std.proofs.lemmas.List.{take_all, take_more, length_push, get_or_push, get_or_append_left}
use Rattle.sv_form.specs.Geometry.{IsDataBlock, IsGeometry}
use Rattle.sv_form.specs.Node.{Node}
use Rattle.sv_form.specs.Number.{number32}
use Rattle.sv_form.specs.PagePath.{IsPage, IsPath, block_numbers, page_limit, page_of}
use Rattle.sv_form.specs.declared.geometry.Geometry.{Geometry}
use Rattle.sv_form.specs.declared.inode.InodeBody.{InodeBody}
use Rattle.sv_form.specs.declared.page_path.PagePath.{PagePath}
use Rattle.sv_store.specs.Calls.{Gets}
use Rattle.sv_store.specs.Held.{Held, Origin, HoldsBlock, line_of, put}
use Rattle.sv_store.specs.Loan.{Loan}
use Rattle.sv_store.proofs.Holding.{is_some-put, put-line, put-other}
use Rattle.sv_store.proofs.Lines.{get_or-by_line}
use Rattle.sv_bmap.specs.Attach.{Attaches, page_places, page_slot}
use Rattle.sv_bmap.specs.Hang.{Hangs}
use Rattle.sv_bmap.specs.Tree.{IsSpot, IsTree, block_at, child, number_in, page_block, path}
use Rattle.sv_bmap.proofs.Hang.{New, became, down-snoc, front-spot, hung-other, length-front}
use Rattle.sv_bmap.proofs.PagePaths.{has_path, page_reach}
use Rattle.sv_bmap.proofs.PageSpots.{path-deep, path-spot, same-page}
use Rattle.sv_bmap.proofs.Paths.{child-hole, path-is}
use Rattle.sv_inode.specs.Contents.{block_of}
use Rattle.sv_inode.specs.StandsFor.{HasDataBlocks, HasNoEmptyBlock, HasPages, IsHeldPage, IsPageOf, StandsFor}
use Rattle.sv_inode.proofs.WrittenNode.{got-page, same_items}

no : (x y : ℕ) → (x == y) ≡ false → x ≢ y
no x y h = grind (nat_tests, arith)

differ : (x y : ℕ) → x ≢ y → (x == y) ≡ false
differ x y h = grind (nat_tests, arith)

alike : (x y : ℕ) → x ≡ y → (x == y) ≡ true
alike x y h = grind (nat_tests, arith)

-- ---- pages and their spots

pub numbers-some : (g : Geometry) → IsGeometry g → 0 < block_numbers g
numbers-some g sizes = let size : g.block_size ≡ 1024 = sizes.block_size in omega arith

-- a page that a file may have is within the reach of the tree
pub within-reach : (g : Geometry) (page : ℕ) → IsGeometry g → IsPage g page → page < page_limit (block_numbers g)
within-reach g page sizes is = page_reach g page (let size : g.block_size ≡ 1024 = sizes.block_size in omega arith) is

-- the path of a page leads to it
pub path-own : (g : Geometry) (page : ℕ) → IsGeometry g → page < page_limit (block_numbers g)
    → IsPath g (path (block_numbers g) page) × (page_of g (path (block_numbers g) page) ≡ page)
path-own g page sizes low =
    let there = has_path g page (numbers-some g sizes) low in
    let P : PagePath → Type 0 = λ q. IsPath g q × (page_of g q ≡ page) in
    subst P (sym (path-is g there.0 page there.1.0 there.1.1)) there.1

page-spot : (g : Geometry) (page : ℕ) → IsGeometry g → page < page_limit (block_numbers g)
    → IsSpot (block_numbers g) (page_slot g page) (page_places g page)
page-spot g page sizes low = path-spot g (path (block_numbers g) page) (path-own g page sizes low).0

page-deep : (g : Geometry) (page : ℕ) → IsGeometry g → page < page_limit (block_numbers g)
    → length (page_places g page) ≡ page_slot g page - 9
page-deep g page sizes low = path-deep g (path (block_numbers g) page) (path-own g page sizes low).0

-- two pages do not stand at one spot
page-apart : (g : Geometry) (q page : ℕ) → IsGeometry g → q < page_limit (block_numbers g) → page < page_limit (block_numbers g) → q ≢ page
    → page_slot g q ≡ page_slot g page → page_places g q ≢ page_places g page
page-apart g q page sizes low below apart e f =
    let n : ℕ = block_numbers g in
    let one = path-own g q sizes low in
    let two = path-own g page sizes below in
    apart (sym one.1 ∙ (same-page g (path n q) (path n page) one.0 two.0 e f ∙ two.1))

pub at-page : (g : Geometry) (h : Held) (a : List ℕ) (page : ℕ)
    → page_block g h a page ≡ block_at h a (page_slot g page) (page_places g page)
unfolding Rattle.sv_form.specs.AddressTree.page_block
at-page g h a page = refl

-- one place further down
pub next-spot : (n t : ℕ) (ks : List ℕ) (k : ℕ) → IsSpot n t ks → length ks < t - 9 → k < n → IsSpot n t (ks ++ k ∷ [])
next-spot n t ks k spot deep low = record {
  among = spot.among;
  deep = omega (arith, length_push ks k, deep);
  places = λ i inside. at i (omega (arith, length_push ks k, inside)) (i == length ks) refl;
}
  where
    at : (i : ℕ) → i < length ks + 1 → (s : Bool) → (i == length ks) ≡ s → get_or (ks ++ k ∷ []) i 0 < n
    at i inside true e = omega (arith, get_or_push ks k 0 i (sym (eqb-true i (length ks) e)), low)
    at i inside false e =
        (let less : i < length ks = (let apart : i ≢ length ks = no i (length ks) e in omega (arith, inside)) in
        omega (arith, get_or_append_left ks (k ∷ []) 0 i less, spot.places i less))

-- the last place of a list
pub last-place : (ks : List ℕ) (m : ℕ) → length ks ≡ suc m → ks ≡ take m ks ++ get_or ks m 0 ∷ []
last-place ks m e = sym (take_all (m + 1) ks (omega (arith, e))) ∙ take_more ks m 0 (omega (arith, e))

-- ---- the pages of the node

-- a page whose block and its lines stay
page-kept : (g : Geometry) (h new : Held) (was now : ℕ) → now ≡ was → (was ≢ 0 → (l : ℕ) → l * 64 < g.block_size → new was l ≡ h was l)
    → (x : Option (List ℕ)) → IsPageOf g h was x → IsPageOf g new now x
page-kept g h new was now same stays None is = same ∙ is
page-kept g h new was now same stays (Some bytes) is = record {
  some = λ z. is.some (sym same ∙ z);
  size = is.size;
  lines = λ l low. ap (λ c. new c l) same ∙ (stays is.some l low ∙ is.lines l low);
}

-- one page has these bytes, and each other page its own
pages-with : (g : Geometry) (h new : Held) (a b : List ℕ) (pages : fmap.FinMap nat_cmp (List ℕ)) (page : ℕ) (bytes : List ℕ)
    → page < page_limit (block_numbers g) → HasPages g h a pages → IsHeldPage g new (page_block g new b page) bytes
    → ((q : ℕ) → q < page_limit (block_numbers g) → q ≢ page
    → (page_block g new b q ≡ page_block g h a q)
    × (page_block g h a q ≢ 0 → (l : ℕ) → l * 64 < g.block_size → new (page_block g h a q) l ≡ h (page_block g h a q) l))
    → HasPages g new b (fmap.insert pages page bytes)
pages-with g h new a b pages page bytes below has here others = record {
  within = λ q low. within q low (q == page) refl;
  past = λ q high. got-page pages page bytes q false (differ q page (λ e. omega (arith, high, below, e))) ∙ has.past q high;
}
  where
    within : (q : ℕ) → q < page_limit (block_numbers g) → (s : Bool) → (q == page) ≡ s
        → IsPageOf g new (page_block g new b q) (fmap.get (fmap.insert pages page bytes) q)
    within q low true e =
        (let P : Option (List ℕ) → Type 0 = λ x. IsPageOf g new (page_block g new b q) x in
        let Q : ℕ → Type 0 = λ z. IsHeldPage g new (page_block g new b z) bytes in
        subst P (sym (got-page pages page bytes q true e)) (subst Q (sym (eqb-true q page e)) here))
    within q low false e =
        (let P : Option (List ℕ) → Type 0 = λ x. IsPageOf g new (page_block g new b q) x in
        let other = others q low (no q page e) in
        subst P (sym (got-page pages page bytes q false e))
        (page-kept g h new (page_block g h a q) (page_block g new b q) other.0 other.1 (fmap.get pages q) (has.within q low)))

-- ---- a page that was attached

module _ {o : Origin} {h new : Held} {a b : List ℕ} {slot : ℕ} {places : List ℕ} {above parent place : ℕ} {xs : List ℕ}
    (hangs : Hangs (block_numbers o.sizes) h new a b slot places above parent place xs) (tree : IsTree o h a) where
  abbrev IsOldOrNew : ℕ → List ℕ → Type 0
  IsOldOrNew t ks = (block_at new b t ks ≡ block_at h a t ks) ⊎ ((i : ℕ) × New hangs t ks i)

  -- each block of the tree was in it, or is one of the row
  hung-data : HasDataBlocks o.sizes h a → All (λ x. IsDataBlock o.sizes x) xs → HasDataBlocks o.sizes new b
  hung-data data_blocks in_data = record { at = λ t ks spot some. by t ks spot some (became hangs tree (length ks) t ks refl spot) }
    where
      by : (t : ℕ) (ks : List ℕ) → IsSpot (block_numbers o.sizes) t ks → block_at new b t ks ≢ 0 → IsOldOrNew t ks
          → IsDataBlock o.sizes (block_at new b t ks)
      by t ks spot some (inl was) =
          (let P : ℕ → Type 0 = λ q. IsDataBlock o.sizes q in
          subst P (sym was) (data_blocks.at t ks spot (λ z. some (was ∙ z))))
      by t ks spot some (inr is) = (let P : ℕ → Type 0 = λ q. IsDataBlock o.sizes q in subst P (sym is.1.at) (in_data is.0 0 is.1.low))

  -- an indirect block that was there leads where it led, and a new one to the next one of the row
  hung-no-empty : HasNoEmptyBlock o.sizes h a → HasNoEmptyBlock o.sizes new b
  hung-no-empty no_empty = record { some = λ t ks spot deep some. by t ks spot deep some (became hangs tree (length ks) t ks refl spot) }
    where
      kept : (t : ℕ) (ks : List ℕ) (k : ℕ) → child h (block_at h a t ks) k ≢ 0 → IsOldOrNew t (ks ++ k ∷ [])
          → child new (block_at new b t ks) k ≢ 0
      kept t ks k some (inl was) z =
          some (sym (down-snoc h (get_or a t 0) ks k) ∙ (sym was ∙ (down-snoc new (get_or b t 0) ks k ∙ z)))
      kept t ks k some (inr is) z = hangs.named is.0 is.1.low (sym is.1.at ∙ (down-snoc new (get_or b t 0) ks k ∙ z))

      by : (t : ℕ) (ks : List ℕ) → IsSpot (block_numbers o.sizes) t ks → length ks < t - 9 → block_at new b t ks ≢ 0 → IsOldOrNew t ks
          → (k : ℕ) × ((k < block_numbers o.sizes) × (child new (block_at new b t ks) k ≢ 0))
      by t ks spot deep some (inl was) =
          (let one = no_empty.some t ks spot deep (λ z. some (was ∙ z)) in
          let k : ℕ = one.0 in
          let next : IsSpot (block_numbers o.sizes) t (ks ++ k ∷ []) = next-spot (block_numbers o.sizes) t ks k spot deep one.1.0 in
          (k, (one.1.0, kept t ks k one.1.1 (became hangs tree (length (ks ++ k ∷ [])) t (ks ++ k ∷ []) refl next))))
      by t ks spot deep some (inr is) =
          (let i : ℕ = is.0 in
          let k : ℕ = get_or places (above + i) 0 in
          let long : length ks ≡ above + i = ap length is.1.on ∙ length-front places (above + i) (omega (arith, is.1.low, hangs.shape)) in
          let more : suc i < length xs = omega (arith, long, deep, is.1.same, hangs.deep, hangs.shape) in
          let leads : child new (block_at new b t ks) k ≡ get_or xs (suc i) 0 = ap (λ q. child new q k) is.1.at ∙ hangs.row i more in
          (k, (hangs.spot.places (above + i) (omega (arith, more, hangs.shape)), λ z. hangs.named (suc i) more (sym leads ∙ z))))

  -- a page that was there is no indirect block: its block is not the one that links the row
  hung-no-parent : (t : ℕ) (ks : List ℕ) → IsSpot (block_numbers o.sizes) t ks → length ks ≡ t - 9 → block_at h a t ks ≢ 0
      → block_at h a t ks ≢ parent
  hung-no-parent t ks spot deep some same = by above refl
    where
      by : (m : ℕ) → above ≡ m → ⊥
      by zero e = some (same ∙ (hangs.at_top e).0)
      by (suc m) e =
          (let fits : m < length places = omega (arith, e, hangs.shape, hangs.some) in
          let one = tree.once t ks slot (take m places) spot (front-spot places m (omega (arith, fits)) hangs.spot) some
          (same ∙ (hangs.at_number m e).0) in
          absurd (omega (arith, fits, ap length one.1, length-front places m (omega (arith, fits)), deep, one.0, hangs.deep)))

-- a page that was a hole was attached
pub attached-stands : {o : Origin} {h new : Held} {body : InodeBody} {node : Node} {b : List ℕ} {page : ℕ} {blocks : List ℕ}
    {parts : List Held} {bytes : List ℕ} → IsGeometry o.sizes → IsPage o.sizes page → StandsFor o h body node
    → Attaches o h new body.addresses b page blocks parts bytes → All (λ x. IsDataBlock o.sizes x) blocks
    → length bytes ≡ o.sizes.block_size
    → StandsFor o new (record body { addresses = b }) (record node { pages = fmap.insert node.pages page bytes })
attached-stands {o} {h} {new} {body} {node} {b} {page} {blocks} {parts} {bytes} sizes is stands attaches in_data size = record {
  described = record {
    kind = stands.described.kind;
    mode = stands.described.mode;
    links = stands.described.links;
    size =
        stands.described.size;
  };
  tree = attaches.tree;
  pages = pages-with g h new a b node.pages page bytes below stands.pages here (λ q low apart. (other q low apart, stays q low));
  data_blocks = hung-data attaches.hangs stands.tree stands.data_blocks in_data;
  no_empty = hung-no-empty attaches.hangs stands.tree stands.no_empty;
}
  where
    g : Geometry
    g = o.sizes

    a : List ℕ
    a = body.addresses

    below : page < page_limit (block_numbers g)
    below = within-reach g page sizes is

    last : ℕ
    last = length blocks - 1

    here : IsHeldPage g new (page_block g new b page) bytes
    here = record {
      some = λ z. attaches.hangs.named last (omega (arith, attaches.hangs.some)) (sym attaches.block ∙ z);
      size = size;
      lines = λ l low. ap (λ c. new c l) attaches.block ∙ attaches.content l low;
    }

    other : (q : ℕ) → q < page_limit (block_numbers g) → q ≢ page → page_block g new b q ≡ page_block g h a q
    other q low apart =
        at-page g new b q
        ∙ (hung-other attaches.hangs stands.tree (page_slot g q) (page_places g q) (page-spot g q sizes low) (page-deep g q sizes low)
        (page-apart g q page sizes low below apart) ∙ sym (at-page g h a q))

    stays : (q : ℕ) → q < page_limit (block_numbers g) → page_block g h a q ≢ 0 → (l : ℕ) → l * 64 < g.block_size
        → new (page_block g h a q) l ≡ h (page_block g h a q) l
    stays q low some l within =
        (let there : block_at h a (page_slot g q) (page_places g q) ≢ 0 = (λ z. some (at-page g h a q ∙ z)) in
        let held = (stands.tree.whole (page_slot g q) (page_places g q) (page-spot g q sizes low) there).at l within in
        ap (λ c. new c l) (at-page g h a q)
        ∙ (attaches.stays (block_at h a (page_slot g q) (page_places g q)) l held
        (λ ne same. absurd (hung-no-parent attaches.hangs stands.tree (page_slot g q) (page_places g q) (page-spot g q sizes low)
        (page-deep g q sizes low) there same))
        ∙ ap (λ c. h c l) (sym (at-page g h a q))))

-- ---- a page that was written in place

-- a page with a block is no hole
pub some-block : (g : Geometry) (h : Held) (a : List ℕ) (page p : ℕ) → block_of g h a page ≡ Some p → (page_block g h a page ≡ p) × (p ≢ 0)
some-block g h a page p there = by (page_block g h a page) (page_block g h a page == 0) refl there
  where
    by : (b : ℕ) (t : Bool) → (b == 0) ≡ t → cond t None (Some b) ≡ Some p → (b ≡ p) × (p ≢ 0)
    by b true e is = cc
    by b false e is = (let same : b ≡ p = cc in (same, λ z. no b 0 e (same ∙ z)))

pub no-block : (g : Geometry) (h : Held) (a : List ℕ) (page : ℕ) → block_of g h a page ≡ None → page_block g h a page ≡ 0
no-block g h a page hole = by (page_block g h a page) (page_block g h a page == 0) refl hole
  where
    by : (b : ℕ) (t : Bool) → (b == 0) ≡ t → cond t None (Some b) ≡ None → b ≡ 0
    by b true e is = eqb-true b 0 e
    by b false e is = cc

module _ (h : Held) {new : Held} (p : ℕ) (bytes : List ℕ) (puts : new ≡ put p bytes h) where
  -- another block
  line-other : (c l : ℕ) → c ≢ p → new c l ≡ h c l
  line-other c l apart = ap (λ q. q c l) puts ∙ put-other p bytes h c l (differ c p apart)

  child-other : (c k : ℕ) → c ≢ p → child new c k ≡ child h c k
  unfolding Rattle.sv_form.specs.AddressTree.child number_in
  child-other c k apart = ap (λ q. cond (c == 0) 0 (number32 (unwrap_or q []) (k % 16 * 4))) (line-other c (k / 16) apart)

  holds-put : (o : Origin) (c : ℕ) → HoldsBlock o h c → HoldsBlock o new c
  holds-put o c holds = record { at = λ l low. ap (λ q. is_some (q c l)) puts ∙ (is_some-put p bytes h c l ∙ holds.at l low) }

  module _ {o : Origin} {a : List ℕ} (page : ℕ) (sizes : IsGeometry o.sizes) (is : IsPage o.sizes page) (tree : IsTree o h a)
      (there : block_of o.sizes h a page ≡ Some p) where
    abbrev below : page < page_limit (block_numbers o.sizes)
    below = within-reach o.sizes page sizes is

    page-there : block_at h a (page_slot o.sizes page) (page_places o.sizes page) ≡ p
    page-there = sym (at-page o.sizes h a page) ∙ (some-block o.sizes h a page p there).0

    -- a block at another spot is not the page
    not-page : (t : ℕ) (ks : List ℕ) → IsSpot (block_numbers o.sizes) t ks → block_at h a t ks ≢ 0
        → (t ≡ page_slot o.sizes page → ks ≢ page_places o.sizes page) → block_at h a t ks ≢ p
    not-page t ks spot some apart same =
        let one = tree.once t ks (page_slot o.sizes page) (page_places o.sizes page) spot (page-spot o.sizes page sizes below) some
        (same ∙ sym page-there) in
        apart one.0 one.1

    -- the number that leads one place further down
    step : (t : ℕ) (ks : List ℕ) (k : ℕ) → IsSpot (block_numbers o.sizes) t ks → length ks < t - 9
        → child new (block_at h a t ks) k ≡ child h (block_at h a t ks) k
    step t ks k spot deep = by (block_at h a t ks == 0) refl
      where
        by : (s : Bool) → (block_at h a t ks == 0) ≡ s → child new (block_at h a t ks) k ≡ child h (block_at h a t ks) k
        by true e = (let hole = eqb-true (block_at h a t ks) 0 e in child-hole new (block_at h a t ks) k hole
            ∙ sym (child-hole h (block_at h a t ks) k hole))
        by false e =
            child-other (block_at h a t ks) k
            (not-page t ks spot (no (block_at h a t ks) 0 e)
            (λ one two. omega (arith, deep, one, ap length two, page-deep o.sizes page sizes below)))

    spots : (m t : ℕ) (ks : List ℕ) → length ks ≡ m → IsSpot (block_numbers o.sizes) t ks → block_at new a t ks ≡ block_at h a t ks
    spots zero t [] e spot = refl
    spots zero t (k ∷ ks) e spot = absurd (omega (arith, e))
    spots (suc m) t ks e spot =
        let front : IsSpot (block_numbers o.sizes) t (take m ks) = front-spot ks m (omega (arith, e)) spot in
        let deep : length (take m ks) < t - 9 = omega (arith, length-front ks m (omega (arith, e)), e, spot.deep) in
        let k : ℕ = get_or ks m 0 in
        ap (block_at new a t) (last-place ks m e)
        ∙ (down-snoc new (get_or a t 0) (take m ks) k
        ∙ (ap (λ q. child new q k) (spots m t (take m ks) (length-front ks m (omega (arith, e))) front)
        ∙ (step t (take m ks) k front deep
        ∙ (sym (down-snoc h (get_or a t 0) (take m ks) k) ∙ ap (block_at h a t) (sym (last-place ks m e))))))

-- the blocks of the tree stay where they are when a page is written in place
pub written-spots : {o : Origin} {h new : Held} {a : List ℕ} {p : ℕ} (page : ℕ) (bytes : List ℕ) → IsGeometry o.sizes → IsPage o.sizes page
    → IsTree o h a → block_of o.sizes h a page ≡ Some p → new ≡ put p bytes h → (t : ℕ) (ks : List ℕ) → IsSpot (block_numbers o.sizes) t ks
    → block_at new a t ks ≡ block_at h a t ks
written-spots {h = h} {p = p} page bytes sizes is tree there puts t ks spot = spots h p bytes puts page sizes is tree there
    (length ks) t ks refl spot

module _ {o : Origin} {h new : Held} {a : List ℕ} {p : ℕ} (page : ℕ) (bytes : List ℕ) (sizes : IsGeometry o.sizes)
    (is : IsPage o.sizes page) (tree : IsTree o h a) (there : block_of o.sizes h a page ≡ Some p) (puts : new ≡ put p bytes h) where
  abbrev same-at : (t : ℕ) (ks : List ℕ) → IsSpot (block_numbers o.sizes) t ks → block_at new a t ks ≡ block_at h a t ks
  same-at t ks spot = written-spots page bytes sizes is tree there puts t ks spot

  abbrev low-page : page < page_limit (block_numbers o.sizes)
  low-page = within-reach o.sizes page sizes is

  -- it is a tree yet
  pub written-tree : IsTree o new a
  written-tree = record {
    whole = λ t ks spot some.
        (let P : ℕ → Type 0 = λ q. HoldsBlock o new q in
        subst P (sym (same-at t ks spot))
        (holds-put h p bytes puts o (block_at h a t ks) (tree.whole t ks spot (λ z. some (same-at t ks spot ∙ z)))));
    once = λ t ks u js spot that some e. tree.once t ks u js spot that (λ z. some (same-at t ks spot ∙ z))
        (sym (same-at t ks spot) ∙ (e ∙ same-at u js that));
  }

  -- its blocks are data blocks yet
  pub written-data : HasDataBlocks o.sizes h a → HasDataBlocks o.sizes new a
  written-data data_blocks =
      record {
        at = λ t ks spot some.
            (let P : ℕ → Type 0 = λ q. IsDataBlock o.sizes q in subst P (sym (same-at t ks spot))
            (data_blocks.at t ks spot (λ z. some (same-at t ks spot ∙ z))));
      }

  written-no-empty : HasNoEmptyBlock o.sizes h a → HasNoEmptyBlock o.sizes new a
  written-no-empty no_empty = record { some = some }
    where
      some : (t : ℕ) (ks : List ℕ) → IsSpot (block_numbers o.sizes) t ks → length ks < t - 9 → block_at new a t ks ≢ 0
          → (k : ℕ) × ((k < block_numbers o.sizes) × (child new (block_at new a t ks) k ≢ 0))
      some t ks spot deep there-too =
          (let one = no_empty.some t ks spot deep (λ z. there-too (same-at t ks spot ∙ z)) in
          let k : ℕ = one.0 in
          let next : IsSpot (block_numbers o.sizes) t (ks ++ k ∷ []) = next-spot (block_numbers o.sizes) t ks k spot deep one.1.0 in (
            k,
            (
              one.1.0,
              λ z. one.1.1
                  (sym (down-snoc h (get_or a t 0) ks k) ∙ (sym (same-at t (ks ++ k ∷ []) next) ∙ (down-snoc new (get_or a t 0) ks k ∙ z))),
            ),
          ))

  page-same : (q : ℕ) → q < page_limit (block_numbers o.sizes) → page_block o.sizes new a q ≡ page_block o.sizes h a q
  page-same q low = at-page o.sizes new a q
      ∙ (same-at (page_slot o.sizes q) (page_places o.sizes q) (page-spot o.sizes q sizes low) ∙ sym (at-page o.sizes h a q))

  is-p : page_block o.sizes h a page ≡ p
  is-p = (some-block o.sizes h a page p there).0

  p-held : HoldsBlock o h p
  p-held =
      (let P : ℕ → Type 0 = λ q. HoldsBlock o h q in
      subst P (sym (at-page o.sizes h a page) ∙ is-p)
      (tree.whole (page_slot o.sizes page) (page_places o.sizes page) (page-spot o.sizes page sizes low-page)
      (λ z. (some-block o.sizes h a page p there).1 (sym is-p ∙ (at-page o.sizes h a page ∙ z)))))

  -- the page has these bytes, and no other page has changed
  written-pages : (pages : fmap.FinMap nat_cmp (List ℕ)) → length bytes ≡ o.sizes.block_size → HasPages o.sizes h a pages
      → HasPages o.sizes new a (fmap.insert pages page bytes)
  written-pages pages size has = pages-with o.sizes h new a a pages page bytes low-page has here others
    where
      here : IsHeldPage o.sizes new (page_block o.sizes new a page) bytes
      here = record {
        some = λ z. (some-block o.sizes h a page p there).1 (sym is-p ∙ (sym (page-same page low-page) ∙ z));
        size = size;
        lines = λ l low. ap (λ c. new c l) (page-same page low-page ∙ is-p)
            ∙ (ap (λ q. q p l) puts ∙ put-line p bytes h l (p-held.at l low));
      }

      others : (q : ℕ) → q < page_limit (block_numbers o.sizes) → q ≢ page
          → (page_block o.sizes new a q ≡ page_block o.sizes h a q)
          × (page_block o.sizes h a q ≢ 0 → (l : ℕ) → l * 64 < o.sizes.block_size
          → new (page_block o.sizes h a q) l ≡ h (page_block o.sizes h a q) l)
      others q low apart = (
        page-same q low,
        λ some l within.
            line-other h p bytes puts (page_block o.sizes h a q) l
            (λ e. not-page h p bytes puts page sizes is tree there (page_slot o.sizes q) (page_places o.sizes q)
            (page-spot o.sizes q sizes low) (λ z. some (at-page o.sizes h a q ∙ z))
            (page-apart o.sizes q page sizes low low-page apart) (sym (at-page o.sizes h a q) ∙ e)),
      )

-- a page that is there was written in place
pub written-stands : {o : Origin} {h new : Held} {body : InodeBody} {node : Node} {p : ℕ} (page : ℕ) (bytes : List ℕ) → IsGeometry o.sizes
    → IsPage o.sizes page → StandsFor o h body node → block_of o.sizes h body.addresses page ≡ Some p → length bytes ≡ o.sizes.block_size
    → new ≡ put p bytes h → StandsFor o new body (record node { pages = fmap.insert node.pages page bytes })
written-stands {node = node} page bytes sizes is stands there size puts = record {
  described = record {
    kind = stands.described.kind;
    mode = stands.described.mode;
    links = stands.described.links;
    size =
        stands.described.size;
  };
  tree = written-tree page bytes sizes is stands.tree there puts;
  pages = written-pages page bytes sizes is stands.tree there puts node.pages size stands.pages;
  data_blocks = written-data page bytes sizes is stands.tree there puts stands.data_blocks;
  no_empty = written-no-empty page bytes sizes is stands.tree there puts stands.no_empty;
}

-- ---- lines before the data blocks

-- the number that links what was attached stands in a data block, so that each held line before those stays
pub attached-before : {o : Origin} {h new : Held} {a b : List ℕ} {page : ℕ} {blocks : List ℕ} {parts : List Held} {bytes : List ℕ}
    → IsTree o h a → HasDataBlocks o.sizes h a → Attaches o h new a b page blocks parts bytes → (c l : ℕ) → c < o.sizes.first_data
    → IsSome (h c l) → new c l ≡ h c l
attached-before {o} {h} {new} {a} {b} {page} {blocks} tree data_blocks attaches c l low is = attaches.stays c l is
    (λ some same. absurd (by some same (length places + 1 - length blocks) refl))
  where
    places : List ℕ
    places = page_places o.sizes page

    by : c ≢ 0 → c ≡ attaches.parent → (m : ℕ) → length places + 1 - length blocks ≡ m → ⊥
    by some same zero e = some (same ∙ (attaches.hangs.at_top e).0)
    by some same (suc m) e =
        (let link = attaches.hangs.at_number m e in
        let fits : m < length places = omega (arith, e, attaches.hangs.shape, attaches.hangs.some) in
        let at : c ≡ block_at h a (page_slot o.sizes page) (take m places) = same ∙ link.0 in
        let in_data = data_blocks.at (page_slot o.sizes page) (take m places)
        (front-spot places m (omega (arith, fits)) attaches.hangs.spot) (λ z. some (at ∙ z)) in
        omega (arith, low, at, in_data.least))

-- the block of a page that is present is a data block
pub page-in-data : {g : Geometry} {h : Held} {a : List ℕ} {p : ℕ} (page : ℕ) → IsGeometry g → IsPage g page → HasDataBlocks g h a
    → block_of g h a page ≡ Some p → IsDataBlock g p
page-in-data {g} {h} {a} {p} page sizes is data_blocks there =
    let P : ℕ → Type 0 = λ q. IsDataBlock g q in
    subst P at (data_blocks.at (page_slot g page) (page_places g page) (page-spot g page sizes (within-reach g page sizes is))
    (λ z. (some-block g h a page p there).1 (sym at ∙ z)))
  where
    at : block_at h a (page_slot g page) (page_places g page) ≡ p
    at = sym (at-page g h a page) ∙ (some-block g h a page p there).0

-- ---- the size, and what stands in a page

-- the size of both changes
pub sized-stands : {o : Origin} {h : Held} {body : InodeBody} {node : Node} (n : ℕ) → StandsFor o h body node
    → StandsFor o h (record body { size = n }) (record node { size = n })
sized-stands n stands = record {
  described = record { kind = stands.described.kind; mode = stands.described.mode; links = stands.described.links; size = refl };
  tree = stands.tree;
  pages = stands.pages;
  data_blocks = stands.data_blocks;
  no_empty = stands.no_empty;
}

-- what was got of a page's block is the page of the node
pub page-got : {o : Origin} {h : Held} {body : InodeBody} {node : Node} {p : ℕ} {buf : Loan} (page : ℕ) → IsGeometry o.sizes
    → IsPage o.sizes page → StandsFor o h body node → block_of o.sizes h body.addresses page ≡ Some p → Gets o h p buf
    → fmap.get node.pages page ≡ Some buf.bytes
page-got {o} {h} {body} {node} {p} {buf} page sizes is stands there gets = by (fmap.get node.pages page)
    (stands.pages.within page (within-reach o.sizes page sizes is))
  where
    b : ℕ
    b = page_block o.sizes h body.addresses page

    at : (b ≡ p) × (p ≢ 0)
    at = some-block o.sizes h body.addresses page p there

    line : (bytes : List ℕ) → IsHeldPage o.sizes h b bytes → (l : ℕ) → l * 64 < o.sizes.block_size → line_of bytes l ≡ line_of buf.bytes l
    line bytes held l low =
        (let P : Option (List ℕ) → Type 0 = λ x. IfSome x (λ y. line_of buf.bytes l ≡ y) in
        let known : h p l ≡ Some (line_of bytes l) = ap (λ c. h c l) (sym at.0) ∙ held.lines l low in
        sym (subst P known (gets.lines l)))

    by : (x : Option (List ℕ)) → IsPageOf o.sizes h b x → x ≡ Some buf.bytes
    by None hole = absurd (at.1 (sym at.0 ∙ hole))
    by (Some bytes) held =
        ap (λ q. Some q)
        (same_items bytes buf.bytes (held.size ∙ sym gets.size)
        (λ r low. get_or-by_line bytes r
        ∙ (ap (λ q. get_or q (r % 64) 0) (line bytes held (r / 64) (omega (arith, low, held.size)))
        ∙ sym (get_or-by_line buf.bytes r))))

-- a hole is no page of the node
pub page-hole : {o : Origin} {h : Held} {body : InodeBody} {node : Node} (page : ℕ) → IsGeometry o.sizes → IsPage o.sizes page
    → StandsFor o h body node → block_of o.sizes h body.addresses page ≡ None → fmap.get node.pages page ≡ None
page-hole {o} {h} {body} {node} page sizes is stands hole = by (fmap.get node.pages page)
    (stands.pages.within page (within-reach o.sizes page sizes is))
  where
    by : (x : Option (List ℕ)) → IsPageOf o.sizes h (page_block o.sizes h body.addresses page) x → x ≡ None
    by None e = refl
    by (Some bytes) held = absurd (held.some (no-block o.sizes h body.addresses page hole))
