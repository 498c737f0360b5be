-- The blocks that were built and linked are one page more in the tree.
use Rattle.std.proofs.Common.{◌≡◌, ◌≢◌, ◌<◌, ◌≤◌, ◌+◌, ◌-◌, ◌*◌, ◌/◌, ◌==◌, ℕ, zero, suc, Bool, true, false, List, length, map, take}
use Rattle.std.proofs.Common.{get_or, None, Some, IsSome, is_some, refl, sym, ap, ◌∙◌, subst, arith}
use Rattle.std.proofs.lemmas.Bool.{eqb-true, false≢true}
use Rattle.std.proofs.lemmas.Bool.Decides.{nat_tests}
use Rattle.std.proofs.lemmas.List.{take-take, get_or-take, length-map}
use Rattle.sv_form.specs.Geometry.{IsGeometry}
use Rattle.sv_form.specs.PagePath.{IsPath, IsPage, page_of, block_numbers}
use Rattle.sv_form.specs.declared.geometry.Geometry.{Geometry}
use Rattle.sv_form.specs.declared.page_path.PagePath.{PagePath}
use Rattle.sv_store.specs.Held.{Held, Lent, Origin, HoldsBlock, SameLines, line_of}
use Rattle.sv_store.proofs.Holding.{put-other, none_from, SameLines-eq}
use Rattle.sv_bmap.specs.Attach.{CanAttach, HoldsAll, Attaches, IsBuilt, Keeps, page_slot, page_places}
use Rattle.sv_bmap.specs.Hang.{Hangs}
use Rattle.sv_bmap.specs.Parts.{Joins, part}
use Rattle.sv_bmap.specs.Rows.{IsRow, LeadsFrom, HasBytes, Links}
use Rattle.sv_bmap.specs.Tree.{IsSpot, IsTree, block_at, path, slot_of, places_of, page_block}
use Rattle.sv_bmap.specs.Writes.{SetsNumber}
use Rattle.sv_bmap.proofs.Gaps.{IsGap, zeros, gap, need-zeros, some-zeros}
use Rattle.sv_bmap.proofs.Hang.{front-spot, length-front, hung-page, hung-other, hung-tree, on-way}
use Rattle.sv_bmap.proofs.Kept.{same-put}
use Rattle.sv_bmap.proofs.PagePaths.{page_path}
use Rattle.sv_bmap.proofs.PageSpots.{path-spot, path-deep, same-page}
use Rattle.sv_bmap.proofs.Paths.{path-is}
use Rattle.sv_bmap.proofs.Rows.{hangs-below, hangs-at-top}

no : (x y : ℕ) → (x == y) ≡ false → x ≢ y
no x y h = grind (nat_tests, arith)

differ : (x y : ℕ) → x ≢ y → (x == y) ≡ false
differ x y h = grind (nat_tests, arith)

-- the path of a page leads to it
pub own-path : (g : Geometry) (page : ℕ) → 3 < g.block_size → IsPage g page
    → IsPath g (path (block_numbers g) page) × (page_of g (path (block_numbers g) page) ≡ page)
own-path g page pos is =
    let there = page_path g page pos is in
    let P : PagePath → Type 0 = λ q. IsPath g q × (page_of g q ≡ page) in
    subst P (sym (path-is g there.0 page there.1.0 there.1.1)) there.1

at-page : (g : Geometry) (h : Held) (a : List ℕ) (page : ℕ) → page_block g h a page ≡ block_at h a (page_slot g page) (page_places g page)
unfolding Rattle.sv_form.specs.AddressTree.page_block
at-page g h a page = refl

-- the blocks of the row are those that are missing on the way to the page
pub record IsMissing (n : ℕ) (h : Held) (a : List ℕ) (slot : ℕ) (places xs : List ℕ) (above : ℕ) : Type 0 where
  pub spot : IsSpot n slot places
  pub deep : length places ≡ slot - 9
  pub some : 0 < length xs
  pub few : length xs ≤ length places + 1
  pub from : above ≡ length places + 1 - length xs
  pub holes : (i : ℕ) → i < length xs → block_at h a slot (take (above + i) places) ≡ 0
  pub there : (m : ℕ) → m < above → block_at h a slot (take m places) ≢ 0

pub missing : {o : Origin} {h : Held} {a : List ℕ} {page : ℕ} {blocks : List ℕ} {parts : List Held} → 3 < o.sizes.block_size
    → IsPage o.sizes page → CanAttach o h a page blocks parts
    → IsMissing (block_numbers o.sizes) h a (page_slot o.sizes page) (page_places o.sizes page) blocks
    (length (page_places o.sizes page) + 1 - length blocks)
missing {o} {h} {a} {page} {blocks} {parts} pos is can = record {
  spot = path-spot g p own.0;
  deep = path-deep g p own.0;
  some = omega (arith, count, some-zeros h top places (sym (at-page g h a page) ∙ can.hole));
  few = all.few;
  from = refl;
  holes = λ i low. all.holes (length places + 1 - length blocks + i) (omega arith) (omega (arith, low, all.few));
  there = all.there;
}
  where
    g : Geometry
    g = o.sizes

    p : PagePath
    p = path (block_numbers g) page

    own : IsPath g p × (page_of g p ≡ page)
    own = own-path g page pos is

    places : List ℕ
    places = places_of p

    top : ℕ
    top = get_or a (slot_of p) 0

    count : length blocks ≡ zeros h top places
    count = can.count ∙ need-zeros g h a p page own.0 own.1

    all : IsGap h top places (length blocks)
    all = (let P : ℕ → Type 0 = λ q. IsGap h top places q in subst P (sym count) (gap h top places))

-- where the code finds the page is its spot
pub spot-is : (g g' : Geometry) (p : PagePath) (page : ℕ) {slot : ℕ} {places : List ℕ} → g' ≡ g → IsPath g' p → page_of g' p ≡ page
    → slot ≡ slot_of p → places ≡ places_of p → (slot ≡ page_slot g page) × (places ≡ page_places g page)
spot-is g g' p page {slot} {places} e is at one two = (one ∙ ap slot_of (sym same), two ∙ ap places_of (sym same))
  where
    same : path (block_numbers g) page ≡ p
    same = ap (λ q. path (block_numbers q) page) (sym e) ∙ path-is g' p page is at

-- the blocks above the row are held
pub above-held : {o : Origin} {h : Held} {a : List ℕ} {slot : ℕ} {places xs : List ℕ} {above : ℕ} → IsTree o h a
    → IsMissing (block_numbers o.sizes) h a slot places xs above → (m : ℕ) → m < above → HoldsBlock o h (block_at h a slot (take m places))
above-held {o} {h} {a} {slot} {places} {xs} {above} tree miss m low =
    tree.whole slot (take m places) (front-spot places m (omega (arith, low, miss.from, miss.some)) miss.spot) (miss.there m low)

-- ---- the row hangs in the tree

pub record IsHung (n : ℕ) (h new : Held) (a b : List ℕ) (slot : ℕ) (places : List ℕ) (above : ℕ) (xs : List ℕ) : Type 0 where
  pub parent : ℕ
  pub place : ℕ
  pub hangs : Hangs n h new a b slot places above parent place xs
  pub stays : (c l : ℕ) → IsSome (h c l) → (c ≢ 0 → c ≡ parent → l ≢ place / 16) → new c l ≡ h c l

pub same-linked : {n : ℕ} {h linked : Held} {a b : List ℕ} {slot : ℕ} {way : List ℕ} {first : ℕ} → Links n h linked a b slot way first
    → SameLines linked h
same-linked {n} {h} {linked} {a} {b} {slot} {way} links = by (length way) refl
  where
    by : (m : ℕ) → length way ≡ m → SameLines linked h
    by zero e = SameLines-eq linked h (links.at_top e).0
    by (suc m) e = (let sets = (links.at_number m e).1 in same-put _ sets.bytes sets.puts)

pub hung : {o : Origin} {n : ℕ} {h linked new : Held} {a b : List ℕ} {slot : ℕ} {places xs : List ℕ} {parts : List Held} (above : ℕ)
    → IsTree o h a → n ≡ block_numbers o.sizes → IsMissing n h a slot places xs above
    → Links n h linked a b slot (take above places) (get_or xs 0 0) → IsRow o n places above xs parts → Joins linked parts new
    → IsHung n h new a b slot places above xs
hung {o} {n} {h} {linked} {new} {a} {b} {slot} {places} {xs} {parts} zero tree e miss links row joins =
    let top = links.at_top (length-front places 0 (omega arith)) in
    let P : Held → Type 0 = λ q. Joins q parts new in
    let here : Joins h parts new = subst P top.0 joins in
    record {
      parent = 0;
      place = 0;
      hangs = hangs-at-top miss.spot miss.deep (omega (arith, miss.from, miss.few)) miss.holes top.1.0 top.1.1 row here
          (omega (arith, e)) whole;
      stays = λ c l is apart. here.own c l is;
    }
  where
    whole : (t : ℕ) (ks : List ℕ) → IsSpot n t ks → block_at h a t ks ≢ 0 → HoldsBlock o h (block_at h a t ks)
    whole t ks spot some = tree.whole t ks (let Q : ℕ → Type 0 = λ q. IsSpot q t ks in subst Q e spot) some
hung {o} {n} {h} {linked} {new} {a} {b} {slot} {places} {xs} {parts} (suc m) tree e miss links row joins = record {
  parent = parent;
  place = place;
  hangs = (let Q : List ℕ → Type 0 = λ q. Hangs n h new a q slot places (suc m) parent place xs in
      subst Q (sym link.0)
      (hangs-below miss.spot miss.deep (omega (arith, miss.from, miss.few)) miss.some miss.holes parent-is some held place-is place-low
      link.1 row joins (omega (arith, e)) whole));
  stays = stays;
}
  where
    whole : (t : ℕ) (ks : List ℕ) → IsSpot n t ks → block_at h a t ks ≢ 0 → HoldsBlock o h (block_at h a t ks)
    whole t ks spot there-too = tree.whole t ks (let Q : ℕ → Type 0 = λ q. IsSpot q t ks in subst Q e spot) there-too

    fits : suc m ≤ length places
    fits = omega (arith, miss.from, miss.some)

    link : (b ≡ a) × SetsNumber n h linked (block_at h a slot (take m (take (suc m) places))) (get_or (take (suc m) places) m 0)
        (get_or xs 0 0)
    link = links.at_number m (length-front places (suc m) fits)

    parent : ℕ
    parent = block_at h a slot (take m (take (suc m) places))

    place : ℕ
    place = get_or (take (suc m) places) m 0

    parent-is : parent ≡ block_at h a slot (take m places)
    parent-is = ap (block_at h a slot) (take-take m (suc m) places (omega arith))

    place-is : place ≡ get_or places m 0
    place-is = get_or-take (suc m) places m 0 (omega arith)

    there : block_at h a slot (take m places) ≢ 0
    there = miss.there m (omega arith)

    some : parent ≢ 0
    some z = there (sym parent-is ∙ z)

    place-low : place < n
    place-low = omega (arith, place-is, miss.spot.places m (omega (arith, fits)))

    front : IsSpot n slot (take m places)
    front = front-spot places m (omega (arith, fits)) miss.spot

    held : HoldsBlock o h parent
    held = (let Q : ℕ → Type 0 = λ q. HoldsBlock o h q in subst Q (sym parent-is) (whole slot (take m places) front there))

    linked-at : (c l : ℕ) → (c ≢ 0 → c ≡ parent → l ≢ place / 16) → (t : Bool) → (c == parent) ≡ t → linked c l ≡ h c l
    linked-at c l apart true f =
        (let same : c ≡ parent = eqb-true c parent f in
        ap (λ q. linked q l) same ∙ (link.1.neighbours l (apart (λ z. some (sym same ∙ z)) same) ∙ ap (λ q. h q l) (sym same)))
    linked-at c l apart false f = ap (λ q. q c l) link.1.puts ∙ put-other parent link.1.bytes h c l f

    stays : (c l : ℕ) → IsSome (h c l) → (c ≢ 0 → c ≡ parent → l ≢ place / 16) → new c l ≡ h c l
    stays c l is apart =
        (let known : linked c l ≡ h c l = linked-at c l apart (c == parent) refl in
        joins.own c l (ap is_some known ∙ is) ∙ known)

-- ---- all lines are held

pub holds-all : {h linked new : Held} {olds news : List Held} → length news ≡ length olds
    → ((i : ℕ) → i < length olds → SameLines (part news i) (part olds i)) → SameLines linked h → Joins linked news new → HoldsAll h olds new
holds-all {h} {linked} {new} {olds} {news} count lines same joins = record {
  own = λ b l is. (let known : IsSome (linked b l) = same.at b l ∙ is in ap is_some (joins.own b l known) ∙ known);
  theirs = λ i low b l is.
      (let known : IsSome (part news i b l) = (lines i low).at b l ∙ is in
      ap is_some (joins.theirs i (omega arith) (omega (arith, low, count)) b l known) ∙ known);
  only = λ b l none each. joins.only b l (none_from (linked b l) (same.at b l ∙ ap is_some none))
      (λ i from low. none_from (part news i b l)
      ((lines i (omega (arith, low, count))).at b l ∙ ap is_some (each i (omega (arith, low, count)))));
}

-- ---- the blocks are new

distinct : {o : Origin} {h : Held} {a : List ℕ} {page : ℕ} {blocks : List ℕ} {parts : List Held} → 0 < o.sizes.block_size
    → CanAttach o h a page blocks parts → (i j : ℕ) → i < length blocks → j < length blocks → get_or blocks i 0 ≡ get_or blocks j 0 → i ≡ j
distinct {o} {h} {a} {page} {blocks} {parts} pos can i j low below same = by (i == j) refl
  where
    by : (t : Bool) → (i == j) ≡ t → i ≡ j
    by true e = eqb-true i j e
    by false e =
        (let mine : IsSome (part parts i (get_or blocks i 0) 0) = (can.whole i low).at 0 (omega (arith, pos)) in
        let other : part parts j (get_or blocks i 0) 0 ≡ None =
        (can.apart.each i j (omega (arith, low, can.as_many)) (omega (arith, below, can.as_many)) (no i j e)).at
        (get_or blocks i 0) 0 mine in
        let theirs : IsSome (part parts j (get_or blocks j 0) 0) = (can.whole j below).at 0 (omega (arith, pos)) in
        absurd (false≢true (sym (ap is_some other) ∙ (ap (λ q. is_some (part parts j q 0)) same ∙ theirs))))

elsewhere : {o : Origin} {h : Held} {a : List ℕ} {page : ℕ} {blocks : List ℕ} {parts : List Held} → 0 < o.sizes.block_size → IsTree o h a
    → CanAttach o h a page blocks parts → (t : ℕ) (ks : List ℕ) (i : ℕ) → IsSpot (block_numbers o.sizes) t ks → i < length blocks
    → block_at h a t ks ≢ get_or blocks i 0
elsewhere {o} {h} {a} {page} {blocks} {parts} pos tree can t ks i spot low same =
    let mine : IsSome (h (block_at h a t ks) 0) = (tree.whole t ks spot (λ z. can.named i low (sym same ∙ z))).at 0 (omega (arith, pos)) in
    let other : part parts i (block_at h a t ks) 0 ≡ None =
    (can.apart.own i (omega (arith, low, can.as_many))).at (block_at h a t ks) 0 mine in
    let theirs : IsSome (part parts i (get_or blocks i 0) 0) = (can.whole i low).at 0 (omega (arith, pos)) in
    absurd (false≢true (sym (ap is_some other) ∙ (ap (λ q. is_some (part parts i q 0)) same ∙ theirs)))

-- ---- one page more

pub attached : {o : Origin} {h linked new : Held} {a b : List ℕ} {page : ℕ} {blocks : List ℕ} {olds news : List Held} {bytes : List ℕ}
    → 3 < o.sizes.block_size → IsPage o.sizes page → IsTree o h a → CanAttach o h a page blocks olds → length news ≡ length olds
    → ((i : ℕ) → i < length olds → SameLines (part news i) (part olds i)) → IsBuilt o h linked a b page blocks news bytes
    → Joins linked news new → Attaches o h new a b page blocks olds bytes
attached {o} {h} {linked} {new} {a} {b} {page} {blocks} {olds} {news} {bytes} pos is tree can count lines built joins = record {
  tree = hung-tree hangs tree
      (λ c holds. record { at = λ l within. all.own c l (holds.at l within) })
      (λ i low. record {
        at = λ l within. all.theirs i (omega (arith, low, can.as_many)) (get_or blocks i 0) l
            ((can.whole i low).at l within);
      })
      (distinct (omega (arith, pos)) can) (elsewhere (omega (arith, pos)) tree can);
  block = at-page g new b page ∙ hung-page hangs tree;
  content = content;
  row = λ i low. on-way hangs tree i low;
  others = others;
  kept = kept;
  lines = all;
  parent = done.parent;
  place = done.place;
  hangs = hangs;
  stays = done.stays;
}
  where
    g : Geometry
    g = o.sizes

    n : ℕ
    n = block_numbers g

    slot : ℕ
    slot = page_slot g page

    places : List ℕ
    places = page_places g page

    above : ℕ
    above = length places + 1 - length blocks

    miss : IsMissing n h a slot places blocks above
    miss = missing pos is can

    all : HoldsAll h olds new
    all = holds-all count lines (same-linked built.links) joins

    row : IsRow o n places above blocks news
    row = record {
      count = count ∙ can.as_many;
      named = can.named;
      holds = λ i low. record {
        at = λ l within. (lines i (omega (arith, low, can.as_many))).at (get_or blocks i 0) l
            ∙ (can.whole i low).at l within;
      };
      next = λ i more. built.row.next i (omega arith) more;
      empty = λ i k more below apart. built.row.empty i k (omega arith) more below apart;
    }

    done : IsHung n h new a b slot places above blocks
    done = hung above tree refl miss built.links row joins

    hangs : Hangs n h new a b slot places above done.parent done.place blocks
    hangs = done.hangs

    content : (l : ℕ) → l * 64 < g.block_size → new (get_or blocks (length blocks - 1) 0) l ≡ Some (line_of bytes l)
    content l within =
        joins.theirs (length blocks - 1) (omega arith) (omega (arith, miss.some, count, can.as_many))
        (get_or blocks (length blocks - 1) 0) l (ap is_some (built.last.at l within))
        ∙ built.last.at l within

    other-spot : (q : ℕ) → IsPage g q → IsSpot n (page_slot g q) (page_places g q)
    other-spot q there = path-spot g (path n q) (own-path g q pos there).0

    other-deep : (q : ℕ) → IsPage g q → length (page_places g q) ≡ page_slot g q - 9
    other-deep q there = path-deep g (path n q) (own-path g q pos there).0

    others : (q : ℕ) → IsPage g q → q ≢ page → page_block g new b q ≡ page_block g h a q
    others q there apart =
        at-page g new b q
        ∙ (hung-other hangs tree (page_slot g q) (page_places g q) (other-spot q there) (other-deep q there)
        (λ e f. apart (sym (own-path g q pos there).1
        ∙ (same-page g (path n q) (path n page) (own-path g q pos there).0 (own-path g page pos is).0 e f
        ∙ (own-path g page pos is).1)))
        ∙ sym (at-page g h a q))

    -- a page is no indirect block
    no-parent : (q : ℕ) → IsPage g q → block_at h a (page_slot g q) (page_places g q) ≢ 0
        → block_at h a (page_slot g q) (page_places g q) ≢ done.parent
    no-parent q there some same = by above refl
      where
        by : (m : ℕ) → above ≡ m → ⊥
        by zero e = some (same ∙ (hangs.at_top e).0)
        by (suc m) e =
            (let fits : m < length places = omega (arith, e, miss.some) in
            let one = tree.once (page_slot g q) (page_places g q) slot (take m places) (other-spot q there)
            (front-spot places m (omega (arith, fits)) miss.spot) some (same ∙ (hangs.at_number m e).0) in
            absurd (omega (
              arith,
              fits,
              ap length one.1,
              length-front places m (omega (arith, fits)),
              other-deep q there,
              one.0,
              miss.deep,
            )))

    kept : (q l : ℕ) → IsPage g q → q ≢ page → page_block g h a q ≢ 0 → l * 64 < g.block_size
        → new (page_block g h a q) l ≡ h (page_block g h a q) l
    kept q l there apart some within =
        (let at : page_block g h a q ≡ block_at h a (page_slot g q) (page_places g q) = at-page g h a q in
        let here : block_at h a (page_slot g q) (page_places g q) ≢ 0 = (λ z. some (at ∙ z)) in
        ap (λ c. new c l) at
        ∙ (done.stays (block_at h a (page_slot g q) (page_places g q)) l
        ((tree.whole (page_slot g q) (page_places g q) (other-spot q there) here).at l within)
        (λ ne same. absurd (no-parent q there here same))
        ∙ ap (λ c. h c l) (sym at)))

-- ---- as the code has it

-- the spot that the code found, and what is missing on the way to it
pub record IsReady (o : Origin) (h : Held) (a : List ℕ) (page : ℕ) (blocks : List ℕ) (slot : ℕ) (places : List ℕ) : Type 0 where
  pub slot_is : slot ≡ page_slot o.sizes page
  pub places_is : places ≡ page_places o.sizes page
  pub miss : IsMissing (block_numbers o.sizes) h a slot places blocks (length places + 1 - length blocks)

pub ready : {o : Origin} {h : Held} {a : List ℕ} {page : ℕ} {blocks : List ℕ} {parts : List Held} (g : Geometry) → g ≡ o.sizes
    → IsGeometry g → IsPage o.sizes page → CanAttach o h a page blocks parts → (p : PagePath) → IsPath g p → page_of g p ≡ page
    → {slot : ℕ} {places : List ℕ} → slot ≡ slot_of p → places ≡ places_of p → IsReady o h a page blocks slot places
ready {o} {h} {a} {page} {blocks} {parts} g e sizes is can p path at {slot} {places} one two = record {
  slot_is = same.0;
  places_is = same.1;
  miss = (let P : ℕ → Type 0 = λ q. IsMissing (block_numbers o.sizes) h a q places blocks (length places + 1 - length blocks) in
      let Q : List ℕ → Type 0 = λ q. IsMissing (block_numbers o.sizes) h a (page_slot o.sizes page) q blocks
      (length q + 1 - length blocks) in
      subst P (sym same.0) (subst Q (sym same.1) (missing (omega (arith, ap (λ q. q.block_size) e, sizes.block_size)) is can)));
}
  where
    same : (slot ≡ page_slot o.sizes page) × (places ≡ page_places o.sizes page)
    same = spot-is o.sizes g p page e path at one two

-- the places above the row, and the blocks at them
pub front-low : {n : ℕ} {h : Held} {a : List ℕ} {slot : ℕ} {places xs : List ℕ} {above : ℕ} (m : ℕ) → IsMissing n h a slot places xs above
    → m ≡ above → (i : ℕ) → i < length (take m places) → get_or (take m places) i 0 < n
front-low {n} {h} {a} {slot} {places} {xs} {above} m miss e i low =
    (front-spot places m (omega (arith, e, miss.from, miss.some)) miss.spot).places i low

pub front-held : {o : Origin} {h : Held} {a : List ℕ} {slot : ℕ} {places xs : List ℕ} {above : ℕ} (m : ℕ) → IsTree o h a
    → IsMissing (block_numbers o.sizes) h a slot places xs above → m ≡ above → (i : ℕ) → i < length (take m places)
    → HoldsBlock o h (block_at h a slot (take i (take m places)))
front-held {o} {h} {a} {slot} {places} {xs} {above} m tree miss e i low =
    let fits : m ≤ length places = omega (arith, e, miss.from, miss.some) in
    let below : i < m = omega (arith, low, length-front places m fits) in
    let P : List ℕ → Type 0 = λ q. HoldsBlock o h (block_at h a slot q) in
    subst P (sym (take-take i m places (omega (arith, below)))) (above-held tree miss i (omega (arith, below, e)))

pub built-from : {o : Origin} {h linked : Held} {a b : List ℕ} {page : ℕ} {blocks : List ℕ} {news : List Held} {bytes : List ℕ}
    {slot above from : ℕ} {places : List ℕ} → IsReady o h a page blocks slot places → above ≡ length places + 1 - length blocks → from ≡ 0
    → HasBytes o news (length blocks - 1) (get_or blocks (length blocks - 1) 0) bytes
    → LeadsFrom from (block_numbers o.sizes) places (length places + 1 - length blocks) blocks news
    → Links (block_numbers o.sizes) h linked a b slot (take above places) (get_or blocks 0 0)
    → IsBuilt o h linked a b page blocks news bytes
built-from {o} {h} {linked} {a} {b} {page} {blocks} {news} {bytes} {slot} {above} {from} {places} is e none bytes-are leads links = record {
  last = bytes-are;
  row = (let P : ℕ → Type 0 = λ q. LeadsFrom q (block_numbers o.sizes) places (length places + 1 - length blocks) blocks news in
      let Q : List ℕ → Type 0 = λ q. LeadsFrom 0 (block_numbers o.sizes) q (length q + 1 - length blocks) blocks news in
      subst Q is.places_is (subst P none leads));
  links = (let P : ℕ → Type 0 = λ q. Links (block_numbers o.sizes) h linked a b slot (take q places) (get_or blocks 0 0) in
      let Q : List ℕ → Type 0 = λ q. Links (block_numbers o.sizes) h linked a b slot (take (length q + 1 - length blocks) q)
      (get_or blocks 0 0) in
      let R : ℕ → Type 0 = λ q. Links (block_numbers o.sizes) h linked a b q
      (take (length (page_places o.sizes page) + 1 - length blocks) (page_places o.sizes page)) (get_or blocks 0 0) in
      subst R is.slot_is (subst Q is.places_is (subst P e links)));
}

pub attached-parts : {S : Type 0} {held : S → Held} {lent : S → Lent} {origin : S → Origin} {forced : S → Bool} {faults : S → ℕ}
    {olds news : List S} {o : Origin} {h linked new : Held} {a b : List ℕ} {page : ℕ} {blocks bytes : List ℕ} (g : Geometry) → g ≡ o.sizes
    → IsGeometry g → IsPage o.sizes page → IsTree o h a → CanAttach o h a page blocks (map held olds)
    → Keeps held lent origin forced faults olds news → IsBuilt o h linked a b page blocks (map held news) bytes
    → Joins linked (map held news) new → Attaches o h new a b page blocks (map held olds) bytes
attached-parts {S} {held} {lent} {origin} {forced} {faults} {olds} {news} g e sizes is tree can keeps built joins =
    attached (omega (arith, ap (λ q. q.block_size) e, sizes.block_size)) is tree can
    (length-map news held ∙ (keeps.count ∙ sym (length-map olds held)))
    (λ i low. keeps.lines i (omega (arith, low, length-map olds held))) built joins
