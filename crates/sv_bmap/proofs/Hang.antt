-- What a row of new blocks does to the tree.
use Rattle.std.proofs.Common.{◌≡◌, ◌≢◌, ◌<◌, ◌≤◌, ◌+◌, ◌-◌, ◌==◌, ◌++◌, ◌⊎◌, inl, inr, ℕ, zero, suc, Bool, true, false, List, [], ◌∷◌}
use Rattle.std.proofs.Common.{length, take, get_or, refl, sym, ap, ◌∙◌, subst, arith}
use Rattle.std.proofs.lemmas.Bool.{eqb-true}
use Rattle.std.proofs.lemmas.Bool.Decides.{nat_tests}
use Rattle.std.proofs.lemmas.List.{take_all, take_more, length-take, get_or-take}
use Rattle.sv_store.specs.Held.{Held, Origin, HoldsBlock}
use Rattle.sv_form.specs.PagePath.{block_numbers}
use Rattle.sv_bmap.specs.Tree.{IsSpot, IsTree, block_at, child, down}
use Rattle.sv_bmap.specs.Hang.{Hangs}
use Rattle.sv_bmap.proofs.Paths.{child-hole}

pub down-snoc : (h : Held) (b : ℕ) (ks : List ℕ) (k : ℕ) → down h b (ks ++ k ∷ []) ≡ child h (down h b ks) k
down-snoc h b [] k = refl
down-snoc h b (j ∷ ks) k = down-snoc h (child h b j) ks k

pub length-front : (ks : List ℕ) (m : ℕ) → m ≤ length ks → length (take m ks) ≡ m
length-front ks m low = length-take m ks ∙ omega (arith, low)

-- the last place of a list
last-place : (ks : List ℕ) (m : ℕ) → length ks ≡ suc m → ks ≡ take m ks ++ get_or ks m 0 ∷ []
last-place ks m e = sym (take_all (m + 1) ks (omega (arith, e))) ∙ take_more ks m 0 (omega (arith, e))

pub front-spot : {n t : ℕ} (ks : List ℕ) (m : ℕ) → m ≤ length ks → IsSpot n t ks → IsSpot n t (take m ks)
front-spot {n} {t} ks m low spot = record {
  among = spot.among;
  deep = omega (arith, spot.deep, length-front ks m low, low);
  places = λ i below. omega (
    arith,
    get_or-take m ks i 0 (omega (arith, below, length-front ks m low)),
    spot.places i
        (omega (arith, below, length-front ks m low, low)),
  );
}

pub record New {n : ℕ} {h new : Held} {a b : List ℕ} {slot : ℕ} {places : List ℕ} {above parent place : ℕ} {xs : List ℕ}
    (hangs : Hangs n h new a b slot places above parent place xs) (t : ℕ) (ks : List ℕ) (i : ℕ) : Type 0 where
  pub low : i < length xs
  pub same : t ≡ slot
  pub on : ks ≡ take (above + i) places
  pub at : block_at new b t ks ≡ get_or xs i 0

abbrev Became : {n : ℕ} {h new : Held} {a b : List ℕ} {slot : ℕ} {places : List ℕ} {above parent place : ℕ} {xs : List ℕ}
    → Hangs n h new a b slot places above parent place xs → ℕ → List ℕ → Type 0
Became {n} {h} {new} {a} {b} hangs t ks = (block_at new b t ks ≡ block_at h a t ks) ⊎ ((i : ℕ) × New hangs t ks i)

no : (x y : ℕ) → (x == y) ≡ false → x ≢ y
no x y h = grind (nat_tests, arith)

on-length : {n : ℕ} {h new : Held} {a b : List ℕ} {slot : ℕ} {places : List ℕ} {above parent place : ℕ} {xs : List ℕ}
    (hangs : Hangs n h new a b slot places above parent place xs) (ks : List ℕ) (i : ℕ) → i < length xs → ks ≡ take (above + i) places
    → length ks ≡ above + i
on-length {n} {h} {new} {a} {b} {slot} {places} {above} hangs ks i low on = ap length on
    ∙ length-front places (above + i) (omega (arith, low, hangs.shape))

-- the next place on the way to the page
on-next : {n : ℕ} {h new : Held} {a b : List ℕ} {slot : ℕ} {places : List ℕ} {above parent place : ℕ} {xs : List ℕ}
    (hangs : Hangs n h new a b slot places above parent place xs) (js : List ℕ) (k m : ℕ) → m < length places → js ≡ take m places
    → k ≡ get_or places m 0 → js ++ k ∷ [] ≡ take (m + 1) places
on-next {n} {h} {new} {a} {b} {slot} {places} hangs js k m low on e =
    ap (λ q. q ++ k ∷ []) on ∙ (ap (λ q. take m places ++ q ∷ []) e ∙ sym (take_more places m 0 low))

-- at an address
became-top : {n : ℕ} {h new : Held} {a b : List ℕ} {slot : ℕ} {places : List ℕ} {above parent place : ℕ} {xs : List ℕ}
    (hangs : Hangs n h new a b slot places above parent place xs) (t : ℕ) → Became hangs t []
became-top {n} {h} {new} {a} {b} {slot} {places} {above} {parent} {place} {xs} hangs t = by (t == slot) refl (above == 0) refl
  where
    by : (s : Bool) → (t == slot) ≡ s → (u : Bool) → (above == 0) ≡ u → Became hangs t []
    by false e u f = inl (hangs.tops t (λ d. absurd (no t slot e d)))
    by true e false f = inl (hangs.tops t (λ d. no above 0 f))
    by true e true f =
        (let zero-above : above ≡ 0 = eqb-true above 0 f in
        let same : t ≡ slot = eqb-true t slot e in
        let nothing : above + 0 ≡ 0 = omega (arith, zero-above) in
        inr (
          0,
          record {
            low = hangs.some;
            same = same;
            on = sym (ap (λ q. take q places) nothing);
            at = ap (λ q. get_or b q 0) same
                ∙ (hangs.at_top zero-above).1;
          },
        ))

-- one place further down, from a block that was there
became-old : {o : Origin} {h new : Held} {a b : List ℕ} {slot : ℕ} {places : List ℕ} {above parent place : ℕ} {xs : List ℕ}
    (hangs : Hangs (block_numbers o.sizes) h new a b slot places above parent place xs) → IsTree o h a → (t : ℕ) (js : List ℕ) (k : ℕ)
    → IsSpot (block_numbers o.sizes) t js → k < block_numbers o.sizes → block_at new b t js ≡ block_at h a t js
    → Became hangs t (js ++ k ∷ [])
became-old {o} {h} {new} {a} {b} {slot} {places} {above} {parent} {place} {xs} hangs tree t js k spot low was =
    by (block_at h a t js == 0) refl (block_at h a t js == parent) refl (k == place) refl
  where
    here : ℕ
    here = block_at h a t js

    from : block_at new b t (js ++ k ∷ []) ≡ child new here k
    from = down-snoc new (get_or b t 0) js k ∙ ap (λ q. child new q k) was

    before : block_at h a t (js ++ k ∷ []) ≡ child h here k
    before = down-snoc h (get_or a t 0) js k

    hook : here ≢ 0 → here ≡ parent → k ≡ place → (m : ℕ) → above ≡ m → Became hangs t (js ++ k ∷ [])
    hook some e d zero f = absurd (some (e ∙ (hangs.at_top f).0))
    hook some e d (suc m) f =
        let link = hangs.at_number m f in
        let fits : m < length places = omega (arith, f, hangs.shape, hangs.some) in
        let one = tree.once t js slot (take m places) spot (front-spot places m (omega (arith, fits)) hangs.spot) some (e ∙ link.0) in
        let next : above + 0 ≡ m + 1 = omega (arith, f) in
        inr (
          0,
          record {
            low = hangs.some;
            same = one.0;
            on = on-next hangs js k m fits one.1 (d ∙ link.1.0) ∙ sym (ap (λ q. take q places) next);
            at = from ∙ (ap (λ q. child new q k) e ∙ (ap (child new parent) d ∙ link.1.1.1));
          },
        )

    by : (s : Bool) → (here == 0) ≡ s → (u : Bool) → (here == parent) ≡ u → (v : Bool) → (k == place) ≡ v → Became hangs t (js ++ k ∷ [])
    by true e u f v d = (let hole = eqb-true here 0 e in inl
        (from ∙ (child-hole new here k hole ∙ sym (before ∙ child-hole h here k hole))))
    by false e false f v d = inl (from ∙ (hangs.old t js k spot (no here 0 e) low (λ p. absurd (no here parent f p)) ∙ sym before))
    by false e true f false d = inl (from ∙ (hangs.old t js k spot (no here 0 e) low (λ p. no k place d) ∙ sym before))
    by false e true f true d = hook (no here 0 e) (eqb-true here parent f) (eqb-true k place d) above refl

-- one place further down, from a new block
became-new : {n : ℕ} {h new : Held} {a b : List ℕ} {slot : ℕ} {places : List ℕ} {above parent place : ℕ} {xs : List ℕ}
    (hangs : Hangs n h new a b slot places above parent place xs) (t : ℕ) (js : List ℕ) (k i : ℕ) → length js + 1 ≤ t - 9 → k < n
    → New hangs t js i → Became hangs t (js ++ k ∷ [])
became-new {n} {h} {new} {a} {b} {slot} {places} {above} {parent} {place} {xs} hangs t js k i deep low is =
    by (k == get_or places (above + i) 0) refl
  where
    count : length js ≡ above + i
    count = on-length hangs js i is.low is.on

    fits : above + i < length places
    fits = omega (arith, count, deep, is.same, hangs.deep)

    more : suc i < length xs
    more = omega (arith, fits, hangs.shape)

    from : block_at new b t (js ++ k ∷ []) ≡ child new (get_or xs i 0) k
    from = down-snoc new (get_or b t 0) js k ∙ ap (λ q. child new q k) is.at

    hole : block_at h a t js ≡ 0
    hole = ap (λ q. block_at h a q js) is.same ∙ (ap (block_at h a slot) is.on ∙ hangs.holes i is.low)

    by : (s : Bool) → (k == get_or places (above + i) 0) ≡ s → Became hangs t (js ++ k ∷ [])
    by true e =
        (let place-is : k ≡ get_or places (above + i) 0 = eqb-true k (get_or places (above + i) 0) e in
        let next : above + i + 1 ≡ above + suc i = omega arith in
        inr (
          suc i,
          record {
            low = more;
            same = is.same;
            on = on-next hangs js k (above + i) fits is.on place-is ∙ ap (λ q. take q places) next;
            at = from ∙ (ap (child new (get_or xs i 0)) place-is ∙ hangs.row i more);
          },
        ))
    by false e =
        inl (from ∙ (hangs.empty i k more low (no k (get_or places (above + i) 0) e)
        ∙ sym (down-snoc h (get_or a t 0) js k ∙ child-hole h (block_at h a t js) k hole)))

-- each spot has the block that it had, or it is on the way to the page and has a new one
pub became : {o : Origin} {h new : Held} {a b : List ℕ} {slot : ℕ} {places : List ℕ} {above parent place : ℕ} {xs : List ℕ}
    (hangs : Hangs (block_numbers o.sizes) h new a b slot places above parent place xs) → IsTree o h a → (m t : ℕ) (ks : List ℕ)
    → length ks ≡ m → IsSpot (block_numbers o.sizes) t ks → Became hangs t ks
became hangs tree zero t [] e spot = became-top hangs t
became hangs tree zero t (k ∷ ks) e spot = absurd (omega (arith, e))
became {o} hangs tree (suc m) t ks e spot =
    let P : List ℕ → Type 0 = λ q. Became hangs t q in
    subst P (sym (last-place ks m e)) (step (became hangs tree m t (take m ks) (length-front ks m fits) front))
  where
    fits : m ≤ length ks
    fits = omega (arith, e)

    front : IsSpot (block_numbers o.sizes) t (take m ks)
    front = front-spot ks m fits spot

    low : get_or ks m 0 < block_numbers o.sizes
    low = spot.places m (omega (arith, e))

    step : Became hangs t (take m ks) → Became hangs t (take m ks ++ get_or ks m 0 ∷ [])
    step (inl was) = became-old hangs tree t (take m ks) (get_or ks m 0) front low was
    step (inr is) = became-new hangs t (take m ks) (get_or ks m 0) is.0 (omega (arith, length-front ks m fits, e, spot.deep)) low is.1

-- the way to the page goes by the new blocks, one after another
pub on-way : {o : Origin} {h new : Held} {a b : List ℕ} {slot : ℕ} {places : List ℕ} {above parent place : ℕ} {xs : List ℕ}
    (hangs : Hangs (block_numbers o.sizes) h new a b slot places above parent place xs) → IsTree o h a → (i : ℕ) → i < length xs
    → block_at new b slot (take (above + i) places) ≡ get_or xs i 0
on-way {o} {h} {new} {a} {b} {slot} {places} {above} {parent} {place} {xs} hangs tree zero low = by above refl
  where
    was : (m : ℕ) → above ≡ suc m → Became hangs slot (take m places)
        → block_at new b slot (take m places) ≡ block_at h a slot (take m places)
    was m f (inl e) = e
    was m f (inr is) =
        absurd (omega (
          arith,
          f,
          on-length hangs (take m places) is.0 is.1.low is.1.on,
          length-front places m
              (omega (arith, f, hangs.shape, hangs.some)),
        ))

    by : (m : ℕ) → above ≡ m → block_at new b slot (take (above + 0) places) ≡ get_or xs 0 0
    by zero f = (let nothing : above + 0 ≡ 0 = omega (arith, f) in ap (λ q. block_at new b slot (take q places)) nothing
        ∙ (hangs.at_top f).1)
    by (suc m) f =
        let link = hangs.at_number m f in
        let fits : m < length places = omega (arith, f, hangs.shape, hangs.some) in
        let next : above + 0 ≡ m + 1 = omega (arith, f) in
        let before = was m f
        (became hangs tree m slot (take m places) (length-front places m (omega (arith, fits)))
        (front-spot places m (omega (arith, fits)) hangs.spot)) in
        ap (λ q. block_at new b slot (take q places)) next
        ∙ (ap (block_at new b slot) (take_more places m 0 fits)
        ∙ (down-snoc new (get_or b slot 0) (take m places) (get_or places m 0)
        ∙ (ap (λ q. child new q (get_or places m 0)) (before ∙ sym link.0) ∙ (ap (child new parent) (sym link.1.0) ∙ link.1.1.1))))
on-way {o} {h} {new} {a} {b} {slot} {places} {above} {parent} {place} {xs} hangs tree (suc i) low =
    let fits : above + i < length places = omega (arith, low, hangs.shape) in
    let next : above + suc i ≡ above + i + 1 = omega arith in
    ap (λ q. block_at new b slot (take q places)) next
    ∙ (ap (block_at new b slot) (take_more places (above + i) 0 fits)
    ∙ (down-snoc new (get_or b slot 0) (take (above + i) places) (get_or places (above + i) 0)
    ∙ (ap (λ q. child new q (get_or places (above + i) 0)) (on-way hangs tree i (omega (arith, low))) ∙ hangs.row i low)))

-- the page is the last block of the row
pub hung-page : {o : Origin} {h new : Held} {a b : List ℕ} {slot : ℕ} {places : List ℕ} {above parent place : ℕ} {xs : List ℕ}
    (hangs : Hangs (block_numbers o.sizes) h new a b slot places above parent place xs) → IsTree o h a
    → block_at new b slot places ≡ get_or xs (length xs - 1) 0
hung-page {o} {h} {new} {a} {b} {slot} {places} {above} {parent} {place} {xs} hangs tree =
    ap (block_at new b slot) (sym (take_all (above + (length xs - 1)) places (omega (arith, hangs.shape, hangs.some))))
    ∙ on-way hangs tree (length xs - 1) (omega (arith, hangs.some))

-- every other page is where it was
pub hung-other : {o : Origin} {h new : Held} {a b : List ℕ} {slot : ℕ} {places : List ℕ} {above parent place : ℕ} {xs : List ℕ}
    (hangs : Hangs (block_numbers o.sizes) h new a b slot places above parent place xs) → IsTree o h a → (t : ℕ) (ks : List ℕ)
    → IsSpot (block_numbers o.sizes) t ks → length ks ≡ t - 9 → (t ≡ slot → ks ≢ places) → block_at new b t ks ≡ block_at h a t ks
hung-other {o} {h} {new} {a} {b} {slot} {places} {above} {parent} {place} {xs} hangs tree t ks spot deep other =
    by (became hangs tree (length ks) t ks refl spot)
  where
    by : Became hangs t ks → block_at new b t ks ≡ block_at h a t ks
    by (inl was) = was
    by (inr is) =
        absurd (other is.1.same
        (is.1.on ∙ take_all (above + is.0) places
        (omega (arith, on-length hangs ks is.0 is.1.low is.1.on, deep, is.1.same, hangs.deep))))

-- The tree with the row is a tree again, where its blocks stand in it once and were not in the tree.
pub hung-tree : {o : Origin} {h new : Held} {a b : List ℕ} {slot : ℕ} {places : List ℕ} {above parent place : ℕ} {xs : List ℕ}
    (hangs : Hangs (block_numbers o.sizes) h new a b slot places above parent place xs) → IsTree o h a
    → ((c : ℕ) → HoldsBlock o h c → HoldsBlock o new c) → ((i : ℕ) → i < length xs → HoldsBlock o new (get_or xs i 0))
    → ((i j : ℕ) → i < length xs → j < length xs → get_or xs i 0 ≡ get_or xs j 0 → i ≡ j)
    → ((t : ℕ) (ks : List ℕ) (i : ℕ) → IsSpot (block_numbers o.sizes) t ks → i < length xs → block_at h a t ks ≢ get_or xs i 0)
    → IsTree o new b
hung-tree {o} {h} {new} {a} {b} {slot} {places} {above} {parent} {place} {xs} hangs tree keeps holds distinct apart = record {
  whole = λ t ks spot some. whole t ks spot some (became hangs tree (length ks) t ks refl spot);
  once = λ t ks u js spot that some same. once t ks u js spot that some same (became hangs tree (length ks) t ks refl spot)
      (became hangs tree (length js) u js refl that);
}
  where
    whole : (t : ℕ) (ks : List ℕ) → IsSpot (block_numbers o.sizes) t ks → block_at new b t ks ≢ 0 → Became hangs t ks
        → HoldsBlock o new (block_at new b t ks)
    whole t ks spot some (inl was) =
        (let P : ℕ → Type 0 = λ q. HoldsBlock o new q in
        subst P (sym was) (keeps (block_at h a t ks) (tree.whole t ks spot (λ e. some (was ∙ e)))))
    whole t ks spot some (inr is) =
        (let P : ℕ → Type 0 = λ q. HoldsBlock o new q in subst P (sym is.1.at) (holds is.0 is.1.low))

    once : (t : ℕ) (ks : List ℕ) (u : ℕ) (js : List ℕ) → IsSpot (block_numbers o.sizes) t ks → IsSpot (block_numbers o.sizes) u js
        → block_at new b t ks ≢ 0 → block_at new b t ks ≡ block_at new b u js → Became hangs t ks → Became hangs u js → (t ≡ u) × (ks ≡ js)
    once t ks u js spot that some same (inl was) (inl also) = tree.once t ks u js spot that (λ e. some (was ∙ e)) (sym was ∙ (same ∙ also))
    once t ks u js spot that some same (inl was) (inr is) = absurd (apart t ks is.0 spot is.1.low (sym was ∙ (same ∙ is.1.at)))
    once t ks u js spot that some same (inr is) (inl was) = absurd (apart u js is.0 that is.1.low (sym was ∙ (sym same ∙ is.1.at)))
    once t ks u js spot that some same (inr is) (inr also) =
        (let index : is.0 ≡ also.0 = distinct is.0 also.0 is.1.low also.1.low (sym is.1.at ∙ (same ∙ also.1.at)) in
        (is.1.same ∙ sym also.1.same, is.1.on ∙ (ap (λ q. take (above + q) places) index ∙ sym also.1.on)))
