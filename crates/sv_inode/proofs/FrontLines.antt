-- Where no line of a data block has changed, an inode stands for the same node.
use Rattle.std.proofs.Common.{◌≡◌, ◌≢◌, ◌≤◌, ◌<◌, ◌+◌, ◌-◌, ◌*◌, ◌/◌, ◌%◌, ◌==◌, ◌++◌, ◌⊎◌, inl, inr, ℕ, zero, suc, Bool, true, false}
use Rattle.std.proofs.Common.{List, [], ◌∷◌, length, take, get_or, Option, Some, None, is_some, unwrap_or, arith, refl, sym, ap, ◌∙◌, subst}
use Rattle.std.specs.FinMap as fmap
use Rattle.std.specs.Ordering.{nat_cmp}
use Rattle.std.proofs.lemmas.Bool.{eqb-true}
use Rattle.std.proofs.lemmas.Bool.Decides.{nat_tests}
use Rattle.sv_form.specs.Geometry.{IsDataBlock, IsGeometry, IsNumber, inode_count, inode_place}
use Rattle.sv_form.specs.Node.{Node}
use Rattle.sv_form.specs.Number.{number32}
use Rattle.sv_form.specs.PagePath.{block_numbers, page_limit}
use Rattle.sv_form.specs.declared.geometry.Geometry.{Geometry}
use Rattle.sv_form.specs.declared.inode.InodeBody.{InodeBody}
use Rattle.sv_store.specs.Held.{Held, HoldsBlock, Origin, SameLines}
use Rattle.sv_bmap.specs.Attach.{page_places, page_slot}
use Rattle.sv_bmap.specs.Tree.{IsSpot, IsTree, block_at, child, number_in, page_block, path}
use Rattle.sv_bmap.proofs.Hang.{down-snoc, front-spot, length-front}
use Rattle.sv_bmap.proofs.PageSpots.{path-spot}
use Rattle.sv_bmap.proofs.Paths.{child-hole, child-there}
use Rattle.sv_inode.specs.InodeLine.{PutsInode}
use Rattle.sv_inode.specs.StandsFor.{HasDataBlocks, HasNoEmptyBlock, HasPages, HasTree, IsPageOf, StandsFor}
use Rattle.sv_inode.specs.Truncate.{HoldsOnly, IsInTree}
use Rattle.sv_inode.proofs.WrittenTree.{at-page, last-place, next-spot, path-own}

-- no line of a data block has changed
abbrev pub KeepsData : Geometry → Held → Held → Type 0
KeepsData g h k = (b l : ℕ) → g.first_data ≤ b → k b l ≡ h b l

number-same : (h k : Held) (b i : ℕ) → k b (i / 16) ≡ h b (i / 16) → number_in k b i ≡ number_in h b i
unfolding number_in
number-same h k b i e = ap (λ x. number32 (unwrap_or x []) (i % 16 * 4)) e

module _ {g : Geometry} {h k : Held} {a : List ℕ} (sizes : IsGeometry g) (in_data : HasDataBlocks g h a)
    (same : KeepsData g h k) where
  child-same : (b i : ℕ) → (b ≢ 0 → IsDataBlock g b) → child k b i ≡ child h b i
  child-same b i owned = by (b == 0) refl
    where
      no : (x y : ℕ) → (x == y) ≡ false → x ≢ y
      no x y e = grind (nat_tests, arith)

      by : (t : Bool) → (b == 0) ≡ t → child k b i ≡ child h b i
      by true e = child-hole k b i (eqb-true b 0 e) ∙ sym (child-hole h b i (eqb-true b 0 e))
      by false e =
          child-there k b i (no b 0 e)
          ∙ (number-same h k b i (same b (i / 16) (owned (no b 0 e)).least) ∙ sym (child-there h b i (no b 0 e)))

  spots : (m t : ℕ) (ks : List ℕ) → length ks ≡ m → IsSpot (block_numbers g) t ks → block_at k a t ks ≡ block_at h a t ks
  spots zero t [] e spot = refl
  spots zero t (x ∷ ks) e spot = absurd (omega (arith, e))
  spots (suc m) t ks e spot =
      (let front : IsSpot (block_numbers g) t (take m ks) = front-spot ks m (omega (arith, e)) spot in
      let j : ℕ = get_or ks m 0 in
      ap (block_at k a t) (last-place ks m e)
      ∙ (down-snoc k (get_or a t 0) (take m ks) j
      ∙ (ap (λ q. child k q j) (spots m t (take m ks) (length-front ks m (omega (arith, e))) front)
      ∙ (child-same (block_at h a t (take m ks)) j (in_data.at t (take m ks) front)
      ∙ (sym (down-snoc h (get_or a t 0) (take m ks) j) ∙ ap (block_at h a t) (sym (last-place ks m e)))))))

  pub front-spots : (t : ℕ) (ks : List ℕ) → IsSpot (block_numbers g) t ks → block_at k a t ks ≡ block_at h a t ks
  front-spots t ks spot = spots (length ks) t ks refl spot

  pub front-data : HasDataBlocks g k a
  front-data = record {
    at = λ t ks spot some.
        (let P : ℕ → Type 0 = λ q. IsDataBlock g q in
        subst P (sym (front-spots t ks spot)) (in_data.at t ks spot (λ z. some (front-spots t ks spot ∙ z))));
  }

  front-no-empty : HasNoEmptyBlock g h a → HasNoEmptyBlock g k a
  front-no-empty no_empty = record { some = some }
    where
      some : (t : ℕ) (ks : List ℕ) → IsSpot (block_numbers g) t ks → length ks < t - 9 → block_at k a t ks ≢ 0
          → (i : ℕ) × ((i < block_numbers g) × (child k (block_at k a t ks) i ≢ 0))
      some t ks spot deep there =
          (let one = no_empty.some t ks spot deep (λ z. there (front-spots t ks spot ∙ z)) in
          let i : ℕ = one.0 in
          let next : IsSpot (block_numbers g) t (ks ++ i ∷ []) = next-spot (block_numbers g) t ks i spot deep one.1.0 in (
            i,
            (
              one.1.0,
              λ z. one.1.1
                  (sym (down-snoc h (get_or a t 0) ks i)
                  ∙ (sym (front-spots t (ks ++ i ∷ []) next) ∙ (down-snoc k (get_or a t 0) ks i ∙ z))),
            ),
          ))

  page-same : (q : ℕ) → q < page_limit (block_numbers g)
      → (page_block g k a q ≡ page_block g h a q) × (page_block g h a q ≢ 0 → IsDataBlock g (page_block g h a q))
  page-same q low = (
    at-page g k a q ∙ (front-spots (page_slot g q) (page_places g q) spot ∙ sym (at-page g h a q)),
    λ some.
        (let P : ℕ → Type 0 = λ x. IsDataBlock g x in
        subst P (sym (at-page g h a q))
        (in_data.at (page_slot g q) (page_places g q) spot (λ z. some (at-page g h a q ∙ z)))),
  )
    where
      spot : IsSpot (block_numbers g) (page_slot g q) (page_places g q)
      spot = path-spot g (path (block_numbers g) q) (path-own g q sizes low).0

  page-kept : (was now : ℕ) → now ≡ was → (was ≢ 0 → IsDataBlock g was) → (x : Option (List ℕ)) → IsPageOf g h was x
      → IsPageOf g k now x
  page-kept was now e owned None is = e ∙ is
  page-kept was now e owned (Some bytes) is = record {
    some = λ z. is.some (sym e ∙ z);
    size = is.size;
    lines = λ l low. ap (λ c. k c l) e ∙ (same was l (owned is.some).least ∙ is.lines l low);
  }

  front-pages : (pages : fmap.FinMap nat_cmp (List ℕ)) → HasPages g h a pages → HasPages g k a pages
  front-pages pages has = record {
    within = λ q low. page-kept (page_block g h a q) (page_block g k a q) (page-same q low).0 (page-same q low).1
        (fmap.get pages q) (has.within q low);
    past = has.past;
  }

pub front-tree : {o : Origin} {h k : Held} {a : List ℕ} → IsGeometry o.sizes → HasDataBlocks o.sizes h a → KeepsData o.sizes h k
    → IsTree o h a → IsTree o k a
front-tree {o} {h} {k} {a} sizes in_data same tree = record {
  whole = λ t ks spot some.
      (let P : ℕ → Type 0 = λ q. HoldsBlock o k q in
      let there : block_at h a t ks ≢ 0 = (λ z. some (at t ks spot ∙ z)) in
      subst P (sym (at t ks spot)) (kept (block_at h a t ks) (in_data.at t ks spot there) (tree.whole t ks spot there)));
  once = λ t ks u js spot that some e. tree.once t ks u js spot that (λ z. some (at t ks spot ∙ z))
      (sym (at t ks spot) ∙ (e ∙ at u js that));
}
  where
    at : (t : ℕ) (ks : List ℕ) → IsSpot (block_numbers o.sizes) t ks → block_at k a t ks ≡ block_at h a t ks
    at t ks spot = front-spots sizes in_data same t ks spot

    kept : (b : ℕ) → IsDataBlock o.sizes b → HoldsBlock o h b → HoldsBlock o k b
    kept b owned holds = record { at = λ l low. ap is_some (same b l owned.least) ∙ holds.at l low }

pub front-stands : {o : Origin} {h k : Held} {body : InodeBody} {node : Node} → IsGeometry o.sizes → KeepsData o.sizes h k
    → StandsFor o h body node → StandsFor o k body node
front-stands {node = node} sizes same stands = record {
  described = stands.described;
  tree = front-tree sizes stands.data_blocks same stands.tree;
  pages = front-pages sizes stands.data_blocks same node.pages stands.pages;
  data_blocks = front-data sizes stands.data_blocks same;
  no_empty = front-no-empty sizes stands.data_blocks same stands.no_empty;
}

pub front-only : {o : Origin} {h k : Held} {a : List ℕ} {n : ℕ} → IsGeometry o.sizes → KeepsData o.sizes h k → SameLines k h
    → HasTree o h a → HoldsOnly o h n a → HoldsOnly o k n a
front-only {o} {h} {k} {a} {n} sizes same lines tree was = record { at = λ b l is. by b l (was.at b l (sym (lines.at b l) ∙ is)) }
  where
    by : (b l : ℕ) → ((b ≡ (inode_place o.sizes n).block) × (l ≡ (inode_place o.sizes n).line)) ⊎ IsInTree o.sizes h a b
        → ((b ≡ (inode_place o.sizes n).block) × (l ≡ (inode_place o.sizes n).line)) ⊎ IsInTree o.sizes k a b
    by b l (inl line) = inl line
    by b l (inr one) =
        inr (record {
          some = one.some;
          slot = one.slot;
          places = one.places;
          spot = one.spot;
          at = front-spots sizes tree.in_data same one.slot one.places one.spot ∙ one.at;
        })

-- an inode's line stands before the data blocks
pub puts-front : {g : Geometry} {n : ℕ} {body : InodeBody} {h k : Held} → IsGeometry g → IsNumber g n → PutsInode g n body h k
    → KeepsData g h k
puts-front {g} {n} sizes number puts = λ b l low. puts.others b l (inl (λ e. apart b low e))
  where
    apart : (b : ℕ) → g.first_data ≤ b → b ≡ (inode_place g n).block → ⊥
    apart b low e =
        (let count : inode_count g ≡ (g.first_data - 2) * 1024 / 64 = ap (λ q. (g.first_data - 2) * q / 64) sizes.block_size in
        let place : (inode_place g n).block ≡ (n - 1) / 16 + 2 = ap (λ q. (n - 1) / (q / 64) + 2) sizes.block_size in
        let most : n ≤ inode_count g = number.most in
        omega (arith, count, place, most, number.least, sizes.least_first, low, e))
