-- What stands in the tree of an image: the used inodes, each with its node, whose pages are blocks that the inode reaches.
use Rattle.std.proofs.Common.{◌≡◌, ◌≤◌, ◌<◌, ◌+◌, ◌==◌, ◌∷◌, [], ◌∙◌, ◌⊎◌, ℕ, zero, suc, Bool, not, true, false, List, Option, Some, None, inl, inr, ap, sym, refl, subst, cond, map, filter, find, arith}
use Rattle.std.specs.List.{list_all, range_with_len}
use Rattle.std.specs.Ordering.{nat_cmp, eq_by_cmp}
use Rattle.std.specs.Cmp.{nat_cmp_total, Equal-is}
use Rattle.std.specs.FinMap as fmap
use Rattle.std.specs.FinMap.{nat_cmp-IsAntisymmetric}
use Rattle.std.proofs.lemmas.Bool.{cases_eq, false≢true}
use Rattle.sv_form.specs.declared.geometry.Geometry.{Geometry}
use Rattle.sv_form.specs.Geometry.{inode_count}
use Rattle.sv_form.specs.Image.{block_of, inode_of}
use Rattle.sv_form.specs.Node.{Node}
use Rattle.sv_check.specs.InodeList.{is_free}
use Rattle.sv_check.specs.Sound.{is_page, node_of}
use Rattle.sv_check.specs.Walk.{Reached}
use Rattle.sv_check.proofs.BooleanTests.{and_left, and_right, not_true}
use Rattle.sv_check.proofs.LoadedTree.{nodes_to}
use Rattle.sv_check.proofs.LoadSteps.{other_key, same_key}

nothing : {X A : Type 0} (x : X) → None ≡ Some x → A
nothing x e = let bad : ⊥ = cc e in absurd bad

same_value : {X : Type 0} (x y : X) → Some x ≡ Some y → y ≡ x
same_value x y e = cc e

-- ---- nothing was found among those that pass a test

module _ (p q : ℕ → Bool) where
  none_here : (a : ℕ) (t u : Bool) (rest : List ℕ) → q a ≡ t → p a ≡ u → find p (cond t (a ∷ rest) rest) ≡ None → (find p rest ≡ None) × (t ≡ true → u ≡ false)
  none_here a false u rest is so e = (e, λ bad. absurd (false≢true bad))
  none_here a true u rest is so e = by_test u (sym (ap (λ (t : Bool). cond t (Some a) (find p rest)) so) ∙ e) where
    by_test : (u : Bool) → cond u (Some a) (find p rest) ≡ None → (find p rest ≡ None) × (true ≡ true → u ≡ false)
    by_test false f = (f, λ _. refl)
    by_test true f = let bad : ⊥ = cc f in absurd bad

  none_step : (a k : ℕ) → (q a ≡ true → p a ≡ false) → (a + 1 ≤ k → q k ≡ true → p k ≡ false) → a ≤ k → q k ≡ true → (a ≡ k) ⊎ (a ≡ k → ⊥) → p k ≡ false
  none_step a k here later low so (inl e) = ap p (sym e) ∙ here (ap q e ∙ so)
  none_step a k here later low so (inr other) = later (omega (arith, low, other)) so

  pub none_passes : (a n : ℕ) → find p (filter q (range_with_len a n)) ≡ None → (k : ℕ) → a ≤ k → k < a + n → q k ≡ true → p k ≡ false
  none_passes a zero e k low high so = absurd (omega (arith, low, high))
  none_passes a (suc n) e k low high so =
      let parts = none_here a (q a) (p a) (filter q (range_with_len (a + 1) n)) refl refl e in
      none_step a k parts.1 (λ more. none_passes (a + 1) n parts.0 k more (omega (arith, high))) low so (cases_eq a k)

-- ---- the nodes of the tree

pub record IsUsed (g : Geometry) (image : List ℕ) (a n i : ℕ) : Type 0 where
  pub low : a ≤ i
  pub high : i < a + n
  pub used : is_free (inode_of g image i) ≡ false

module _ (g : Geometry) (image : List ℕ) where
  abbrev entry : ℕ → ℕ × Node
  entry n = (n, node_of g image (inode_of g image n))

  abbrev is_used : ℕ → Bool
  is_used n = not (is_free (inode_of g image n))

  record IsFound (a n i : ℕ) (node : Node) : Type 0 where
    is : IsUsed g image a n i
    node_is : node ≡ node_of g image (inode_of g image i)

  found_wider : (a n i : ℕ) (node : Node) → IsFound (a + 1) n i node → IsFound a (suc n) i node
  found_wider a n i node f = record {
    is = record { low = (let low = f.is.low in omega (arith, low)); high = (let high = f.is.high in omega (arith, high)); used = f.is.used };
    node_is = f.node_is;
  }

  found_here : (a n i : ℕ) (node : Node) (t : Bool) → eq_by_cmp nat_cmp i a ≡ t → is_used a ≡ true → cond t (Some (node_of g image (inode_of g image a))) (fmap.find nat_cmp i (map entry (filter is_used (range_with_len (a + 1) n)))) ≡ Some node
      → (fmap.find nat_cmp i (map entry (filter is_used (range_with_len (a + 1) n))) ≡ Some node → IsFound a (suc n) i node) → IsFound a (suc n) i node
  found_here a n i node false is used e later = later e
  found_here a n i node true is used e later =
      let same : i ≡ a = nat_cmp-IsAntisymmetric i a ((Equal-is (nat_cmp i a)).0 is) in
      subst (λ (x : ℕ). IsFound a (suc n) x node) (sym same)
      (record {
        is = record { low = omega arith; high = omega arith; used = not_true (is_free (inode_of g image a)) used };
        node_is = same_value (node_of g image (inode_of g image a)) node e;
      })

  found_step : (a n i : ℕ) (node : Node) (t : Bool) → is_used a ≡ t → (fmap.find nat_cmp i (map entry (filter is_used (range_with_len (a + 1) n))) ≡ Some node → IsFound (a + 1) n i node)
      → fmap.find nat_cmp i (map entry (cond t (a ∷ filter is_used (range_with_len (a + 1) n)) (filter is_used (range_with_len (a + 1) n)))) ≡ Some node → IsFound a (suc n) i node
  found_step a n i node false is rest e = found_wider a n i node (rest e)
  found_step a n i node true is rest e = found_here a n i node (eq_by_cmp nat_cmp i a) refl is e (λ f. found_wider a n i node (rest f))

  found_from : (a n i : ℕ) (node : Node) → fmap.find nat_cmp i (map entry (filter is_used (range_with_len a n))) ≡ Some node → IsFound a n i node
  found_from a zero i node e = nothing node e
  found_from a (suc n) i node e = found_step a n i node (is_used a) refl (found_from (a + 1) n i node) e

  tree_found : (i : ℕ) (node : Node) → fmap.get (nodes_to g image (inode_count g)) i ≡ Some node → IsFound 1 (inode_count g) i node
  tree_found i node e = found_from 1 (inode_count g) i node (sym (fmap.get-from_entries nat_cmp_total _ i) ∙ e)

  -- what stands in the tree is a used inode
  pub tree_used : (i : ℕ) (node : Node) → fmap.get (nodes_to g image (inode_count g)) i ≡ Some node → IsUsed g image 1 (inode_count g) i
  tree_used i node e = (tree_found i node e).is

  -- with the node of its bytes
  pub tree_node : (i : ℕ) (node : Node) → fmap.get (nodes_to g image (inode_count g)) i ≡ Some node → node ≡ node_of g image (inode_of g image i)
  tree_node i node e = (tree_found i node e).node_is

  used_step : (a n i : ℕ) (t : Bool) → is_used a ≡ t → is_used i ≡ true → (a + 1 ≤ i → fmap.find nat_cmp i (map entry (filter is_used (range_with_len (a + 1) n))) ≡ Some (node_of g image (inode_of g image i)))
      → a ≤ i → (a ≡ i) ⊎ (a ≡ i → ⊥)
      → fmap.find nat_cmp i (map entry (cond t (a ∷ filter is_used (range_with_len (a + 1) n)) (filter is_used (range_with_len (a + 1) n)))) ≡ Some (node_of g image (inode_of g image i))
  used_step a n i false is used later low (inl e) = absurd (false≢true (sym is ∙ ap is_used e ∙ used))
  used_step a n i false is used later low (inr other) = later (omega (arith, low, other))
  used_step a n i true is used later low (inl e) =
      ap (λ (x : ℕ). cond (eq_by_cmp nat_cmp i x) (Some (node_of g image (inode_of g image x))) (fmap.find nat_cmp i (map entry (filter is_used (range_with_len (x + 1) n))))) e
      ∙ ap (λ (t : Bool). cond t (Some (node_of g image (inode_of g image i))) (fmap.find nat_cmp i (map entry (filter is_used (range_with_len (i + 1) n))))) (same_key i)
  used_step a n i true is used later low (inr other) =
      ap (λ (t : Bool). cond t (Some (node_of g image (inode_of g image a))) (fmap.find nat_cmp i (map entry (filter is_used (range_with_len (a + 1) n))))) (other_key i a (λ e. other (sym e)))
      ∙ later (omega (arith, low, other))

  used_from : (a n i : ℕ) → a ≤ i → i < a + n → is_used i ≡ true → fmap.find nat_cmp i (map entry (filter is_used (range_with_len a n))) ≡ Some (node_of g image (inode_of g image i))
  used_from a zero i low high used = absurd (omega (arith, low, high))
  used_from a (suc n) i low high used = used_step a n i (is_used a) refl used (λ more. used_from (a + 1) n i more (omega (arith, high)) used) low (cases_eq a i)

  -- and each used inode stands there
  pub used_tree : (i : ℕ) → 1 ≤ i → i < 1 + inode_count g → is_free (inode_of g image i) ≡ false → fmap.get (nodes_to g image (inode_count g)) i ≡ Some (node_of g image (inode_of g image i))
  used_tree i low high used = fmap.get-from_entries nat_cmp_total _ i ∙ used_from 1 (inode_count g) i low high (ap not used)

  -- ---- the pages of a node

  abbrev pub page_entry : Reached → ℕ × List ℕ
  page_entry r = (r.page, block_of g image r.block)

  -- page k is a block that the inode reaches, which passes this test
  pub record IsReachedPage (test : Reached → Bool) (k : ℕ) (bytes : List ℕ) : Type 0 where
    pub reached : Reached
    pub flat : (reached.height == 0) ≡ true
    pub page : k ≡ reached.page
    pub shown : bytes ≡ block_of g image reached.block
    pub passes : test reached ≡ true

  page_here : (test : Reached → Bool) (k : ℕ) (v : List ℕ) (r : Reached) (t : Bool) → (r.height == 0) ≡ true → test r ≡ true → eq_by_cmp nat_cmp k r.page ≡ t → (rest : Option (List ℕ))
      → (rest ≡ Some v → IsReachedPage test k v) → cond t (Some (block_of g image r.block)) rest ≡ Some v → IsReachedPage test k v
  page_here test k v r false flat passes is rest later e = later e
  page_here test k v r true flat passes is rest later e = record {
    reached = r;
    flat = flat;
    page = nat_cmp-IsAntisymmetric k r.page ((Equal-is (nat_cmp k r.page)).0 is);
    shown = same_value (block_of g image r.block) v e;
    passes = passes;
  }

  page_step : (test : Reached → Bool) (k : ℕ) (v : List ℕ) (r : Reached) (rs : List Reached) (t : Bool) → (r.height == 0) ≡ t → test r ≡ true
      → (fmap.find nat_cmp k (map page_entry (filter is_page rs)) ≡ Some v → IsReachedPage test k v)
      → fmap.find nat_cmp k (map page_entry (cond t (r ∷ filter is_page rs) (filter is_page rs))) ≡ Some v → IsReachedPage test k v
  page_step test k v r rs false is passes later e = later e
  page_step test k v r rs true is passes later e = page_here test k v r (eq_by_cmp nat_cmp k r.page) is passes refl _ later e

  pub page_found : (test : Reached → Bool) (k : ℕ) (v : List ℕ) (rs : List Reached) → list_all test rs ≡ true → fmap.find nat_cmp k (map page_entry (filter is_page rs)) ≡ Some v → IsReachedPage test k v
  page_found test k v [] all e = nothing v e
  page_found test k v (r ∷ rs) all e =
      page_step test k v r rs (r.height == 0) refl (and_left (test r) (list_all test rs) all) (page_found test k v rs (and_right (test r) (list_all test rs) all)) e
