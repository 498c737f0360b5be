-- How often the entries of the directories of the tree name an inode.
use Rattle.std.proofs.Common.{◌≡◌, ◌≤◌, ◌<◌, ◌+◌, ◌∷◌, [], ◌∙◌, ℕ, zero, suc, Bool, not, true, false, List, Some, None, ap, sym, refl, cond, if◌then◌else◌, map, filter, flat_map, length, arith}
use Rattle.std.specs.List.{enumerate_from, range_with_len, sum_by}
use Rattle.std.specs.Ordering.{nat_cmp}
use Rattle.std.specs.Cmp.{nat_cmp_total}
use Rattle.std.specs.FinMap as fmap
use Rattle.std.specs.FinMap.{nat_cmp-IsAntisymmetric}
use Rattle.std.proofs.lemmas.Bool.{false≢true}
use Rattle.std.proofs.lemmas.List.{length-append}
use Rattle.std.proofs.lemmas.List.Sums.{sum_by-cons}
use Rattle.sv_form.specs.declared.geometry.Geometry.{Geometry}
use Rattle.sv_form.specs.Image.{inode_of}
use Rattle.sv_form.specs.Node.{Node}
use Rattle.sv_plain.specs.Totals.{at_or_0, total}
use Rattle.sv_plain.proofs.Totals.{total-empty, total-insert}
use Rattle.sv_check.specs.InodeList.{is_free}
use Rattle.sv_check.specs.Sound.{node_of}
use Rattle.sv_check.proofs.LoadSteps.{other_key}

-- ---- lists

module _ {X Y : Type 0} (f : X → Y) (p : Y → Bool) where
  kept_step : (x : X) (xs : List X) (t : Bool) → length (filter p (map f xs)) ≡ length (filter (λ x. p (f x)) xs) → length (cond t (f x ∷ filter p (map f xs)) (filter p (map f xs))) ≡ length (cond t (x ∷ filter (λ x. p (f x)) xs) (filter (λ x. p (f x)) xs))
  kept_step x xs true e = ap suc e
  kept_step x xs false e = e

  pub kept_of_map : (xs : List X) → length (filter p (map f xs)) ≡ length (filter (λ x. p (f x)) xs)
  kept_of_map [] = refl
  kept_of_map (x ∷ xs) = kept_step x xs (p (f x)) (kept_of_map xs)

module _ (p q : ℕ → Bool) where
  alike_step : (a : ℕ) (xs : List ℕ) (s t : Bool) → s ≡ t → length (filter p xs) ≡ length (filter q xs) → length (cond s (a ∷ filter p xs) (filter p xs)) ≡ length (cond t (a ∷ filter q xs) (filter q xs))
  alike_step a xs true true e rest = ap suc rest
  alike_step a xs false false e rest = rest
  alike_step a xs true false e rest = let bad : ⊥ = cc e in absurd bad
  alike_step a xs false true e rest = let bad : ⊥ = cc e in absurd bad

  pub kept_alike : (n a : ℕ) → ((j : ℕ) → a ≤ j → j < a + n → p j ≡ q j) → length (filter p (range_with_len a n)) ≡ length (filter q (range_with_len a n))
  kept_alike zero a same = refl
  kept_alike (suc n) a same = alike_step a (range_with_len (a + 1) n) (p a) (q a) (same a (omega arith) (omega arith)) (kept_alike n (a + 1) (λ j low high. same j (omega (arith, low)) (omega (arith, high))))

pub numbered : {X : Type 0} (f : ℕ → X) (n a : ℕ) → enumerate_from a (map f (range_with_len a n)) ≡ map (λ j. (j, f j)) (range_with_len a n)
numbered f zero a = refl
numbered f (suc n) a = ap (λ l. (a, f a) ∷ l) (numbered f n (a + 1))

pub map_map : {X Y Z : Type 0} (f : X → Y) (h : Y → Z) (xs : List X) → map h (map f xs) ≡ map (λ x. h (f x)) xs
map_map f h [] = refl
map_map f h (x ∷ xs) = ap (λ l. h (f x) ∷ l) (map_map f h xs)

-- the sum over what passes one test is the length of what is made of what passes another
module _ {X : Type 0} (u q : ℕ → Bool) (f : ℕ → ℕ) (h : ℕ → List X) where
  sum_step : (a : ℕ) (xs ys : List ℕ) (s t : Bool) → u a ≡ s → q a ≡ t → (q a ≡ true → u a ≡ true) → (u a ≡ true → f a ≡ (if q a then length (h a) else 0)) → sum_by f xs ≡ length (flat_map h ys)
      → sum_by f (cond s (a ∷ xs) xs) ≡ length (flat_map h (cond t (a ∷ ys) ys))
  sum_step a xs ys false false us qs within part rest = rest
  sum_step a xs ys false true us qs within part rest = absurd (false≢true (sym us ∙ within qs))
  sum_step a xs ys true false us qs within part rest =
      let none : f a ≡ 0 = part us ∙ ap (λ (t : Bool). if t then length (h a) else 0) qs in
      omega (arith, none, rest, sum_by-cons f a xs)
  sum_step a xs ys true true us qs within part rest =
      let some : f a ≡ length (h a) = part us ∙ ap (λ (t : Bool). if t then length (h a) else 0) qs in
      omega (arith, some, rest, sum_by-cons f a xs, length-append (h a) (flat_map h ys))

  pub sum_is : (n a : ℕ) → ((m : ℕ) → a ≤ m → m < a + n → q m ≡ true → u m ≡ true) → ((m : ℕ) → a ≤ m → m < a + n → u m ≡ true → f m ≡ (if q m then length (h m) else 0))
      → sum_by f (filter u (range_with_len a n)) ≡ length (flat_map h (filter q (range_with_len a n)))
  sum_is zero a within part = refl
  sum_is (suc n) a within part =
      sum_step a (filter u (range_with_len (a + 1) n)) (filter q (range_with_len (a + 1) n)) (u a) (q a) refl refl (within a (omega arith) (omega arith)) (part a (omega arith) (omega arith))
      (sum_is n (a + 1) (λ m low high. within m (omega (arith, low)) (omega (arith, high))) (λ m low high. part m (omega (arith, low)) (omega (arith, high))))

-- ---- sums over the tree

module _ (g : Geometry) (image : List ℕ) (f : ℕ → Node → ℕ) where
  abbrev entry : ℕ → ℕ × Node
  entry n = (n, node_of g image (inode_of g image n))

  abbrev is_used : ℕ → Bool
  is_used n = not (is_free (inode_of g image n))

  below_step : (k a n : ℕ) (t : Bool) → k < a → fmap.find nat_cmp k (map entry (filter is_used (range_with_len (a + 1) n))) ≡ None
      → fmap.find nat_cmp k (map entry (cond t (a ∷ filter is_used (range_with_len (a + 1) n)) (filter is_used (range_with_len (a + 1) n)))) ≡ None
  below_step k a n false less rest = rest
  below_step k a n true less rest =
      ap (λ (t : Bool). cond t (Some (node_of g image (inode_of g image a))) (fmap.find nat_cmp k (map entry (filter is_used (range_with_len (a + 1) n))))) (other_key k a (λ e. omega (arith, e, less))) ∙ rest

  none_below : (n k a : ℕ) → k < a → fmap.find nat_cmp k (map entry (filter is_used (range_with_len a n))) ≡ None
  none_below zero k a less = refl
  none_below (suc n) k a less = below_step k a n (is_used a) less (none_below n k (a + 1) (omega (arith, less)))

  total_step : (a n : ℕ) (t : Bool) → total f (fmap.from_entries {R = nat_cmp} (map entry (filter is_used (range_with_len (a + 1) n)))) ≡ sum_by (λ m. f m (node_of g image (inode_of g image m))) (filter is_used (range_with_len (a + 1) n))
      → total f (fmap.from_entries {R = nat_cmp} (map entry (cond t (a ∷ filter is_used (range_with_len (a + 1) n)) (filter is_used (range_with_len (a + 1) n)))))
      ≡ sum_by (λ m. f m (node_of g image (inode_of g image m))) (cond t (a ∷ filter is_used (range_with_len (a + 1) n)) (filter is_used (range_with_len (a + 1) n)))
  total_step a n false rest = rest
  total_step a n true rest =
      let es : List (ℕ × Node) = map entry (filter is_used (range_with_len (a + 1) n)) in
      let none : at_or_0 (f a) (fmap.get (fmap.from_entries {R = nat_cmp} es) a) ≡ 0 = ap (at_or_0 (f a)) (fmap.get-from_entries nat_cmp_total es a ∙ none_below n a (a + 1) (omega arith)) in
      omega (arith, none, rest, total-insert nat_cmp_total nat_cmp-IsAntisymmetric f (fmap.from_entries es) a (node_of g image (inode_of g image a)), sum_by-cons (λ m. f m (node_of g image (inode_of g image m))) a (filter is_used (range_with_len (a + 1) n)))

  pub total_range : (n a : ℕ) → total f (fmap.from_entries {R = nat_cmp} (map entry (filter is_used (range_with_len a n)))) ≡ sum_by (λ m. f m (node_of g image (inode_of g image m))) (filter is_used (range_with_len a n))
  total_range zero a = total-empty nat_cmp f
  total_range (suc n) a = total_step a n (is_used a) (total_range n (a + 1))
