-- A tree of entries, seen as a finite map: what the calls of the tree do to the map. For any total order of the keys in
-- which only equal keys tie.
use Rattle.std.proofs.Common.{◌≡◌, ◌+◌, Bool, true, false, cond, not, ◌&&◌, ◌||◌, List, [], ◌∷◌, length, Some, None, is_some, sym, refl, ap, ◌∙◌, arith}
use Rattle.std.specs.declared.cmp.Ordering.{Ordering}
use Rattle.std.specs.Ordering.{eq_by_cmp, is_eq}
use Rattle.std.specs.Cmp.{IsTotalOrder, eq_by_cmp_equiv}
use Rattle.std.specs.Map.{lookup, keys_of}
use Rattle.std.specs.List.Sorted.{IsStrictlySortedBy}
use Rattle.std.specs.List.{AllByRecursion, list_any}
use Rattle.std.specs.declared.cmp.Ordering.TheVariants.{Less}
use Rattle.std.specs.BTreeMap as tree
use Rattle.std.specs.BTreeMap.{BTreeMap, is_at}
use Rattle.std.specs.BTreeSet as bag
use Rattle.std.specs.BTreeSet.{BTreeSet}
use Rattle.std.specs.FinMap as map
use Rattle.std.specs.FinSet as set
use Rattle.std.specs.FinMap.{FinMap, IsAntisymmetric, find}

-- the tree, seen as a map
abbrev pub shown : {K X : Type 0} {R : K → K → Ordering} → BTreeMap K X → FinMap R X
shown m = map.from_entries m.entries

module _ {K X : Type 0} (R : K → K → Ordering) where
  find-lookup : (q : K) (es : List (K × X)) → find R q es ≡ lookup (is_at (R q)) es
  find-lookup q [] = refl
  find-lookup q (e ∷ es) = ap (cond (eq_by_cmp R q e.0) (Some e.1)) (find-lookup q es)

module _ {K X : Type 0} {R : K → K → Ordering} (o : IsTotalOrder R) where
  pub shown-get : (m : BTreeMap K X) (q : K) → map.get (shown {R = R} m) q ≡ tree.get R m q
  shown-get m q = map.get-from_entries o m.entries q ∙ find-lookup R q m.entries

  pub shown-insert : IsAntisymmetric R → (m n : BTreeMap K X) (k : K) (v : X) → tree.Updates R m n k (Some v) → shown {R = R} n ≡ map.insert (shown m) k v
  shown-insert same m n k v u =
      map.same_map o same _ _
      (λ q. shown-get n q ∙ u.0 q
      ∙ (λ i. cond ((eq_by_cmp_equiv o).symm k q i) (Some v) (sym (shown-get m q) i))
      ∙ sym (map.get-insert o (shown m) k v q))

  pub shown-remove : IsAntisymmetric R → (m n : BTreeMap K X) (k : K) → tree.Updates R m n k None → shown {R = R} n ≡ map.remove (shown m) k
  shown-remove same m n k u =
      map.same_map o same _ _
      (λ q. shown-get n q ∙ u.0 q
      ∙ (λ i. cond ((eq_by_cmp_equiv o).symm k q i) None (sym (shown-get m q) i))
      ∙ sym (map.get-remove o (shown m) k q))

  -- the first of strictly rising keys is none of the others
  pub not_after : (q : K) (es : List (K × X)) → AllByRecursion (λ y. R q y ≡ Less) (keys_of es) → find R q es ≡ None
  not_after q [] a = refl
  not_after q (e ∷ es) a = (λ i. cond (is_eq (a.0 i)) (Some e.1) (find R q es)) ∙ not_after q es a.1

  len_of_sorted : (es : List (K × X)) → IsStrictlySortedBy R (keys_of es) → map.len (map.from_entries {R = R} es) ≡ length es
  unfolding IsStrictlySortedBy
  len_of_sorted [] s = map.len-empty R X
  len_of_sorted (e ∷ es) s =
      let new : map.contains_key (map.from_entries {R = R} es) e.0 ≡ false = ap is_some (map.get-from_entries o es e.0 ∙ not_after e.0 es s.0) in
      map.len-insert o (map.from_entries es) e.0 e.1
      ∙ ap (λ b. cond b (map.len (map.from_entries {R = R} es)) (map.len (map.from_entries {R = R} es) + 1)) new
      ∙ (let rest : map.len (map.from_entries {R = R} es) ≡ length es = len_of_sorted es s.1 in omega (arith, rest))

  pub shown-len : (m : BTreeMap K X) → tree.IsOrdered R m → map.len (shown {R = R} m) ≡ tree.btree_map_len m
  shown-len m s = len_of_sorted m.entries s

-- ---- a tree of keys, seen as a finite set

cond-or : (b x : Bool) → cond b true x ≡ (b || x)
cond-or true x = refl
cond-or false x = refl

cond-and : (b x : Bool) → cond b false x ≡ (not b && x)
cond-and true x = refl
cond-and false x = refl

abbrev pub shown_set : {K : Type 0} {R : K → K → Ordering} → BTreeSet K → set.FinSet R
shown_set s = set.from_list s.keys

module _ {K : Type 0} {R : K → K → Ordering} (o : IsTotalOrder R) where
  pub shown_set-contains : (s : BTreeSet K) (q : K) → set.contains (shown_set {R = R} s) q ≡ bag.contains R s q
  shown_set-contains s q = set.contains-from_list o s.keys q

  pub shown_set-insert : IsAntisymmetric R → (s n : BTreeSet K) (k : K) → bag.Updates R s n k true → shown_set {R = R} n ≡ set.insert (shown_set s) k
  shown_set-insert same s n k u =
      set.same_set o same _ _
      (λ q. shown_set-contains n q ∙ u.0 q
      ∙ (λ i. cond ((eq_by_cmp_equiv o).symm k q i) true (sym (shown_set-contains s q) i))
      ∙ cond-or (eq_by_cmp R q k) _
      ∙ sym (set.contains-insert o (shown_set s) k q))

  pub shown_set-remove : IsAntisymmetric R → (s n : BTreeSet K) (k : K) → bag.Updates R s n k false → shown_set {R = R} n ≡ set.remove (shown_set s) k
  shown_set-remove same s n k u =
      set.same_set o same _ _
      (λ q. shown_set-contains n q ∙ u.0 q
      ∙ (λ i. cond ((eq_by_cmp_equiv o).symm k q i) false (sym (shown_set-contains s q) i))
      ∙ cond-and (eq_by_cmp R q k) _
      ∙ sym (set.contains-remove o (shown_set s) k q))

  none_tied : (q : K) (ks : List K) → AllByRecursion (λ y. R q y ≡ Less) ks → list_any (eq_by_cmp R q) ks ≡ false
  none_tied q [] a = refl
  none_tied q (k ∷ ks) a = (λ i. is_eq (a.0 i) || list_any (eq_by_cmp R q) ks) ∙ none_tied q ks a.1

  len_of_sorted_keys : (ks : List K) → IsStrictlySortedBy R ks → set.len (set.from_list {R = R} ks) ≡ length ks
  unfolding IsStrictlySortedBy
  len_of_sorted_keys [] s = set.len-empty R
  len_of_sorted_keys (k ∷ ks) s =
      let new : set.contains (set.from_list {R = R} ks) k ≡ false = set.contains-from_list o ks k ∙ none_tied k ks s.0 in
      set.len-insert o (set.from_list ks) k
      ∙ ap (λ b. cond b (set.len (set.from_list {R = R} ks)) (set.len (set.from_list {R = R} ks) + 1)) new
      ∙ (let rest : set.len (set.from_list {R = R} ks) ≡ length ks = len_of_sorted_keys ks s.1 in omega (arith, rest))

  pub shown_set-len : (s : BTreeSet K) → bag.IsOrdered R s → set.len (shown_set {R = R} s) ≡ bag.btree_set_len s
  shown_set-len s h = len_of_sorted_keys s.keys h

no_key : {K : Type 0} (ks : List K) → length ks ≡ 0 → ks ≡ []
no_key [] e = refl
no_key (k ∷ ks) e = absurd (omega (arith, e))

-- a tree without keys
pub shown_set-none : {K : Type 0} {R : K → K → Ordering} → IsTotalOrder R → (s : BTreeSet K) (q : K) → bag.btree_set_len s ≡ 0 → set.contains (shown_set {R = R} s) q ≡ false
shown_set-none {R = R} o s q none = shown_set-contains o s q ∙ ap (list_any (eq_by_cmp R q)) (no_key s.keys none)
