-- What is put in and taken out again leaves a map or a set as it was.
use Rattle.std.proofs.Common.{◌≡◌, Bool, true, false, cond, not, ◌&&◌, ◌||◌, Option, Some, None, sym, refl, ap, ◌∙◌}
use Rattle.std.specs.declared.cmp.Ordering.{Ordering}
use Rattle.std.specs.Ordering.{eq_by_cmp}
use Rattle.std.specs.Cmp.{IsTotalOrder, Equal-is}
use Rattle.std.specs.FinMap as map
use Rattle.std.specs.FinMap.{FinMap, IsAntisymmetric}
use Rattle.std.specs.FinSet as set
use Rattle.std.specs.FinSet.{FinSet}

twice : {A : Type 0} (b : Bool) (x y z : A) → (b ≡ true → x ≡ z) → cond b x (cond b y z) ≡ z
twice true x y z e = e refl
twice false x y z e = refl

kept : {A : Type 0} (b : Bool) (y z : A) → (b ≡ true → y ≡ z) → cond b y z ≡ z
kept true y z e = e refl
kept false y z e = refl

shadowed : {A : Type 0} (b : Bool) (x y z : A) → cond b x (cond b y z) ≡ cond b x z
shadowed true x y z = refl
shadowed false x y z = refl

out : (b c : Bool) → (b ≡ true → false ≡ c) → (not b && (b || c)) ≡ c
out true c e = e refl
out false c e = refl

known : (b c : Bool) → (b ≡ true → true ≡ c) → (b || c) ≡ c
known true c e = e refl
known false c e = refl

module _ {K X : Type 0} {R : K → K → Ordering} (o : IsTotalOrder R) (same : IsAntisymmetric R) where
  at_tied : (m : FinMap R X) (k q : K) (x : Option X) → map.get m k ≡ x → eq_by_cmp R q k ≡ true → x ≡ map.get m q
  at_tied m k q x e t = sym e ∙ map.get_tied o m q k ((Equal-is (R q k)).0 t)

  -- an entry that was not there
  pub remove-insert : (m : FinMap R X) (k : K) (v : X) → map.get m k ≡ None → map.remove (map.insert m k v) k ≡ m
  remove-insert m k v none =
      map.same_map o same _ _
      (λ q. map.get-remove o _ k q ∙ ap (cond (eq_by_cmp R q k) None) (map.get-insert o m k v q) ∙ twice (eq_by_cmp R q k) None (Some v) (map.get m q) (at_tied m k q None none))

  -- an entry that was there
  pub insert-remove : (m : FinMap R X) (k : K) (v : X) → map.get m k ≡ Some v → map.insert (map.remove m k) k v ≡ m
  insert-remove m k v there =
      map.same_map o same _ _
      (λ q. map.get-insert o _ k v q ∙ ap (cond (eq_by_cmp R q k) (Some v)) (map.get-remove o m k q) ∙ twice (eq_by_cmp R q k) (Some v) None (map.get m q) (at_tied m k q (Some v) there))

  -- to put in what is there changes nothing
  pub insert-known : (m : FinMap R X) (k : K) (v : X) → map.get m k ≡ Some v → map.insert m k v ≡ m
  insert-known m k v there =
      map.same_map o same _ _ (λ q. map.get-insert o m k v q ∙ kept (eq_by_cmp R q k) (Some v) (map.get m q) (at_tied m k q (Some v) there))

  -- to remove what is not there changes nothing
  pub remove-none : (m : FinMap R X) (k : K) → map.get m k ≡ None → map.remove m k ≡ m
  remove-none m k none =
      map.same_map o same _ _ (λ q. map.get-remove o m k q ∙ kept (eq_by_cmp R q k) None (map.get m q) (at_tied m k q None none))

  -- the later value stands
  pub insert-insert : (m : FinMap R X) (k : K) (v w : X) → map.insert (map.insert m k v) k w ≡ map.insert m k w
  insert-insert m k v w =
      map.same_map o same _ _
      (λ q. map.get-insert o _ k w q ∙ ap (cond (eq_by_cmp R q k) (Some w)) (map.get-insert o m k v q) ∙ shadowed (eq_by_cmp R q k) (Some w) (Some v) (map.get m q) ∙ sym (map.get-insert o m k w q))

module _ {K : Type 0} {R : K → K → Ordering} (o : IsTotalOrder R) (same : IsAntisymmetric R) where
  in_tied : (s : FinSet R) (k q : K) (b : Bool) → set.contains s k ≡ b → eq_by_cmp R q k ≡ true → b ≡ set.contains s q
  in_tied s k q b e t = sym e ∙ set.contains_tied o s q k ((Equal-is (R q k)).0 t)

  -- a member that was not there
  pub set_remove-insert : (s : FinSet R) (k : K) → set.contains s k ≡ false → set.remove (set.insert s k) k ≡ s
  set_remove-insert s k none =
      set.same_set o same _ _
      (λ q. set.contains-remove o _ k q ∙ ap (λ b. not (eq_by_cmp R q k) && b) (set.contains-insert o s k q) ∙ out (eq_by_cmp R q k) (set.contains s q) (in_tied s k q false none))

  -- to put in what is there changes nothing
  pub set_insert-known : (s : FinSet R) (k : K) → set.contains s k ≡ true → set.insert s k ≡ s
  set_insert-known s k there =
      set.same_set o same _ _ (λ q. set.contains-insert o s k q ∙ known (eq_by_cmp R q k) (set.contains s q) (in_tied s k q true there))
