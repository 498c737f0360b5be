-- How many of a list pass a test, where the list is joined from parts, one for each number of a range that passes another.
use Rattle.std.proofs.Common.{◌≡◌, ◌≢◌, ◌≤◌, ◌<◌, ◌+◌, ◌++◌, ◌⊎◌, ◌||◌, ℕ, zero, suc, Bool, true, false, List, [], ◌∷◌, inl, inr, Option}
use Rattle.std.proofs.Common.{Some, None, map, filter, find, flat_map, cond, arith, ap, refl, subst, ◌∙◌}
use Rattle.std.specs.List.{AllByRecursion, list_any, range_with_len}
use Rattle.std.proofs.lemmas.Bool.{cases_eq, false≢true}
use Rattle.sv_super.specs.Count.{one_if}

abbrev pub hits : {X : Type 0} → (X → Bool) → List X → ℕ
hits t [] = 0
hits t (x ∷ xs) = one_if (t x) + hits t xs

pub hits-append : {X : Type 0} (t : X → Bool) (xs ys : List X) → hits t (xs ++ ys) ≡ hits t xs + hits t ys
hits-append t [] ys = omega arith
hits-append t (x ∷ xs) ys = let rest = hits-append t xs ys in omega (arith, rest)

pub hits-map : {X Y : Type 0} (t : Y → Bool) (f : X → Y) (xs : List X) → hits t (map f xs) ≡ hits (λ x. t (f x)) xs
hits-map t f [] = refl
hits-map t f (x ∷ xs) = ap (λ (k : ℕ). one_if (t (f x)) + k) (hits-map t f xs)

pub one-more : (t : Bool) (k : ℕ) → t ≡ true → one_if t + k ≡ suc k
one-more t k e = let one : one_if t ≡ 1 = ap one_if e in omega (arith, one)

pub none-more : (t : Bool) (k : ℕ) → t ≡ false → one_if t + k ≡ k
none-more t k e = let none : one_if t ≡ 0 = ap one_if e in omega (arith, none)

-- ---- a hit and an element

any_step : (t : Bool) (u : Bool) (k : ℕ) → (u ≡ true → 0 < k) → (t || u) ≡ true → 0 < one_if t + k
any_step true u k rest e = omega arith
any_step false u k rest e = let more = rest e in omega (arith, more)

pub any-hits : {X : Type 0} (t : X → Bool) (xs : List X) → list_any t xs ≡ true → 0 < hits t xs
any-hits t [] e = absurd (false≢true e)
any-hits t (x ∷ xs) e = any_step (t x) (list_any t xs) (hits t xs) (any-hits t xs) e

hits_step : (t u : Bool) (k : ℕ) → (0 < k → u ≡ true) → 0 < one_if t + k → (t || u) ≡ true
hits_step true u k rest e = refl
hits_step false u k rest e = rest (omega (arith, e))

pub hits-any : {X : Type 0} (t : X → Bool) (xs : List X) → 0 < hits t xs → list_any t xs ≡ true
hits-any t [] e = absurd (omega (arith, e))
hits-any t (x ∷ xs) e = hits_step (t x) (list_any t xs) (hits t xs) (hits-any t xs) e

-- what holds of each holds of one that was hit
pub record IsHit {X : Type 0} (t : X → Bool) (P : X → Type 0) : Type 0 where
  pub item : X
  pub passes : t item ≡ true
  pub holds : P item

hit_step : {X : Type 0} (t : X → Bool) (P : X → Type 0) (x : X) (k : ℕ) (u : Bool) → t x ≡ u → P x → (0 < k → IsHit t P)
    → 0 < one_if u + k → IsHit t P
hit_step t P x k true is here rest e = record { item = x; passes = is; holds = here }
hit_step t P x k false is here rest e = rest (omega (arith, e))

pub hit-one : {X : Type 0} (t : X → Bool) (P : X → Type 0) (xs : List X) → AllByRecursion P xs → 0 < hits t xs → IsHit t P
hit-one t P [] all e = absurd (omega (arith, e))
hit-one t P (x ∷ xs) all e = hit_step t P x (hits t xs) (t x) refl all.0 (hit-one t P xs all.1) e

found_step : {X : Type 0} (t : X → Bool) (P : X → Type 0) (x y : X) (u : Bool) (rest : Option X) → t x ≡ u → P x
    → (rest ≡ Some y → (t y ≡ true) × P y) → cond u (Some x) rest ≡ Some y → (t y ≡ true) × P y
found_step t P x y true rest is here later e = let same : x ≡ y = cc e in (subst (λ z. t z ≡ true) same is, subst P same here)
found_step t P x y false rest is here later e = later e

-- what was found passes, and what holds of each holds of it
pub found-one : {X : Type 0} (t : X → Bool) (P : X → Type 0) (xs : List X) (y : X) → AllByRecursion P xs → find t xs ≡ Some y
    → (t y ≡ true) × P y
found-one t P [] y all e = let no : ⊥ = cc e in absurd no
found-one t P (x ∷ xs) y all e = found_step t P x y (t x) (find t xs) refl all.0 (found-one t P xs y all.1) e

lost_step : {X : Type 0} (x : X) (k : ℕ) (u : Bool) (rest : Option X) → (rest ≡ None → k ≡ 0) → cond u (Some x) rest ≡ None
    → one_if u + k ≡ 0
lost_step x k true rest later e = let no : ⊥ = cc e in absurd no
lost_step x k false rest later e = let none = later e in omega (arith, none)

-- where nothing was found there is no hit
pub none-hit : {X : Type 0} (t : X → Bool) (xs : List X) → find t xs ≡ None → hits t xs ≡ 0
none-hit t [] e = refl
none-hit t (x ∷ xs) e = lost_step x (hits t xs) (t x) (find t xs) (none-hit t xs) e

-- ---- joined parts

module _ {X : Type 0} (t : X → Bool) (f : ℕ → List X) where
  joined : (a : ℕ) (F : List ℕ) → hits t (flat_map f (a ∷ F)) ≡ hits t (f a) + hits t (flat_map f F)
  joined a F = hits-append t (f a) (flat_map f F)

  one_step : (a k : ℕ) (F : List ℕ) (u : Bool) → (a ≡ k → u ≡ true) → (a ≢ k → hits t (f k) ≤ hits t (flat_map f F)) → (a ≡ k) ⊎ (a ≢ k)
      → hits t (f k) ≤ hits t (flat_map f (cond u (a ∷ F) F))
  one_step a k F true here rest (inl e) =
      let same : hits t (f a) ≡ hits t (f k) = ap (λ (x : ℕ). hits t (f x)) e in omega (arith, same, joined a F)
  one_step a k F false here rest (inl e) = absurd (false≢true (here e))
  one_step a k F true here rest (inr ne) = let more = rest ne in omega (arith, more, joined a F)
  one_step a k F false here rest (inr ne) = rest ne

  -- one part's hits are among all
  pub one-of : (s : ℕ → Bool) (m a k : ℕ) → a ≤ k → k < a + m → s k ≡ true
      → hits t (f k) ≤ hits t (flat_map f (filter s (range_with_len a m)))
  one-of s zero a k low high is = absurd (omega (arith, low, high))
  one-of s (suc m) a k low high is =
      one_step a k (filter s (range_with_len (a + 1) m)) (s a) (λ e. ap s e ∙ is)
      (λ ne. one-of s m (a + 1) k (omega (arith, low, ne)) (omega (arith, high)) is) (cases_eq a k)

  two_step : (a k j : ℕ) (F : List ℕ) (u : Bool) → (a ≡ k → u ≡ true) → (a ≡ k → hits t (f j) ≤ hits t (flat_map f F))
      → (a ≢ k → hits t (f k) + hits t (f j) ≤ hits t (flat_map f F))
      → (a ≡ k) ⊎ (a ≢ k) → hits t (f k) + hits t (f j) ≤ hits t (flat_map f (cond u (a ∷ F) F))
  two_step a k j F true here one rest (inl e) =
      let same : hits t (f a) ≡ hits t (f k) = ap (λ (x : ℕ). hits t (f x)) e in
      let more = one e in
      omega (arith, same, more, joined a F)
  two_step a k j F false here one rest (inl e) = absurd (false≢true (here e))
  two_step a k j F true here one rest (inr ne) = let more = rest ne in omega (arith, more, joined a F)
  two_step a k j F false here one rest (inr ne) = rest ne

  -- those of two parts are too
  pub two-of : (s : ℕ → Bool) (m a k j : ℕ) → a ≤ k → k < j → j < a + m → s k ≡ true → s j ≡ true
      → hits t (f k) + hits t (f j) ≤ hits t (flat_map f (filter s (range_with_len a m)))
  two-of s zero a k j low less high is also = absurd (omega (arith, low, less, high))
  two-of s (suc m) a k j low less high is also =
      two_step a k j (filter s (range_with_len (a + 1) m)) (s a) (λ e. ap s e ∙ is)
      (λ e. one-of s m (a + 1) j (omega (arith, e, less)) (omega (arith, high)) also)
      (λ ne. two-of s m (a + 1) k j (omega (arith, low, ne)) less (omega (arith, high)) is also) (cases_eq a k)

  -- a hit is in a part
  pub record IsPart (s : ℕ → Bool) (m a : ℕ) : Type 0 where
    pub part : ℕ
    pub low : a ≤ part
    pub high : part < a + m
    pub passes : s part ≡ true
    pub some : 0 < hits t (f part)

  later_part : (s : ℕ → Bool) (m a : ℕ) → IsPart s m (a + 1) → IsPart s (suc m) a
  later_part s m a p =
      record {
        part = p.part;
        low = (let low = p.low in omega (arith, low));
        high = (let high = p.high in omega (arith, high));
        passes = p.passes;
        some = p.some;
      }

  some_step : (s : ℕ → Bool) (m a : ℕ) (F : List ℕ) (u : Bool) → s a ≡ u → (0 < hits t (flat_map f F) → IsPart s m (a + 1))
      → (hits t (f a) ≡ 0) ⊎ (hits t (f a) ≢ 0) → 0 < hits t (flat_map f (cond u (a ∷ F) F)) → IsPart s (suc m) a
  some_step s m a F true is rest (inl none) e = later_part s m a (rest (omega (arith, none, e, joined a F)))
  some_step s m a F true is rest (inr some) e =
      record { part = a; low = omega arith; high = omega arith; passes = is; some = omega (arith, some) }
  some_step s m a F false is rest c e = later_part s m a (rest e)

  pub some-of : (s : ℕ → Bool) (m a : ℕ) → 0 < hits t (flat_map f (filter s (range_with_len a m))) → IsPart s m a
  some-of s zero a e = absurd (omega (arith, e))
  some-of s (suc m) a e =
      some_step s m a (filter s (range_with_len (a + 1) m)) (s a) refl (some-of s m (a + 1)) (cases_eq (hits t (f a)) 0) e

-- what holds of all parts holds of the whole
module _ {X : Type 0} (P : X → Type 0) where
  pub both-all : (xs ys : List X) → AllByRecursion P xs → AllByRecursion P ys → AllByRecursion P (xs ++ ys)
  both-all [] ys one two = two
  both-all (x ∷ xs) ys one two = (one.0, both-all xs ys one.1 two)

  all_step : (f : ℕ → List X) (a : ℕ) (F : List ℕ) (u : Bool) → (u ≡ true → AllByRecursion P (f a)) → AllByRecursion P (flat_map f F)
      → AllByRecursion P (flat_map f (cond u (a ∷ F) F))
  all_step f a F true here rest = both-all (f a) (flat_map f F) (here refl) rest
  all_step f a F false here rest = rest

  pub all-of : (f : ℕ → List X) (s : ℕ → Bool) (m a : ℕ) → ((k : ℕ) → a ≤ k → k < a + m → s k ≡ true → AllByRecursion P (f k))
      → AllByRecursion P (flat_map f (filter s (range_with_len a m)))
  all-of f s zero a each = tt
  all-of f s (suc m) a each =
      all_step f a (filter s (range_with_len (a + 1) m)) (s a) (λ is. each a (omega arith) (omega arith) is)
      (all-of f s m (a + 1) (λ k low high is. each k (omega (arith, low)) (omega (arith, high)) is))

-- ---- what is found in a range

module _ (p s : ℕ → Bool) where
  only_step : (a n : ℕ) (F : List ℕ) (u v : Bool) → s a ≡ u → p a ≡ v → (u ≡ true → v ≡ true → a ≡ n) → (a ≡ n → (u ≡ true) × (v ≡ true))
      → (a ≢ n → find p F ≡ Some n) → (a ≡ n) ⊎ (a ≢ n)
      → find p (cond u (a ∷ F) F) ≡ Some n
  only_step a n F true true is so same here rest c =
      ap (λ (t : Bool). cond t (Some a) (find p F)) so ∙ ap (λ (x : ℕ). Some x) (same refl refl)
  only_step a n F true false is so same here rest (inl e) = absurd (false≢true (here e).1)
  only_step a n F true false is so same here rest (inr ne) = ap (λ (t : Bool). cond t (Some a) (find p F)) so ∙ rest ne
  only_step a n F false v is so same here rest (inl e) = absurd (false≢true (here e).0)
  only_step a n F false v is so same here rest (inr ne) = rest ne

  -- the only one that passes is found
  pub find-only : (m a n : ℕ) → a ≤ n → n < a + m → s n ≡ true → p n ≡ true
      → ((k : ℕ) → a ≤ k → k < a + m → s k ≡ true → p k ≡ true → k ≡ n) → find p (filter s (range_with_len a m)) ≡ Some n
  find-only zero a n low high is so only = absurd (omega (arith, low, high))
  find-only (suc m) a n low high is so only =
      only_step a n (filter s (range_with_len (a + 1) m)) (s a) (p a) refl refl (λ u v. only a (omega arith) (omega arith) u v)
      (λ e. (ap s e ∙ is, ap p e ∙ so))
      (λ ne. find-only m (a + 1) n (omega (arith, low, ne)) (omega (arith, high)) is so
      (λ k below above u v. only k (omega (arith, below)) (omega (arith, above)) u v)) (cases_eq a n)

  never_step : (a : ℕ) (F : List ℕ) (u : Bool) → (u ≡ true → p a ≡ false) → find p F ≡ None → find p (cond u (a ∷ F) F) ≡ None
  never_step a F true here rest = ap (λ (t : Bool). cond t (Some a) (find p F)) (here refl) ∙ rest
  never_step a F false here rest = rest

  -- where none passes, none is found
  pub find-never : (m a : ℕ) → ((k : ℕ) → a ≤ k → k < a + m → s k ≡ true → p k ≡ false) → find p (filter s (range_with_len a m)) ≡ None
  find-never zero a each = refl
  find-never (suc m) a each =
      never_step a (filter s (range_with_len (a + 1) m)) (s a) (λ is. each a (omega arith) (omega arith) is)
      (find-never m (a + 1) (λ k low high is. each k (omega (arith, low)) (omega (arith, high)) is))
