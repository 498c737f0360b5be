-- Tests that hold, or fail, at each number of a range.
use Rattle.std.proofs.Common.{◌≡◌, ◌≢◌, ◌≤◌, ◌<◌, ◌+◌, ◌==◌, ◌&&◌, ◌||◌, ◌++◌, ◌∷◌, [], ◌⊎◌, ◌∙◌, ℕ, zero, suc, Bool, not, true, false}
use Rattle.std.proofs.Common.{List, Some, None, inl, inr, ap, sym, refl, cond, map, filter, find, flat_map, arith}
use Rattle.std.specs.List.{list_all, list_any, range_with_len}
use Rattle.std.specs.Cmp.Lexicographic.{same_text, other_text}
use Rattle.std.proofs.lemmas.Bool.{cases_eq, false≢true}
use Rattle.sv_plain.specs.Names.{same_bytes}
use Rattle.sv_check.specs.Directories.{has_twins, name_in, named_by, names_in}
use Rattle.sv_check.proofs.BooleanTests.{or_true}

-- ---- nothing is found where each number that passes one test fails the other

module _ (p q : ℕ → Bool) where
  none_step : (a : ℕ) (t u : Bool) (rest : List ℕ) → p a ≡ u → (t ≡ true → u ≡ false) → find p rest ≡ None
      → find p (cond t (a ∷ rest) rest) ≡ None
  none_step a false u rest is fails none = none
  none_step a true u rest is fails none = ap (λ (b : Bool). cond b (Some a) (find p rest)) (is ∙ fails refl) ∙ none

  pub none_found : (n a : ℕ) → ((k : ℕ) → a ≤ k → k < a + n → q k ≡ true → p k ≡ false) → find p (filter q (range_with_len a n)) ≡ None
  none_found zero a fails = refl
  none_found (suc n) a fails =
      none_step a (q a) (p a) (filter q (range_with_len (a + 1) n)) refl (fails a (omega arith) (omega arith))
      (none_found n (a + 1) (λ k low high so. fails k (omega (arith, low)) (omega (arith, high)) so))

-- and where each number fails it
pub found_none : (p : ℕ → Bool) (n a : ℕ) → ((k : ℕ) → a ≤ k → k < a + n → p k ≡ false) → find p (range_with_len a n) ≡ None
found_none p zero a fails = refl
found_none p (suc n) a fails =
    ap (λ (t : Bool). cond t (Some a) (find p (range_with_len (a + 1) n))) (fails a (omega arith) (omega arith))
    ∙ found_none p n (a + 1) (λ k low high. fails k (omega (arith, low)) (omega (arith, high)))

-- ---- all pass

module _ {X : Type 0} (p : X → Bool) (f : ℕ → X) where
  pub all_pass : (n a : ℕ) → ((j : ℕ) → a ≤ j → j < a + n → p (f j) ≡ true) → list_all p (map f (range_with_len a n)) ≡ true
  all_pass zero a each = refl
  all_pass (suc n) a each =
      ap (λ (t : Bool). t && list_all p (map f (range_with_len (a + 1) n))) (each a (omega arith) (omega arith))
      ∙ all_pass n (a + 1) (λ j low high. each j (omega (arith, low)) (omega (arith, high)))

pub all_in : (p : ℕ → Bool) (n a : ℕ) → ((j : ℕ) → a ≤ j → j < a + n → p j ≡ true) → list_all p (range_with_len a n) ≡ true
all_in p zero a each = refl
all_in p (suc n) a each =
    ap (λ (t : Bool). t && list_all p (range_with_len (a + 1) n)) (each a (omega arith) (omega arith))
    ∙ all_in p n (a + 1) (λ j low high. each j (omega (arith, low)) (omega (arith, high)))

-- ---- names that differ

differ_by : (x y : List ℕ) → x ≢ y → (t : Bool) → same_bytes x y ≡ t → t ≡ false
differ_by x y ne false is = refl
differ_by x y ne true is = absurd (ne (same_text x y (sym is)))

pub differ : (x y : List ℕ) → x ≢ y → same_bytes x y ≡ false
differ x y ne = differ_by x y ne (same_bytes x y) refl

agree_by : (x y : List ℕ) → x ≡ y → (t : Bool) → same_bytes x y ≡ t → t ≡ true
agree_by x y e true is = refl
agree_by x y e false is = absurd (other_text x y (sym is) e)

pub agree : (x y : List ℕ) → x ≡ y → same_bytes x y ≡ true
agree x y e = agree_by x y e (same_bytes x y) refl

module _ (f : ℕ → List ℕ) where
  abbrev named : List ℕ → Bool
  named e = not (named_by e == 0)

  abbrev names_from : ℕ → ℕ → List (List ℕ)
  names_from a n = names_in (map f (range_with_len a n))

  some_number : (x : ℕ) → not (x == 0) ≡ true → x ≢ 0
  some_number x e = grind (arith, e)

  other_step : (x : List ℕ) (a : ℕ) (t : Bool) (rest : List (List ℕ)) → (t ≡ true → x ≢ name_in (f a))
      → list_any (same_bytes x) (map name_in rest) ≡ false
      → list_any (same_bytes x) (map name_in (cond t (f a ∷ rest) rest)) ≡ false
  other_step x a false rest other none = none
  other_step x a true rest other none =
      ap (λ (t : Bool). t || list_any (same_bytes x) (map name_in rest)) (differ x (name_in (f a)) (other refl)) ∙ none

  nowhere : (x : List ℕ) (n a : ℕ) → ((k : ℕ) → a ≤ k → k < a + n → named_by (f k) ≢ 0 → x ≢ name_in (f k))
      → list_any (same_bytes x) (names_from a n) ≡ false
  nowhere x zero a other = refl
  nowhere x (suc n) a other =
      other_step x a (named (f a)) (filter named (map f (range_with_len (a + 1) n)))
      (λ so. other a (omega arith) (omega arith) (some_number (named_by (f a)) so))
      (nowhere x n (a + 1) (λ k low high so. other k (omega (arith, low)) (omega (arith, high)) so))

  once_step : (a n : ℕ) (t : Bool) → (t ≡ true → list_any (same_bytes (name_in (f a))) (names_from (a + 1) n) ≡ false)
      → has_twins (names_from (a + 1) n) ≡ false
      → has_twins (map name_in (cond t (f a ∷ filter named (map f (range_with_len (a + 1) n)))
      (filter named (map f (range_with_len (a + 1) n))))) ≡ false
  once_step a n false first rest = rest
  once_step a n true first rest = ap (λ (t : Bool). t || has_twins (names_from (a + 1) n)) (first refl) ∙ rest

  -- no two are the same where each two with a number have names that differ
  pub no_two : (n a : ℕ) → ((j k : ℕ) → a ≤ j → j < k → k < a + n → named_by (f j) ≢ 0 → named_by (f k) ≢ 0 → name_in (f j) ≢ name_in (f k))
      → has_twins (names_from a n) ≡ false
  no_two zero a other = refl
  no_two (suc n) a other =
      once_step a n (named (f a))
      (λ so. nowhere (name_in (f a)) n (a + 1)
      (λ k low high to. other a k (omega arith) (omega (arith, low)) (omega (arith, high)) (some_number (named_by (f a)) so) to))
      (no_two n (a + 1) (λ j k low up high one two. other j k (omega (arith, low)) up (omega (arith, high)) one two))

-- ---- what passes in one of joined lists passes in the joined list

module _ {X : Type 0} (q : ℕ → Bool) (h : ℕ → List X) (test : X → Bool) where
  any_append : (xs ys : List X) → list_any test ys ≡ true → list_any test (xs ++ ys) ≡ true
  any_append [] ys e = e
  any_append (z ∷ xs) ys e = ap (λ (t : Bool). test z || t) (any_append xs ys e) ∙ or_true (test z)

  front_test : (t rest : Bool) (xs : List X) → (list_any test xs ≡ true → rest ≡ true) → (t || list_any test xs) ≡ true → (t || rest) ≡ true
  front_test true rest xs later e = refl
  front_test false rest xs later e = later e

  any_front : (xs ys : List X) → list_any test xs ≡ true → list_any test (xs ++ ys) ≡ true
  any_front [] ys e = let bad : ⊥ = cc e in absurd bad
  any_front (z ∷ xs) ys e = front_test (test z) (list_any test (xs ++ ys)) xs (λ more. any_front xs ys more) e

  any_step : (a k : ℕ) (t : Bool) (rest : List ℕ) → q a ≡ t → q k ≡ true → list_any test (h k) ≡ true
      → (a + 1 ≤ k → list_any test (flat_map h rest) ≡ true)
      → a ≤ k → (a ≡ k) ⊎ (a ≡ k → ⊥) → list_any test (flat_map h (cond t (a ∷ rest) rest)) ≡ true
  any_step a k false rest is so here later low (inl e) = absurd (false≢true (sym is ∙ ap q e ∙ so))
  any_step a k false rest is so here later low (inr other) = later (omega (arith, low, other))
  any_step a k true rest is so here later low (inl e) = any_front (h a) (flat_map h rest) (ap (λ (y : ℕ). list_any test (h y)) e ∙ here)
  any_step a k true rest is so here later low (inr other) = any_append (h a) (flat_map h rest) (later (omega (arith, low, other)))

  pub any_joined : (n a k : ℕ) → a ≤ k → k < a + n → q k ≡ true → list_any test (h k) ≡ true
      → list_any test (flat_map h (filter q (range_with_len a n))) ≡ true
  any_joined zero a k low high so here = absurd (omega (arith, low, high))
  any_joined (suc n) a k low high so here =
      any_step a k (q a) (filter q (range_with_len (a + 1) n)) refl so here
      (λ more. any_joined n (a + 1) k more (omega (arith, high)) so here) low (cases_eq a k)
