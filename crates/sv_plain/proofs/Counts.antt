-- Counts over a range of numbers, and over the keys of a map.
use Rattle.std.proofs.Common.{◌≡◌, ◌≢◌, ◌≤◌, ◌<◌, ℕ, zero, suc, ◌+◌, ◌==◌, Bool, true, false, cond, not, ◌&&◌, T, List, [], ◌∷◌, length, Option, Some, None, is_some, refl, ap, ◌∙◌, arith, eqb, inl, inr}
use Rattle.std.specs.List.{count_by, range_with_len}
use Rattle.std.proofs.lemmas.List.Sums.{sum_by-cons}
use Rattle.std.proofs.lemmas.Bool.{cases_eq, eq-eqb, eqb-true}
use Rattle.std.specs.declared.cmp.Ordering.{Ordering}
use Rattle.std.specs.declared.cmp.Ordering.TheVariants.{Less, Equal, Greater}
use Rattle.std.specs.Ordering.{nat_cmp, eq_by_cmp, is_eq, is_lt}
use Rattle.std.specs.Cmp.{nat_cmp_total, tied_itself, Equal-is}
use Rattle.std.specs.FinMap.Entries.{below_all}
use Rattle.std.specs.FinMap as map
use Rattle.std.specs.FinMap.{FinMap, find, is_sorted, nat_cmp-IsAntisymmetric}
use Rattle.sv_plain.specs.Totals.{one_if}

pub count-cons : (p : ℕ → Bool) (x : ℕ) (xs : List ℕ) → count_by p (x ∷ xs) ≡ one_if (p x) + count_by p xs
count-cons p x xs = sum_by-cons (λ y. cond (p y) 1 0) x xs

-- two tests that agree on a range count alike there
pub count_alike : (p q : ℕ → Bool) (a n : ℕ) → ((i : ℕ) → a ≤ i → i < a + n → p i ≡ q i) → count_by p (range_with_len a n) ≡ count_by q (range_with_len a n)
count_alike p q a zero h = refl
count_alike p q a (suc n) h =
    let here : one_if (p a) ≡ one_if (q a) = ap one_if (h a (omega arith) (omega arith)) in
    let rest : count_by p (range_with_len (a + 1) n) ≡ count_by q (range_with_len (a + 1) n) =
    count_alike p q (a + 1) n (λ i low high. h i (omega arith) (omega arith)) in
    omega (arith, here, rest, count-cons p a (range_with_len (a + 1) n), count-cons q a (range_with_len (a + 1) n))

-- two tests that differ at one place of a range at most
pub count_changed : (p q : ℕ → Bool) (x a n : ℕ) → a ≤ x → x < a + n → ((i : ℕ) → i ≢ x → p i ≡ q i)
    → count_by p (range_with_len a n) + one_if (q x) ≡ count_by q (range_with_len a n) + one_if (p x)
count_changed p q x a zero low high h = absurd (omega arith)
count_changed p q x a (suc n) low high h =
    let first = count-cons p a (range_with_len (a + 1) n) in
    let second = count-cons q a (range_with_len (a + 1) n) in
    elim (cases_eq a x) [
      | inl e ↦
          let rest : count_by p (range_with_len (a + 1) n) ≡ count_by q (range_with_len (a + 1) n) =
          count_alike p q (a + 1) n (λ i lower _. h i (λ same. absurd (omega arith))) in
          let p_here : one_if (p a) ≡ one_if (p x) = ap (λ i. one_if (p i)) e in
          let q_here : one_if (q a) ≡ one_if (q x) = ap (λ i. one_if (q i)) e in
          omega (arith, rest, first, second, p_here, q_here)
      | inr ne ↦
          let here : one_if (p a) ≡ one_if (q a) = ap one_if (h a ne) in
          let rest = count_changed p q x (a + 1) n (omega arith) (omega arith) h in
          omega (arith, rest, first, second, here)
    ]

-- a test that holds nowhere on the range, and one that holds everywhere
pub count_none : (p : ℕ → Bool) (a n : ℕ) → ((i : ℕ) → p i ≡ false) → count_by p (range_with_len a n) ≡ 0
count_none p a zero h = refl
count_none p a (suc n) h =
    let here : one_if (p a) ≡ 0 = ap one_if (h a) in
    omega (arith, here, count_none p (a + 1) n h, count-cons p a (range_with_len (a + 1) n))

pub count_all : (p : ℕ → Bool) (a n : ℕ) → ((i : ℕ) → p i ≡ true) → count_by p (range_with_len a n) ≡ n
count_all p a zero h = refl
count_all p a (suc n) h =
    let here : one_if (p a) ≡ 1 = ap one_if (h a) in
    omega (arith, here, count_all p (a + 1) n h, count-cons p a (range_with_len (a + 1) n))

-- ---- the numbers of a range that are no keys of a map

pub left : (a b : Bool) → T (a && b) → T a
left true b p = tt
left false b p = p

pub right : (a b : Bool) → T (a && b) → T b
right true b p = p
right false b p = absurd p

not_tied : (r : Ordering) → T (is_lt r) → is_eq r ≡ false
not_tied Less p = refl
not_tied Equal p = absurd p
not_tied Greater p = absurd p

pub none_after : {X : Type 0} (k : ℕ) (es : List (ℕ × X)) → T (below_all nat_cmp k es) → find nat_cmp k es ≡ None
none_after k [] h = refl
none_after k (e ∷ es) h = ap (λ b. cond b (Some e.1) (find nat_cmp k es)) (not_tied (nat_cmp k e.0) (left _ _ h)) ∙ none_after k es (right _ _ h)

still : {X : Type 0} (b : Bool) (x : X) (o : Option X) → is_some o ≡ true → is_some (cond b (Some x) o) ≡ true
still true x o e = refl
still false x o e = e

pub differs : (i j : ℕ) → i ≢ j → eq_by_cmp nat_cmp i j ≡ false
differs i j ne =
    elim (eq_by_cmp nat_cmp i j) as (λ b. eq_by_cmp nat_cmp i j ≡ b → b ≡ false) [
      | true ↦ λ e. absurd (ne (nat_cmp-IsAntisymmetric i j ((Equal-is (nat_cmp i j)).0 e)))
      | false ↦ λ _. refl
    ] refl

pub same_key : (i : ℕ) → eq_by_cmp nat_cmp i i ≡ true
same_key i = ap is_eq (tied_itself nat_cmp_total i)

module _ {X : Type 0} where
  missing : (a n : ℕ) (es : List (ℕ × X)) → T (is_sorted nat_cmp es)
      → ((i : ℕ) → is_some (find nat_cmp i es) ≡ true → (a ≤ i) × (i < a + n))
      → count_by (λ i. not (is_some (find nat_cmp i es))) (range_with_len a n) + length es ≡ n
  missing a n [] s within = omega (arith, count_all (λ (i : ℕ). not (is_some (find {X = X} nat_cmp i []))) a n (λ i. refl))
  missing a n (e ∷ es) s within =
      let p : ℕ → Bool = λ i. not (is_some (find nat_cmp i (e ∷ es))) in
      let q : ℕ → Bool = λ i. not (is_some (find nat_cmp i es)) in
      let here : is_some (find nat_cmp e.0 (e ∷ es)) ≡ true = ap (λ b. is_some (cond b (Some e.1) (find nat_cmp e.0 es))) (same_key e.0) in
      let p_here : p e.0 ≡ false = ap not here in
      let q_here : q e.0 ≡ true = ap (λ o. not (is_some o)) (none_after e.0 es (left _ _ s)) in
      let apart : (i : ℕ) → i ≢ e.0 → p i ≡ q i = λ i ne. ap (λ b. not (is_some (cond b (Some e.1) (find nat_cmp i es)))) (differs i e.0 ne) in
      let bounds = within e.0 here in
      let changed = count_changed p q e.0 a n bounds.0 bounds.1 apart in
      let rest = missing a n es (right _ _ s) (λ i some. within i (still (eq_by_cmp nat_cmp i e.0) e.1 (find nat_cmp i es) some)) in
      let p_none : one_if (p e.0) ≡ 0 = ap one_if p_here in
      let q_one : one_if (q e.0) ≡ 1 = ap one_if q_here in
      omega (arith, changed, rest, p_none, q_one)

  -- of the n numbers from a on, those that are no keys and the keys add up to n
  pub count_missing : (a n : ℕ) (m : FinMap nat_cmp X) → ((i : ℕ) → map.contains_key m i ≡ true → (a ≤ i) × (i < a + n))
      → count_by (λ i. not (map.contains_key m i)) (range_with_len a n) + map.len m ≡ n
  count_missing a n m within =
      let found : (i : ℕ) → map.contains_key m i ≡ is_some (find nat_cmp i (map.entries m)) = λ i. ap is_some (map.get-entries m i) in
      (λ i. count_by (λ k. not (found k i)) (range_with_len a n) + map.len-entries m i)
      ∙ missing a n (map.entries m) (map.entries_sorted m) (λ i some. within i (found i ∙ some))

pub never : (b : Bool) → (b && false) ≡ false
never true = refl
never false = refl

always : (b : Bool) → b ≡ (b && true)
always true = refl
always false = refl

keeps : (b : Bool) (i x : ℕ) → i ≢ x → b ≡ (b && not (i == x))
keeps b i x ne =
    elim (eqb i x) as (λ e. eqb i x ≡ e → b ≡ (b && not e)) [ true ↦ λ e. absurd (ne (eqb-true i x e)) | false ↦ λ _. always b ] refl

-- a test that holds somewhere on a range
pub count_some : (p : ℕ → Bool) (x a n : ℕ) → a ≤ x → x < a + n → p x ≡ true → 1 ≤ count_by p (range_with_len a n)
count_some p x a n low high holds =
    let q : ℕ → Bool = λ i. p i && not (i == x) in
    let here : one_if (p x) ≡ 1 = ap one_if holds in
    let gone : one_if (q x) ≡ 0 = ap (λ b. one_if (p x && not b)) (eq-eqb x x refl) ∙ ap one_if (never (p x)) in
    omega (arith, count_changed p q x a n low high (λ i ne. keeps (p i) i x ne), here, gone)
