-- A way along `..` to the root of any length, and one of no more steps than there are numbers: on a shortest way each number
-- stands once. The numbers from which so many steps lead to the root are one more with each step, until no more come.
use Rattle.std.proofs.Common.{◌≡◌, ◌≤◌, ◌<◌, ◌+◌, ◌==◌, ◌||◌, ◌⊎◌, ◌∙◌, ℕ, zero, suc, Bool, true, false, Option, Some, None, inl, inr, ap}
use Rattle.std.proofs.Common.{refl, arith}
use Rattle.std.specs.List.{count_by, range_with_len}
use Rattle.std.proofs.lemmas.Bool.{cases_lt, eq-eqb, eqb-true}
use Rattle.sv_plain.specs.Names.{some_and}
use Rattle.sv_plain.proofs.Counts.{count_all, count_some}
use Rattle.sv_check.specs.Directories.{rises_to_root}
use Rattle.sv_check.proofs.BooleanTests.{or_true}
use Rattle.sv_files.proofs.CountedTests.{count_same}

module _ (up : ℕ → Option ℕ) where
  pub root_rises : (n d : ℕ) → d ≡ 2 → rises_to_root up n d ≡ true
  unfolding rises_to_root
  root_rises zero d two = eq-eqb d 2 two
  root_rises (suc n) d two = ap (λ (t : Bool). t || some_and (up d) (rises_to_root up n)) (eq-eqb d 2 two)

  pub step_rises : (n d p : ℕ) → up d ≡ Some p → rises_to_root up n p ≡ true → rises_to_root up (suc n) d ≡ true
  unfolding rises_to_root
  step_rises n d p is rest =
      ap (λ (o : Option ℕ). (d == 2) || some_and o (rises_to_root up n)) is ∙ ap (λ (t : Bool). (d == 2) || t) rest ∙ or_true (d == 2)

  -- the root, or a directory from whose `..` one step less leads there
  pub record HasStep (n d : ℕ) : Type 0 where
    pub parent : ℕ
    pub is : up d ≡ Some parent
    pub rest : rises_to_root up n parent ≡ true

  by_up : (n d : ℕ) (o : Option ℕ) → up d ≡ o → some_and o (rises_to_root up n) ≡ true → HasStep n d
  by_up n d None is e = let bad : ⊥ = cc e in absurd bad
  by_up n d (Some p) is e = record { parent = p; is = is; rest = e }

  by_root : (n d : ℕ) (t : Bool) → (d == 2) ≡ t → (t || some_and (up d) (rises_to_root up n)) ≡ true → (d ≡ 2) ⊎ HasStep n d
  by_root n d true is e = inl (eqb-true d 2 is)
  by_root n d false is e = inr (by_up n d (up d) refl e)

  first_step : (n d : ℕ) → rises_to_root up (suc n) d ≡ true → (d ≡ 2) ⊎ HasStep n d
  unfolding rises_to_root
  first_step n d e = by_root n d (d == 2) refl e

  no_step : (d : ℕ) → rises_to_root up zero d ≡ true → d ≡ 2
  unfolding rises_to_root
  no_step d e = eqb-true d 2 e

  pub longer : (n d : ℕ) → rises_to_root up n d ≡ true → rises_to_root up (suc n) d ≡ true
  longer zero d e = root_rises 1 d (no_step d e)
  longer (suc n) d e =
      elim (first_step n d e) [
        | inl two ↦ root_rises (suc (suc n)) d two
        | inr s ↦ step_rises (suc n) d s.parent s.is (longer n s.parent s.rest)
      ]

  module _ (top : ℕ) (two : 2 ≤ top) (none_above : (d : ℕ) → top < d → up d ≡ None) where
    abbrev many : ℕ → ℕ
    many j = count_by (rises_to_root up j) (range_with_len 0 (top + 1))

    -- j steps are enough from wherever any number of them is
    abbrev Suffices : ℕ → Type 0
    Suffices j = (n d : ℕ) → rises_to_root up n d ≡ true → rises_to_root up j d ≡ true

    within : (n d : ℕ) → HasStep n d → d ≤ top
    within n d s =
        elim (cases_lt top d) [
          | inl past ↦ (let bad : ⊥ = cc (none_above d past, s.is) in absurd bad)
          | inr low ↦ low
        ]

    -- where one step more leads to the root from no more numbers, no more steps ever do
    ends : (j : ℕ) → ((d : ℕ) → d ≤ top → rises_to_root up (suc j) d ≡ true → rises_to_root up j d ≡ true) → Suffices j
    ends j same zero d e = root_rises j d (no_step d e)
    ends j same (suc n) d e =
        elim (first_step n d e) [
          | inl is ↦ root_rises j d is
          | inr s ↦ same d (within n d s) (step_rises j d s.parent s.is (ends j same n s.parent s.rest))
        ]

    grows : (j : ℕ) → Suffices j ⊎ (j + 1 ≤ many j)
    grows zero = inr (count_some (rises_to_root up zero) 2 0 (top + 1) (omega arith) (omega (arith, two)) (root_rises zero 2 refl))
    grows (suc j) =
        elim (grows j) [
          | inl enough ↦ inl (λ n d e. longer j d (enough n d e))
          | inr some ↦ elim (cases_lt (many j) (many (suc j))) [
            | inl more ↦ inr (omega (arith, some, more))
            | inr few ↦
                inl (λ n d e. longer j d (ends j
                (λ x low so. count_same (rises_to_root up j) (rises_to_root up (suc j)) (longer j) (top + 1) 0 x few (omega arith)
                (omega (arith, low)) so) n d e))
          ]
        ]

    high_none : (n d : ℕ) → rises_to_root up n d ≡ true → d ≤ top
    high_none zero d e = let is = no_step d e in omega (arith, is, two)
    high_none (suc n) d e =
        elim (first_step n d e) [
          | inl is ↦ omega (arith, is, two)
          | inr s ↦ within n d s
        ]

    -- as many steps as the greatest number are enough
    pub rises_soon : (n d : ℕ) → rises_to_root up n d ≡ true → rises_to_root up top d ≡ true
    rises_soon n d e =
        elim (grows top) [
          | inl enough ↦ enough n d e
          | inr all ↦
              let full : count_by (λ (i : ℕ). true) (range_with_len 0 (top + 1)) ≡ top + 1 =
              count_all (λ (i : ℕ). true) 0 (top + 1) (λ i. refl) in
              let low : d ≤ top = high_none n d e in
              count_same (rises_to_root up top) (λ (i : ℕ). true) (λ i so. refl) (top + 1) 0 d (omega (arith, all, full)) (omega arith)
              (omega (arith, low)) refl
        ]
