-- How often a block stands in joined lists, one for each number of a range that passes a test.
use Rattle.std.proofs.Common.{◌≡◌, ◌≤◌, ◌<◌, ◌+◌, ◌++◌, ◌∷◌, ◌∙◌, ℕ, zero, suc, Bool, true, false, List, inl, inr, ap, refl, cond, map}
use Rattle.std.proofs.Common.{filter, flat_map, arith}
use Rattle.std.specs.List.{range_with_len}
use Rattle.std.proofs.lemmas.Bool.{cases_lt}
use Rattle.std.proofs.lemmas.List.{map-append}
use Rattle.sv_super.specs.Count.{times}
use Rattle.sv_super.proofs.Counts.{times-append, times-nil}

module _ {X : Type 0} (block : X → ℕ) (c : ℕ) where
  -- how often the block is that of an element
  abbrev pub met : List X → ℕ
  met xs = times c (map block xs)

  pub met-append : (xs ys : List X) → met (xs ++ ys) ≡ met xs + met ys
  met-append xs ys = ap (times c) (map-append block xs ys) ∙ times-append c (map block xs) (map block ys)

  module _ (q : ℕ → Bool) (f : ℕ → List X) where
    -- one of the lists has it
    pub record IsIn (a n : ℕ) : Type 0 where
      pub at : ℕ
      pub low : a ≤ at
      pub high : at < a + n
      pub so : q at ≡ true
      pub some : 0 < met (f at)

    in_wider : (a n : ℕ) → IsIn (a + 1) n → IsIn a (suc n)
    in_wider a n i =
        record {
          at = i.at;
          low = (let low = i.low in omega (arith, low));
          high = (let high = i.high in omega (arith, high));
          so = i.so;
          some = i.some;
        }

    in_first : (a n : ℕ) (rest : List ℕ) → q a ≡ true → 0 < met (flat_map f (a ∷ rest)) → (0 < met (flat_map f rest) → IsIn (a + 1) n)
        → IsIn a (suc n)
    in_first a n rest so some later =
        elim (cases_lt 0 (met (f a))) [
          | inl here ↦ record { at = a; low = omega arith; high = omega arith; so = so; some = here }
          | inr none ↦ in_wider a n (later (omega (arith, some, none, met-append (f a) (flat_map f rest))))
        ]

    in_step : (a n : ℕ) (t : Bool) (rest : List ℕ) → q a ≡ t → 0 < met (flat_map f (cond t (a ∷ rest) rest))
        → (0 < met (flat_map f rest) → IsIn (a + 1) n) → IsIn a (suc n)
    in_step a n false rest is some later = in_wider a n (later some)
    in_step a n true rest is some later = in_first a n rest is some later

    pub one_in : (n a : ℕ) → 0 < met (flat_map f (filter q (range_with_len a n))) → IsIn a n
    one_in zero a some = absurd (omega (arith, some, times-nil c))
    one_in (suc n) a some = in_step a n (q a) (filter q (range_with_len (a + 1) n)) refl some (one_in n (a + 1))

    few_step : (a n : ℕ) (t : Bool) → q a ≡ t → ((k : ℕ) → a ≤ k → k < a + suc n → q k ≡ true → met (f k) ≤ 1)
        → ((j k : ℕ) → a ≤ j → j < a + suc n → a ≤ k → k < a + suc n → q j ≡ true → q k ≡ true → 0 < met (f j) → 0 < met (f k) → j ≡ k)
        → met (flat_map f (filter q (range_with_len (a + 1) n))) ≤ 1
        → met (flat_map f (cond t (a ∷ filter q (range_with_len (a + 1) n)) (filter q (range_with_len (a + 1) n)))) ≤ 1
    few_step a n false is each once rest = rest
    few_step a n true is each once rest =
        let first = each a (omega arith) (omega arith) is in
        let all = met-append (f a) (flat_map f (filter q (range_with_len (a + 1) n))) in
        elim (cases_lt 0 (met (f a))) [
          | inr none ↦ omega (arith, none, rest, all)
          | inl here ↦ elim (cases_lt 0 (met (flat_map f (filter q (range_with_len (a + 1) n))))) [
            | inr none ↦ omega (arith, none, first, all)
            | inl there ↦
                let i = one_in n (a + 1) there in
                let low = i.low in
                let high = i.high in
                let same : a ≡ i.at =
                once a i.at (omega arith) (omega arith) (omega (arith, low)) (omega (arith, high)) is i.so here i.some in
                absurd (omega (arith, same, low))
          ]
        ]

    -- it stands in the joined list once where each list has it once and no two have it
    pub few_in : (n a : ℕ) → ((k : ℕ) → a ≤ k → k < a + n → q k ≡ true → met (f k) ≤ 1)
        → ((j k : ℕ) → a ≤ j → j < a + n → a ≤ k → k < a + n → q j ≡ true → q k ≡ true → 0 < met (f j) → 0 < met (f k) → j ≡ k)
        → met (flat_map f (filter q (range_with_len a n))) ≤ 1
    few_in zero a each once = omega (arith, times-nil c)
    few_in (suc n) a each once =
        few_step a n (q a) refl each once
        (few_in n (a + 1) (λ k low high so. each k (omega (arith, low)) (omega (arith, high)) so)
        (λ j k jl jh kl kh jq kq js ks. once j k (omega (arith, jl)) (omega (arith, jh)) (omega (arith, kl))
        (omega (arith, kh)) jq kq js ks))
