-- The rule of the crate's test, and the smallest example of one: a view is a weight and a count, and the state is all counts added up.
use Rattle.std.specs.Prelude.{◌≡◌, ℕ, ◌+◌, ◌<◌, List, ◌∷◌, sum_by}
use Rattle.std.specs.List.Sorted.{IsPermutation}
use Rattle.std.proofs.Common.{◌∙◌, sym, arith}
use Rattle.std.proofs.lemmas.List.Sorted.{sum_by-IsPermutation}
use Rattle.std.proofs.lemmas.List.Sums.{sum_by-cons}
use Rattle.sv_turn.specs.declared.pass.Pass.{Pass}
use Rattle.sv_turn.specs.declared.turn.Turn.{Turn}
use Rattle.sv_turn.specs.Passes.{pass_view, IsOut, IsPassOf, turn_events}

abbrev pub Share : Type 0
Share = ℕ × ℕ

abbrev pub count : Share → ℕ
count v = v.1

abbrev pub IsCounted : ℕ → List Share → Type 0
IsCounted n shares = n ≡ sum_by count shares

-- both numbers are divided, and each part has a weight
abbrev pub IsCut : Share → Share → Share → Type 0
IsCut v a b = (v.0 ≡ a.0 + b.0) × (v.1 ≡ a.1 + b.1) × (0 < a.0) × (0 < b.0)

pub in_any_order : (n : ℕ) (xs ys : List Share) → IsPermutation xs ys → IsCounted n xs → IsCounted n ys
in_any_order n xs ys same counted = counted ∙ sym (sum_by-IsPermutation count xs ys same)

pub with_blank : (n : ℕ) (xs : List Share) → IsCounted n xs → IsCounted n ((0, 0) ∷ xs)
with_blank n xs counted = omega (arith, sum_by-cons count (0, 0) xs)

pub without_blank : (n : ℕ) (xs : List Share) → IsCounted n ((0, 0) ∷ xs) → IsCounted n xs
without_blank n xs counted = omega (arith, sum_by-cons count (0, 0) xs)

pub in_two : (n : ℕ) (v a b : Share) (xs : List Share) → IsCut v a b → IsCounted n (v ∷ xs) → IsCounted n (a ∷ b ∷ xs)
in_two n v a b xs cut counted = omega (arith, sum_by-cons count v xs, sum_by-cons count a (b ∷ xs), sum_by-cons count b xs)

pub in_one : (n : ℕ) (v a b : Share) (xs : List Share) → IsCut v a b → IsCounted n (a ∷ b ∷ xs) → IsCounted n (v ∷ xs)
in_one n v a b xs cut counted = omega (arith, sum_by-cons count v xs, sum_by-cons count a (b ∷ xs), sum_by-cons count b xs)

pub weighs_both : (v a b : Share) → IsCut v a b → (v.0 ≡ a.0 + b.0) × (0 < a.0) × (0 < b.0)
weighs_both v a b cut = (cut.0, cut.2, cut.3)

-- it is a pass of this turn, which has an event to sleep on; it is out, and stands for this share
abbrev pub Has : {R S : Type 0} → Turn R S Share → Pass R S Share → Share → Type 0
Has t p share = IsPassOf t p × IsOut p × (pass_view p ≡ share) × (0 < turn_events t)
