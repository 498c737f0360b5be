-- Steps along `..`, so many at once.
use Rattle.std.proofs.Common.{◌≡◌, ◌≤◌, ◌<◌, ◌+◌, ◌==◌, ◌∷◌, [], ◌∙◌, ℕ, zero, suc, Bool, true, false, List, Result, Ok, Err, IfOk, ap, sym, refl, cond, map, get_or, slice_set, slice_index, length, arith}
use Rattle.std.proofs.Math.Path.{fun_ext}
use Rattle.std.proofs.lemmas.Grind.{common_steps}
use Rattle.std.proofs.lemmas.List.{length-map}
use Rattle.sv_check.specs.declared.sound.standings.Standing.{Standing}
use Rattle.sv_check.specs.Climbs.{climbed, step_up}
use Rattle.sv_check.specs.Standings.{unnamed}

pub if_ok_on : {X E : Type 0} {P Q : X → Type 0} (r : Result X E) → ((x : X) → P x → Q x) → IfOk r P → IfOk r Q
if_ok_on (Ok x) on p = on x p
if_ok_on (Err e) on p = tt

-- ---- tables

map_at : (f : ℕ → ℕ) → f 0 ≡ 0 → (xs : List ℕ) (n : ℕ) → slice_index (map f xs) n ≡ f (slice_index xs n)
map_at f none [] n = sym none
map_at f none (x ∷ xs) zero = refl
map_at f none (x ∷ xs) (suc n) = map_at f none xs n

pub table_after : (f : ℕ → ℕ) (xs ends : List ℕ) → f 0 ≡ 0 → ends ≡ map f xs → slice_index ends ≡ (λ n. f (slice_index xs n))
table_after f xs ends none is = ap slice_index is ∙ fun_ext (map_at f none xs)

above_at : (items : List Standing) (n : ℕ) → slice_index (map (λ (s : Standing). s.above) items) n ≡ (get_or items n unnamed).above
above_at [] n = refl
above_at (s ∷ ss) zero = refl
above_at (s ∷ ss) (suc n) = above_at ss n

root_set : (items : List Standing) (up : List ℕ) (n : ℕ) → up ≡ map (λ (s : Standing). s.above) items → 2 < length up → (t : Bool) → (n == 2) ≡ t
    → slice_index (slice_set up 2 2) n ≡ cond t 2 (get_or items n unnamed).above
root_set items up n is inside true two = grind (arith, common_steps, two)
root_set items up n is inside false other =
    let same : slice_index (slice_set up 2 2) n ≡ slice_index up n = grind (arith, common_steps, other) in
    same ∙ ap (λ (l : List ℕ). slice_index l n) is ∙ above_at items n

pub root_up : (items : List Standing) (up : List ℕ) (root : ℕ) → up ≡ map (λ (s : Standing). s.above) items → 3 ≤ length items → root ≡ 2
    → slice_index (slice_set up root 2) ≡ step_up (λ (n : ℕ). get_or items n unnamed)
root_up items up root is least two =
    let inside : 2 < length up = omega (arith, ap (λ (l : List ℕ). length l) is, length-map items (λ (s : Standing). s.above), least) in
    ap (λ (k : ℕ). slice_index (slice_set up k 2)) two ∙ fun_ext (λ n. root_set items up n is inside (n == 2) refl)

-- ---- steps

pub climbed-inner : (up : ℕ → ℕ) (k n : ℕ) → climbed up (suc k) n ≡ climbed up k (up n)
unfolding climbed
climbed-inner up zero n = refl
climbed-inner up (suc k) n = ap up (climbed-inner up k n)

climbed-twice : (up : ℕ → ℕ) (k m n : ℕ) → m ≡ k + k → climbed (λ x. up (up x)) k n ≡ climbed up m n
unfolding climbed
climbed-twice up zero m n e =
    let none : m ≡ 0 = omega (arith, e) in
    ap (λ (j : ℕ). climbed up j n) (sym none)
climbed-twice up (suc k) m n e =
    let two : m ≡ suc (suc (k + k)) = omega (arith, e) in
    ap (λ (x : ℕ). up (up x)) (climbed-twice up k (k + k) n refl) ∙ ap (λ (j : ℕ). climbed up j n) (sym two)

pub climbed_one : (up ends : List ℕ) (steps : ℕ) → steps ≡ 1 → ends ≡ up → slice_index ends ≡ climbed (slice_index up) steps
unfolding climbed
climbed_one up ends steps one is =
    let first : slice_index up ≡ climbed (slice_index up) 1 = refl in
    ap slice_index is ∙ first ∙ ap (λ (k : ℕ). climbed (slice_index up) k) (sym one)

module _ (up two twos even : List ℕ) (half steps : ℕ) (none : slice_index up 0 ≡ 0) (twice : two ≡ map (λ n. slice_index up n) up) (same : twos ≡ two)
    (is : slice_index even ≡ climbed (slice_index twos) half) where
  pub twice_none : slice_index twos 0 ≡ 0
  twice_none = ap (λ (l : List ℕ). slice_index l 0) same ∙ ap (λ (f : ℕ → ℕ). f 0) (table_after (slice_index up) up two none twice) ∙ ap (slice_index up) none ∙ none

  pub climbed_even : steps ≡ half + half → slice_index even ≡ climbed (slice_index up) steps
  climbed_even e =
      is ∙ ap (λ (f : ℕ → ℕ). climbed f half) (ap slice_index same ∙ table_after (slice_index up) up two none twice) ∙ fun_ext (λ n. climbed-twice (slice_index up) half steps n e)

  pub climbed_odd : (evens ends : List ℕ) → evens ≡ even → steps ≡ suc (half + half) → ends ≡ map (λ n. slice_index up n) evens → slice_index ends ≡ climbed (slice_index up) steps
  unfolding climbed
  climbed_odd evens ends whole e last =
      let before : slice_index even ≡ climbed (slice_index up) (half + half) =
      is ∙ ap (λ (f : ℕ → ℕ). climbed f half) (ap slice_index same ∙ table_after (slice_index up) up two none twice)
      ∙ fun_ext (λ n. climbed-twice (slice_index up) half (half + half) n refl) in
      let next : (λ (n : ℕ). slice_index up (climbed (slice_index up) (half + half) n)) ≡ climbed (slice_index up) (suc (half + half)) = refl in
      table_after (slice_index up) evens ends none last ∙ ap (λ (f : ℕ → ℕ). λ (n : ℕ). slice_index up (f n)) (ap slice_index whole ∙ before) ∙ next
      ∙ ap (λ (k : ℕ). climbed (slice_index up) k) (sym e)
