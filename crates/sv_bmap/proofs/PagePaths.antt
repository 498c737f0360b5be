-- Each page has a path, and no other page has it.
use Rattle.std.proofs.Common.{◌≡◌, ◌+◌, ◌-◌, ◌*◌, ◌/◌, ◌%◌, ◌<◌, ◌≤◌, ℕ, Bool, true, false, nat_lt, arith, refl, ◌∙◌, ap}
use Rattle.std.proofs.lemmas.Bool.Decides.{nat_tests}
use Rattle.std.proofs.lemmas.Nat.{div_below}
use Rattle.std.proofs.Math.Nat.{mul-le-mul_right}
use Rattle.sv_form.specs.PagePath.{IsPath, IsPage, page_of, block_numbers, first_single, first_double, first_triple, page_limit}
use Rattle.sv_form.specs.declared.geometry.Geometry.{Geometry}
use Rattle.sv_form.specs.declared.page_path.PagePath.{PagePath}
use Rattle.sv_form.specs.declared.page_path.PagePath.TheVariants.{Direct, Single, Double, Triple}

-- a page is below n, or it is so many past it
pub split_at : (page n : ℕ) (P : Type 0) → (page < n → P) → (n ≤ page → P) → P
split_at page n P low high = by (nat_lt page n) refl
  where
    by : (t : Bool) → nat_lt page n ≡ t → P
    by true e = low (grind (nat_tests, arith))
    by false e = high (grind (nat_tests, arith))

abbrev pub HasPath : Geometry → ℕ → Type 0
HasPath g page = (p : PagePath) × (IsPath g p × (page_of g p ≡ page))

quotient_rest : (x n : ℕ) → 0 < n → x / n * n + x % n ≡ x
quotient_rest x n pos = grind arith

rest_below : (x n : ℕ) → 0 < n → x % n < n
rest_below x n pos = grind arith

double_path : (g : Geometry) (page : ℕ) → 0 < block_numbers g → first_double (block_numbers g) ≤ page
    → page < first_triple (block_numbers g) → HasPath g page
double_path g page pos low high =
    let n : ℕ = block_numbers g in
    let x : ℕ = page - first_double n in
    let whole : x / n * n + x % n ≡ x = quotient_rest x n pos in
    (Double (x / n) (x % n), ((div_below x n n pos (omega arith), rest_below x n pos), omega arith))

triple_path : (g : Geometry) (page : ℕ) → 0 < block_numbers g → first_triple (block_numbers g) ≤ page → page < page_limit (block_numbers g)
    → HasPath g page
triple_path g page pos low high =
    let n : ℕ = block_numbers g in
    let x : ℕ = page - first_triple n in
    let bound : x < n * n * n = omega arith in
    let row : x / n < n * n = div_below x n (n * n) pos bound in
    let whole : x / n * n + x % n ≡ x = quotient_rest x n pos in
    let upper : x / n / n * n + x / n % n ≡ x / n = quotient_rest (x / n) n pos in
    let same : (x / n / n * n + x / n % n) * n + x % n ≡ x = ap (λ (q : ℕ). q * n + x % n) upper ∙ whole in
    (Triple (x / n / n) (x / n % n) (x % n), ((div_below (x / n) n n pos row, rest_below (x / n) n pos, rest_below x n pos), omega arith))

-- a page within the reach of the tree has a path
pub has_path : (g : Geometry) (page : ℕ) → 0 < block_numbers g → page < page_limit (block_numbers g) → HasPath g page
has_path g page pos limit =
    split_at page first_single (HasPath g page) (λ low. (Direct page, (low, refl)))
    (λ high. split_at page (first_double (block_numbers g)) (HasPath g page)
    (λ low. (Single (page - first_single), (omega arith, omega arith)))
    (λ high. split_at page (first_triple (block_numbers g)) (HasPath g page) (λ low. double_path g page pos high low)
    (λ high. triple_path g page pos high limit)))

-- a page that a file may have is within the reach of the tree
pub page_reach : (g : Geometry) (page : ℕ) → 0 < g.block_size → IsPage g page → page < page_limit (block_numbers g)
page_reach g page pos is =
    split_at page (page_limit (block_numbers g)) (page < page_limit (block_numbers g)) (λ low. low)
    (λ high.
    let more : page_limit (block_numbers g) * g.block_size ≤ page * g.block_size = mul-le-mul_right g.block_size high in
    absurd (omega arith))

pub page_path : (g : Geometry) (page : ℕ) → 3 < g.block_size → IsPage g page → HasPath g page
page_path g page pos is = has_path g page (omega (arith, pos)) (page_reach g page (omega (arith, pos)) is)
