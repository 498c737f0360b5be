-- Pages and their paths.
use Rattle.std.proofs.Common.{◌≡◌, ◌+◌, ◌*◌, ◌/◌, ◌%◌, ◌<◌, ◌≤◌, ◌-◌, ◌^◌, ℕ, arith, ap, refl, sym, subst, ◌∙◌, min}
use Rattle.std.proofs.lemmas.Nat.{div-mul-add, mod-mul-add}
use Rattle.sv_form.specs.Geometry.{IsGeometry}
use Rattle.sv_form.specs.PagePath.{HasOnePath, IsPage, IsPath, page_of, block_numbers, greatest_size, page_limit}
use Rattle.sv_form.specs.declared.geometry.Geometry.{Geometry}
use Rattle.sv_form.specs.declared.page_path.PagePath.{PagePath}
use Rattle.sv_form.specs.declared.page_path.PagePath.TheVariants.{Direct, Single, Double, Triple}

-- the greatest size of a file, where a block has 1,024 bytes
pub greatest_size_is : (g : Geometry) → IsGeometry g → greatest_size g ≡ 2147483647
greatest_size_is g is = ap (λ (b : ℕ). min (2 ^ 31 - 1) (page_limit (b / 4) * b)) is.block_size

-- a row and a column are one number
pair_bound : (n i j : ℕ) → i < n → j < n → i * n + j < n * n
pair_bound n i j low high = grind arith

same_row : (n i j k l : ℕ) → j < n → l < n → i * n + j ≡ k * n + l → i ≡ k
same_row n i j k l p q e = sym (div-mul-add i n j p) ∙ ap (λ (x : ℕ). x / n) e ∙ div-mul-add k n l q

same_column : (n i j k l : ℕ) → j < n → l < n → i * n + j ≡ k * n + l → j ≡ l
same_column n i j k l p q e = sym (mod-mul-add i n j p) ∙ ap (λ (x : ℕ). x % n) e ∙ mod-mul-add k n l q

same_two : (f : ℕ → ℕ → PagePath) (i j k l : ℕ) → i ≡ k → j ≡ l → f i j ≡ f k l
same_two f i j k l p q = cc

same_three : (f : ℕ → ℕ → ℕ → PagePath) (h i j k l m : ℕ) → h ≡ k → i ≡ l → j ≡ m → f h i j ≡ f k l m
same_three f h i j k l m p q r = cc

pub one_path : HasOnePath
one_path g (Direct i) (Direct j) p q e = ap (λ (k : ℕ). Direct k) e
one_path g (Direct i) (Single j) p q e = absurd (omega arith)
one_path g (Direct i) (Double j k) p q e = absurd (omega arith)
one_path g (Direct i) (Triple j k l) p q e = absurd (omega arith)
one_path g (Single i) (Direct j) p q e = absurd (omega arith)
one_path g (Single i) (Single j) p q e = let same : i ≡ j = omega arith in ap (λ (k : ℕ). Single k) same
one_path g (Single i) (Double j k) p q e = absurd (omega arith)
one_path g (Single i) (Triple j k l) p q e = absurd (omega arith)
one_path g (Double i j) (Direct k) p q e = absurd (omega arith)
one_path g (Double i j) (Single k) p q e = absurd (omega arith)
one_path g (Double i j) (Double k l) p q e =
    let n : ℕ = block_numbers g in
    let same : i * n + j ≡ k * n + l = omega arith in
    same_two (λ a b. Double a b) i j k l (same_row n i j k l p.1 q.1 same) (same_column n i j k l p.1 q.1 same)
one_path g (Double i j) (Triple k l m) p q e = let below = pair_bound (block_numbers g) i j p.0 p.1 in absurd (omega arith)
one_path g (Triple i j k) (Direct l) p q e = absurd (omega arith)
one_path g (Triple i j k) (Single l) p q e = absurd (omega arith)
one_path g (Triple i j k) (Double l m) p q e = let below = pair_bound (block_numbers g) l m q.0 q.1 in absurd (omega arith)
one_path g (Triple h i j) (Triple k l m) p q e =
    let n : ℕ = block_numbers g in
    let whole : (h * n + i) * n + j ≡ (k * n + l) * n + m = omega arith in
    let row : h * n + i ≡ k * n + l = same_row n (h * n + i) j (k * n + l) m p.2 q.2 whole in
    same_three (λ a b c. Triple a b c) h i j k l m (same_row n h i k l p.1 q.1 row) (same_column n h i k l p.1 q.1 row) (same_column n (h * n + i) j (k * n + l) m p.2 q.2 whole)
