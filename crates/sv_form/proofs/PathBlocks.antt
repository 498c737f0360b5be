-- The indirect blocks above a page are those on its path.
use Rattle.std.proofs.Common.{◌≡◌, ◌+◌, ◌-◌, ◌*◌, ◌/◌, ◌<◌, ◌≤◌, ℕ, List, [], ◌∷◌, if◌then◌else◌, arith, ap, refl, sym, ◌∙◌}
use Rattle.std.specs.Prelude.{nat_lt}
use Rattle.std.proofs.lemmas.Bool.{cond-true, cond-false, lt-ltb, le-ltb}
use Rattle.std.proofs.lemmas.Nat.{div-mul-add}
use Rattle.sv_form.specs.Node.{above}
use Rattle.sv_form.specs.PagePath.{IsPath, page_of, block_numbers}
use Rattle.sv_form.specs.declared.geometry.Geometry.{Geometry}
use Rattle.sv_form.specs.declared.page_path.PagePath.{PagePath}
use Rattle.sv_form.specs.declared.page_path.PagePath.TheVariants.{Direct, Single, Double, Triple}

-- The blocks on a path, the lowest first, each by its height and its number there. The single block comes first at
-- height 1, then those below the double one, then those below the triple one.
abbrev pub path_blocks : ℕ → PagePath → List (ℕ × ℕ)
path_blocks n (Direct i) = []
path_blocks n (Single i) = (1, 0) ∷ []
path_blocks n (Double i j) = (1, 1 + i) ∷ (2, 0) ∷ []
path_blocks n (Triple i j k) = (1, 1 + n + (i * n + j)) ∷ (2, 1 + i) ∷ (3, 0) ∷ []

when_below : {X : Type 0} (a b : ℕ) (x y : X) → a < b → (if nat_lt a b then x else y) ≡ x
when_below a b x y h = cond-true (nat_lt a b) x y (lt-ltb a b h)

when_above : {X : Type 0} (a b : ℕ) (x y : X) → b ≤ a → (if nat_lt a b then x else y) ≡ y
when_above a b x y h = cond-false (nat_lt a b) x y (le-ltb a b h)

quotient : (x q w r : ℕ) → r < w → x ≡ q * w + r → x / w ≡ q
quotient x q w r h e = ap (λ (m : ℕ). m / w) e ∙ div-mul-add q w r h

-- the three lists that `above` gives, by where the page lies
one_above : (n page a : ℕ) → 10 ≤ page → page < 10 + n → (page - 10) / n ≡ a → above n page ≡ (1, a) ∷ []
one_above n page a low high e =
    when_above page 10 _ _ low ∙ ap (λ (l : List (ℕ × ℕ)). (1, (page - 10) / n) ∷ l) (when_below page (10 + n) _ _ high)
    ∙ ap (λ (q : ℕ). (1, q) ∷ []) e

two_above : (n page a b : ℕ) → 10 + n ≤ page → page < 10 + n + n * n → (page - 10) / n ≡ a → (page - (10 + n)) / (n * n) ≡ b
    → above n page ≡ (1, a) ∷ (2, b) ∷ []
two_above n page a b low high e f =
    when_above page 10 _ _ (omega arith) ∙ ap (λ (l : List (ℕ × ℕ)). (1, (page - 10) / n) ∷ l) (when_above page (10 + n) _ _ low)
    ∙ ap (λ (l : List (ℕ × ℕ)). (1, (page - 10) / n) ∷ (2, (page - (10 + n)) / (n * n)) ∷ l) (when_below page (10 + n + n * n) _ _ high)
    ∙ ap (λ (q : ℕ). (1, q) ∷ (2, (page - (10 + n)) / (n * n)) ∷ []) e ∙ ap (λ (q : ℕ). (1, a) ∷ (2, q) ∷ []) f

three_above : (n page a b : ℕ) → 10 + n + n * n ≤ page → (page - 10) / n ≡ a → (page - (10 + n)) / (n * n) ≡ b
    → above n page ≡ (1, a) ∷ (2, b) ∷ (3, 0) ∷ []
three_above n page a b low e f =
    when_above page 10 _ _ (omega arith) ∙ ap (λ (l : List (ℕ × ℕ)). (1, (page - 10) / n) ∷ l) (when_above page (10 + n) _ _ (omega arith))
    ∙ ap (λ (l : List (ℕ × ℕ)). (1, (page - 10) / n) ∷ (2, (page - (10 + n)) / (n * n)) ∷ l) (when_above page (10 + n + n * n) _ _ low)
    ∙ ap (λ (q : ℕ). (1, q) ∷ (2, (page - (10 + n)) / (n * n)) ∷ (3, 0) ∷ []) e ∙ ap (λ (q : ℕ). (1, a) ∷ (2, q) ∷ (3, 0) ∷ []) f

below_square : (n i j : ℕ) → i < n → j < n → i * n + j < n * n
below_square n i j low high = grind arith

double_row : (n i j : ℕ) → n + (i * n + j) ≡ (1 + i) * n + j
double_row n i j = grind arith

triple_row : (n i j k : ℕ) → n + n * n + ((i * n + j) * n + k) ≡ (1 + n + (i * n + j)) * n + k
triple_row n i j k = grind arith

triple_square : (n i j k : ℕ) → n * n + ((i * n + j) * n + k) ≡ (1 + i) * (n * n) + (j * n + k)
triple_square n i j k = grind arith

-- the same on plain numbers: the page is m, as far from page 10
above_single : (n i : ℕ) → i < n → above n (10 + i) ≡ (1, 0) ∷ []
above_single n i h = one_above n (10 + i) 0 (omega arith) (omega arith) (quotient (10 + i - 10) 0 n i h (omega arith))

above_double : (n i j : ℕ) → i < n → j < n → above n (10 + n + (i * n + j)) ≡ (1, 1 + i) ∷ (2, 0) ∷ []
above_double n i j p q =
    let bound : i * n + j < n * n = below_square n i j p q in
    let row : n + (i * n + j) ≡ (1 + i) * n + j = double_row n i j in
    two_above n (10 + n + (i * n + j)) (1 + i) 0 (omega arith) (omega arith)
    (quotient (10 + n + (i * n + j) - 10) (1 + i) n j q (omega arith))
    (quotient (10 + n + (i * n + j) - (10 + n)) 0 (n * n) (i * n + j) bound (omega arith))

above_triple : (n i j k : ℕ) → i < n → j < n → k < n → above n (10 + n + n * n + ((i * n + j) * n + k)) ≡ (1, 1 + n + (i * n + j)) ∷ (2, 1 + i) ∷ (3, 0) ∷ []
above_triple n i j k p q r =
    let bound : j * n + k < n * n = below_square n j k q r in
    let row : n + n * n + ((i * n + j) * n + k) ≡ (1 + n + (i * n + j)) * n + k = triple_row n i j k in
    let square : n * n + ((i * n + j) * n + k) ≡ (1 + i) * (n * n) + (j * n + k) = triple_square n i j k in
    three_above n (10 + n + n * n + ((i * n + j) * n + k)) (1 + n + (i * n + j)) (1 + i) (omega arith)
    (quotient (10 + n + n * n + ((i * n + j) * n + k) - 10) (1 + n + (i * n + j)) n k r (omega arith))
    (quotient (10 + n + n * n + ((i * n + j) * n + k) - (10 + n)) (1 + i) (n * n) (j * n + k) bound (omega arith))

pub above-page_of : (g : Geometry) (p : PagePath) → IsPath g p → above (block_numbers g) (page_of g p) ≡ path_blocks (block_numbers g) p
above-page_of g (Direct i) is = when_below i 10 _ _ is
above-page_of g (Single i) is = above_single (block_numbers g) i is
above-page_of g (Double i j) is = above_double (block_numbers g) i j is.0 is.1
above-page_of g (Triple i j k) is = above_triple (block_numbers g) i j k is.0 is.1 is.2
