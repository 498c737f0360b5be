-- Numbers that were spelled read as they are.
use Rattle.std.proofs.Common.{◌≡◌, ◌<◌, ◌≤◌, ◌+◌, ◌-◌, ◌*◌, ◌++◌, ◌∙◌, ℕ, zero, suc, List, [], ◌∷◌, length, get_or, replicate, refl, ap, arith}
use Rattle.std.specs.List.{flat_map}
use Rattle.std.proofs.lemmas.List.{get_or-append_right, get_or_append_left, get_or-replicate, length-replicate}
use Rattle.sv_form.specs.Number.{number16, number32}
use Rattle.sv_check.specs.MadeBlocks.{little16, little32}

-- a number at the front
pub front16 : (n : ℕ) (rest : List ℕ) → number16 (little16 n ++ rest) 0 ≡ n
front16 n rest = omega arith

pub front32 : (n : ℕ) (rest : List ℕ) → number32 (little32 n ++ rest) 0 ≡ n
front32 n rest = omega arith

-- a number behind what stands before it
behind : (front rest : List ℕ) (n i : ℕ) → length front ≡ n → n ≤ i → get_or (front ++ rest) i 0 ≡ get_or rest (i - n) 0
behind front rest n i long past = get_or-append_right front rest n i 0 long past

pub behind16 : (front rest : List ℕ) (n i j : ℕ) → length front ≡ n → n + j ≡ i → number16 (front ++ rest) i ≡ number16 rest j
behind16 front rest n i j long at =
    let here : i - n ≡ j = omega arith in
    let next : i + 1 - n ≡ j + 1 = omega arith in
    let first : get_or (front ++ rest) i 0 ≡ get_or rest j 0 = behind front rest n i long (omega arith) ∙ ap (λ (k : ℕ). get_or rest k 0) here in
    let second : get_or (front ++ rest) (i + 1) 0 ≡ get_or rest (j + 1) 0 = behind front rest n (i + 1) long (omega arith) ∙ ap (λ (k : ℕ). get_or rest k 0) next in
    omega (arith, first, second)

pub behind32 : (front rest : List ℕ) (n i j : ℕ) → length front ≡ n → n + j ≡ i → number32 (front ++ rest) i ≡ number32 rest j
behind32 front rest n i j long at = omega (arith, behind16 front rest n i j long at, behind16 front rest n (i + 2) (j + 2) long (omega arith))

-- ---- lists of numbers, and zero bytes behind them

abbrev pub ZeroUpTo : List ℕ → ℕ → Type 0
ZeroUpTo rest upto = (j : ℕ) → j < upto → get_or rest j 0 ≡ 0

pub list32 : (xs rest : List ℕ) (places k : ℕ) → k < places → ZeroUpTo rest (4 * places - 4 * length xs) → number32 (flat_map little32 xs ++ rest) (4 * k) ≡ get_or xs k 0
list32 [] rest places k low zeros =
    let a : get_or rest (4 * k) 0 ≡ 0 = zeros (4 * k) (omega arith) in
    let b : get_or rest (4 * k + 1) 0 ≡ 0 = zeros (4 * k + 1) (omega arith) in
    let c : get_or rest (4 * k + 2) 0 ≡ 0 = zeros (4 * k + 2) (omega arith) in
    let d : get_or rest (4 * k + 2 + 1) 0 ≡ 0 = zeros (4 * k + 2 + 1) (omega arith) in
    omega (arith, a, b, c, d)
list32 (x ∷ xs) rest places zero low zeros = front32 x (flat_map little32 xs ++ rest)
list32 (x ∷ xs) rest places (suc k) low zeros =
    behind32 (little32 x) (flat_map little32 xs ++ rest) 4 (4 * suc k) (4 * k) refl (omega arith) ∙ list32 xs rest (places - 1) k (omega arith) (λ j h. zeros j (omega arith))

pub list16 : (xs rest : List ℕ) (places k : ℕ) → k < places → ZeroUpTo rest (2 * places - 2 * length xs) → number16 (flat_map little16 xs ++ rest) (2 * k) ≡ get_or xs k 0
list16 [] rest places k low zeros =
    let a : get_or rest (2 * k) 0 ≡ 0 = zeros (2 * k) (omega arith) in
    let b : get_or rest (2 * k + 1) 0 ≡ 0 = zeros (2 * k + 1) (omega arith) in
    omega (arith, a, b)
list16 (x ∷ xs) rest places zero low zeros = front16 x (flat_map little16 xs ++ rest)
list16 (x ∷ xs) rest places (suc k) low zeros =
    behind16 (little16 x) (flat_map little16 xs ++ rest) 2 (2 * suc k) (2 * k) refl (omega arith) ∙ list16 xs rest (places - 1) k (omega arith) (λ j h. zeros j (omega arith))

pub length32 : (xs : List ℕ) → length (flat_map little32 xs) ≡ 4 * length xs
length32 [] = refl
length32 (x ∷ xs) = let rest : length (flat_map little32 xs) ≡ 4 * length xs = length32 xs in omega arith

pub length16 : (xs : List ℕ) → length (flat_map little16 xs) ≡ 2 * length xs
length16 [] = refl
length16 (x ∷ xs) = let rest : length (flat_map little16 xs) ≡ 2 * length xs = length16 xs in omega arith

pub zeros_are : (n upto : ℕ) (rest : List ℕ) → upto ≤ n → ZeroUpTo (replicate n 0 ++ rest) upto
zeros_are n upto rest fits j low = get_or_append_left (replicate n 0) rest 0 j (rw length-replicate (omega arith)) ∙ get_or-replicate n j 0 0 (omega arith)
