-- All numbers of an indirect block.
use Rattle.std.proofs.Common.{◌≡◌, ◌≢◌, ◌+◌, ◌*◌, ◌/◌, ◌<◌, ◌≤◌, ◌==◌, ℕ, zero, suc, List, ◌∷◌, length, map, Bool, true, false, cond}
use Rattle.std.proofs.Common.{arith, ap, refl, sym, ◌∙◌}
use Rattle.std.specs.Int.{from_bool}
use Rattle.std.specs.List.{count_by, range_with_len}
use Rattle.sv_form.specs.Number.{number32}
use Rattle.sv_form.specs.PagePath.{block_numbers, numbers_per}
use Rattle.sv_store.specs.Held.{Held, Origin, HoldsBlock}
use Rattle.sv_store.specs.Calls.{Gets}
use Rattle.sv_store.specs.Loan.{Loan}
use Rattle.sv_store.proofs.OwnLaws.{count-cons}
use Rattle.sv_bmap.specs.Tree.{child}
use Rattle.sv_bmap.proofs.Needs.{flag, plus, sum-more}
use Rattle.sv_bmap.proofs.Paths.{number-got, child-hole, child-there}

-- two functions that are the same at each number of a range
map-same : (f g : ℕ → ℕ) (a n : ℕ) → ((k : ℕ) → k < a + n → f k ≡ g k) → map f (range_with_len a n) ≡ map g (range_with_len a n)
map-same f g a zero each = refl
map-same f g a (suc n) each =
    ap (λ q. q ∷ map f (range_with_len (a + 1) n)) (each a (omega arith))
    ∙ ap (λ q. g a ∷ q) (map-same f g (a + 1) n (λ k high. each k (omega (arith, high))))

-- two tests that are the same at each number of a range
count-same : (p q : ℕ → Bool) (a n : ℕ) → ((k : ℕ) → k < a + n → p k ≡ q k)
    → count_by p (range_with_len a n) ≡ count_by q (range_with_len a n)
count-same p q a zero each = refl
count-same p q a (suc n) each =
    count-cons p a (range_with_len (a + 1) n)
    ∙ (ap (λ t. cond t 1 0 + count_by p (range_with_len (a + 1) n)) (each a (omega arith))
    ∙ (ap (λ t. cond (q a) 1 0 + t) (count-same p q (a + 1) n (λ k high. each k (omega (arith, high))))
    ∙ sym (count-cons q a (range_with_len (a + 1) n))))

-- a test that holds at each number
count-each : (p : ℕ → Bool) (a n : ℕ) → ((k : ℕ) → p k ≡ true) → n ≡ count_by p (range_with_len a n)
count-each p a zero each = refl
count-each p a (suc n) each =
    let one : flag (p a) ≡ 1 = ap flag (each a) in
    let rest : n ≡ count_by p (range_with_len (a + 1) n) = count-each p (a + 1) n each in
    let both : count_by p (a ∷ range_with_len (a + 1) n) ≡ flag (p a) + count_by p (range_with_len (a + 1) n) = count-cons p a
    (range_with_len (a + 1) n) in
    omega (arith, one, rest, both)

-- ---- what is read

number-read : {o : Origin} {h : Held} {b : ℕ} {buf : Loan} → Gets o h b buf → HoldsBlock o h b → b ≢ 0 → (k : ℕ)
    → k < block_numbers o.sizes → number32 buf.bytes (k * 4) ≡ child h b k
number-read {o} {h} {b} {buf} gets holds some k low =
    number-got gets k (holds.at (k / 16) (omega (arith, low))) ∙ sym (child-there h b k some)

-- the numbers in the bytes that were got are those of the block
pub numbers-read : {o : Origin} {h : Held} {b : ℕ} {buf : Loan} → Gets o h b buf → HoldsBlock o h b → b ≢ 0 → (bytes xs : List ℕ)
    → bytes ≡ buf.bytes → xs ≡ map (λ k. number32 bytes (k * 4)) (range_with_len 0 (numbers_per (length bytes)))
    → xs ≡ map (child h b) (range_with_len 0 (block_numbers o.sizes))
numbers-read {o} {h} {b} {buf} gets holds some bytes xs same e =
    e
    ∙ (ap (λ q. map (λ k. number32 q (k * 4)) (range_with_len 0 (numbers_per (length q)))) same
    ∙ (ap (λ q. map (λ k. number32 buf.bytes (k * 4)) (range_with_len 0 (numbers_per q))) gets.size
    ∙ map-same (λ k. number32 buf.bytes (k * 4)) (child h b) 0 (block_numbers o.sizes)
    (λ k low. number-read gets holds some k (omega (arith, low)))))

-- the holes among them are those of the block
pub holes-read : {o : Origin} {h : Held} {b : ℕ} {buf : Loan} → Gets o h b buf → HoldsBlock o h b → b ≢ 0 → (bytes : List ℕ)
    (from count n : ℕ) → bytes ≡ buf.bytes → from + count ≤ block_numbers o.sizes
    → n ≡ count_by (λ k. number32 bytes (k * 4) == 0) (range_with_len from count)
    → n ≡ count_by (λ k. child h b k == 0) (range_with_len from count)
holes-read {o} {h} {b} {buf} gets holds some bytes from count n same fits e =
    e
    ∙ (ap (λ q. count_by (λ k. number32 q (k * 4) == 0) (range_with_len from count)) same
    ∙ count-same (λ k. number32 buf.bytes (k * 4) == 0) (λ k. child h b k == 0) from count
    (λ k low. ap (λ q. q == 0) (number-read gets holds some k (omega (arith, low, fits)))))

-- below a hole all are holes
pub holes-below : (h : Held) (b from count : ℕ) → b ≡ 0 → count ≡ count_by (λ k. child h b k == 0) (range_with_len from count)
holes-below h b from count hole = count-each (λ k. child h b k == 0) from count (λ k. ap (λ q. q == 0) (child-hole h b k hole))

-- ---- numbers that are 0, counted one after another

pub flag-of : (t : Bool) (r : ℕ) → r ≡ from_bool t → r ≡ flag t
flag-of true r e = e
flag-of false r e = e

pub flag-few : (t : Bool) (r : ℕ) → r ≡ from_bool t → r ≤ 1
flag-few true r e = let one : from_bool true ≡ 1 = refl in omega (arith, e, one)
flag-few false r e = let none : from_bool false ≡ 0 = refl in omega (arith, e, none)

pub zero-more : (bytes : List ℕ) (from k found r number : ℕ)
    → found ≡ count_by (λ x. number32 bytes (x * 4) == 0) (range_with_len from k) → r ≡ from_bool (number == 0)
    → number ≡ number32 bytes ((from + k) * 4) → found + r ≡ count_by (λ x. number32 bytes (x * 4) == 0) (range_with_len from (k + 1))
zero-more bytes from k found r number e f w =
    plus e (flag-of (number == 0) r f ∙ ap (λ q. flag (q == 0)) w) ∙ sym (sum-more (λ x. flag (number32 bytes (x * 4) == 0)) from k)
