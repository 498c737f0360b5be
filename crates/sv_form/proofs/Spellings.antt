-- Where numbers and tables fix the bytes, and bytes fix the numbers.
use Rattle.std.proofs.Common.{◌≡◌, ◌+◌, ◌-◌, ◌*◌, ◌/◌, ◌<◌, ◌≤◌, ℕ, List, length, get_or, arith, refl, sym, ◌∙◌, inl, inr}
use Rattle.std.proofs.lemmas.Bool.{cases_lt}
use Rattle.std.proofs.lemmas.List.{ext_get_or}
use Rattle.sv_form.specs.Number.{number16, number24, number32, AreBytes, IsZero, IsTable, IsBlockList}

-- two lists have the same bytes from one place up to another
abbrev pub SameBytes : List ℕ → List ℕ → ℕ → ℕ → Type 0
SameBytes a b from upto = (k : ℕ) → from ≤ k → k < upto → get_or a k 0 ≡ get_or b k 0

pub same_join : (a b : List ℕ) (i j l : ℕ) → SameBytes a b i j → SameBytes a b j l → SameBytes a b i l
same_join a b i j l first second k low high =
    elim (cases_lt k j) as (λ _. get_or a k 0 ≡ get_or b k 0) [
      | inl below ↦ first k low below
      | inr above ↦ second k above high
    ]

pub same_zero : (a b : List ℕ) (from upto : ℕ) → IsZero a from upto → IsZero b from upto → SameBytes a b from upto
same_zero a b from upto x y k low high = x k low high ∙ sym (y k low high)

pub same16 : (a b : List ℕ) (at n : ℕ) → AreBytes a → AreBytes b → number16 a at ≡ n → number16 b at ≡ n → SameBytes a b at (at + 2)
same16 a b at n abytes bbytes x y k low high =
    let a0 = abytes at in
    let a1 = abytes (at + 1) in
    let b0 = bbytes at in
    let b1 = bbytes (at + 1) in
    grind arith

pub same24 : (a b : List ℕ) (at n : ℕ) → AreBytes a → AreBytes b → number24 a at ≡ n → number24 b at ≡ n → SameBytes a b at (at + 3)
same24 a b at n abytes bbytes x y k low high =
    let a0 = abytes at in
    let a1 = abytes (at + 1) in
    let a2 = abytes (at + 2) in
    let b0 = bbytes at in
    let b1 = bbytes (at + 1) in
    let b2 = bbytes (at + 2) in
    grind arith

pub number16_bound : (a : List ℕ) (at : ℕ) → AreBytes a → number16 a at < 65536
number16_bound a at bytes =
    let a0 = bytes at in
    let a1 = bytes (at + 1) in
    omega arith

number16_is : (b : List ℕ) (at : ℕ) → number16 b at ≡ number16 b at
number16_is b at = refl

halves32 : (a b : List ℕ) (at n : ℕ) → AreBytes a → AreBytes b → number32 a at ≡ n → number32 b at ≡ n → (number16 a at ≡ number16 b at) × (number16 a (at + 2) ≡ number16 b (at + 2))
halves32 a b at n abytes bbytes x y =
    let a0 = number16_bound a at abytes in
    let a1 = number16_bound a (at + 2) abytes in
    let b0 = number16_bound b at bbytes in
    let b1 = number16_bound b (at + 2) bbytes in
    (omega arith, omega arith)

pub same32 : (a b : List ℕ) (at n : ℕ) → AreBytes a → AreBytes b → number32 a at ≡ n → number32 b at ≡ n → SameBytes a b at (at + 4)
same32 a b at n abytes bbytes x y k low high =
    let h = halves32 a b at n abytes bbytes x y in
    elim (cases_lt k (at + 2)) as (λ _. get_or a k 0 ≡ get_or b k 0) [
      | inl below ↦ same16 a b at (number16 b at) abytes bbytes h.0 (number16_is b at) k low below
      | inr above ↦ same16 a b (at + 2) (number16 b (at + 2)) abytes bbytes h.1 (number16_is b (at + 2)) k above (omega arith)
    ]

pub same_table16 : (a b list : List ℕ) (base places : ℕ) → AreBytes a → AreBytes b → IsTable (λ k. number16 a (base + 2 * k)) places list
    → IsTable (λ k. number16 b (base + 2 * k)) places list → SameBytes a b base (base + 2 * places)
same_table16 a b list base places abytes bbytes x y j low high =
    let k : ℕ = (j - base) / 2 in
    let lt : k < places = omega arith in
    same16 a b (base + 2 * k) (get_or list k 0) abytes bbytes (x k lt) (y k lt) j (omega arith) (omega arith)

pub same_table24 : (a b list : List ℕ) (base places : ℕ) → AreBytes a → AreBytes b → IsTable (λ k. number24 a (base + 3 * k)) places list
    → IsTable (λ k. number24 b (base + 3 * k)) places list → SameBytes a b base (base + 3 * places)
same_table24 a b list base places abytes bbytes x y j low high =
    let k : ℕ = (j - base) / 3 in
    let lt : k < places = omega arith in
    same24 a b (base + 3 * k) (get_or list k 0) abytes bbytes (x k lt) (y k lt) j (omega arith) (omega arith)

pub same_table32 : (a b list : List ℕ) (base places : ℕ) → AreBytes a → AreBytes b → IsTable (λ k. number32 a (base + 4 * k)) places list
    → IsTable (λ k. number32 b (base + 4 * k)) places list → SameBytes a b base (base + 4 * places)
same_table32 a b list base places abytes bbytes x y j low high =
    let k : ℕ = (j - base) / 4 in
    let lt : k < places = omega arith in
    same32 a b (base + 4 * k) (get_or list k 0) abytes bbytes (x k lt) (y k lt) j (omega arith) (omega arith)

-- a table fixes its list, where the length is known
pub same_list : (f : ℕ → ℕ) (places : ℕ) (xs ys : List ℕ) → IsTable f places xs → IsTable f places ys → length xs ≡ length ys → length xs ≤ places → xs ≡ ys
same_list f places xs ys x y len fits = ext_get_or 0 xs ys len (λ k lt. sym (x k (omega arith)) ∙ y k (omega arith))

pub same_block_list : (bytes : List ℕ) (count_at at : ℕ) (xs ys : List ℕ) → IsBlockList bytes count_at at xs → IsBlockList bytes count_at at ys → xs ≡ ys
same_block_list bytes count_at at xs ys x y = same_list _ 50 xs ys x.table y.table (sym x.count ∙ y.count) x.fits

-- a whole list of bytes
pub same_whole : (a b : List ℕ) (size : ℕ) → length a ≡ size → length b ≡ size → SameBytes a b 0 size → a ≡ b
same_whole a b size x y same = ext_get_or 0 a b (x ∙ sym y) (λ k lt. same k (omega arith) (omega arith))
