-- Numbers at a place, ranges of zero bytes, and tables of numbers.
use Rattle.std.proofs.Common.{◌≡◌, ◌+◌, ◌-◌, ◌*◌, ◌/◌, ◌%◌, ◌<◌, ◌≤◌, ◌↔◌, ℕ, List, length, get_or, arith, subst, sym, ◌∙◌, ap, inl, inr}
use Rattle.std.specs.List.{slice_range, EachIndex}
use Rattle.std.proofs.lemmas.List.{get_or_past, places, length-take, length-drop, get_or-take, get_or-drop}
use Rattle.std.proofs.lemmas.Bool.{cases_lt}
use Rattle.sv_form.specs.Number.{number16, number24, number32, IsZero, IsTable}

-- ---- zero bytes

-- an element of a part of a list
get_or-slice_range : (xs : List ℕ) (i j k : ℕ) → i + k < j → get_or (slice_range xs i j) k 0 ≡ get_or xs (i + k) 0
get_or-slice_range xs i j k h = grind (arith, places)

-- the bytes of a part are all 0 exactly where the bytes from its first place up to its last are
pub part_is_zero : (xs : List ℕ) (i j : ℕ) → j ≤ length xs → EachIndex (slice_range xs i j) (λ k. get_or (slice_range xs i j) k 0 ≡ 0) → IsZero xs i j
part_is_zero xs i j within each k from upto =
    let e : get_or (slice_range xs i j) (k - i) 0 ≡ get_or xs k 0 = grind (arith, places)
    in sym e ∙ each (k - i) (simp (length-take, length-drop) (omega arith))

pub zero_is_part : (xs : List ℕ) (i j : ℕ) → j ≤ length xs → IsZero xs i j → EachIndex (slice_range xs i j) (λ k. get_or (slice_range xs i j) k 0 ≡ 0)
zero_is_part xs i j within zero k h =
    let fits : k < j - i = omega (arith, simp (length-take, length-drop) at h)
    in get_or-slice_range xs i j k (omega arith) ∙ zero (i + k) (omega arith) (omega arith)

-- ---- a number is 0 exactly where its bytes are

pub zero16 : (bytes : List ℕ) (at k : ℕ) → number16 bytes at ≡ 0 → at ≤ k → k < at + 2 → get_or bytes k 0 ≡ 0
zero16 bytes at k zero from upto = grind arith

pub zero32 : (bytes : List ℕ) (at k : ℕ) → number32 bytes at ≡ 0 → at ≤ k → k < at + 4 → get_or bytes k 0 ≡ 0
zero32 bytes at k zero from upto = grind arith

pub number16_zero : (bytes : List ℕ) (from upto at : ℕ) → IsZero bytes from upto → from ≤ at → at + 2 ≤ upto → number16 bytes at ≡ 0
number16_zero bytes from upto at zero low high = omega (arith, zero at (omega arith) (omega arith), zero (at + 1) (omega arith) (omega arith))

pub number32_zero : (bytes : List ℕ) (from upto at : ℕ) → IsZero bytes from upto → from ≤ at → at + 4 ≤ upto → number32 bytes at ≡ 0
number32_zero bytes from upto at zero low high =
    omega (arith, number16_zero bytes from upto at zero (omega arith) (omega arith), number16_zero bytes from upto (at + 2) zero (omega arith) (omega arith))

-- ---- the places of a table that are not used

pub unused16 : (bytes list : List ℕ) (base places : ℕ) → IsTable (λ k. number16 bytes (base + 2 * k)) places list
    → IsZero bytes (base + 2 * length list) (base + 2 * places)
unused16 bytes list base places table j from upto =
    zero16 bytes (base + 2 * ((j - base) / 2)) j
    (table ((j - base) / 2) (omega arith) ∙ get_or_past list ((j - base) / 2) 0 (omega arith)) (omega arith) (omega arith)

pub unused32 : (bytes list : List ℕ) (base places : ℕ) → IsTable (λ k. number32 bytes (base + 4 * k)) places list
    → IsZero bytes (base + 4 * length list) (base + 4 * places)
unused32 bytes list base places table j from upto =
    zero32 bytes (base + 4 * ((j - base) / 4)) j
    (table ((j - base) / 4) (omega arith) ∙ get_or_past list ((j - base) / 4) 0 (omega arith)) (omega arith) (omega arith)

-- the numbers that were read, and zero bytes after them, are a table
pub table16 : (bytes list : List ℕ) (base places : ℕ) → ((k : ℕ) → k < length list → number16 bytes (base + 2 * k) ≡ get_or list k 0)
    → IsZero bytes (base + 2 * length list) (base + 2 * places) → IsTable (λ k. number16 bytes (base + 2 * k)) places list
table16 bytes list base places read zero k h =
    elim (cases_lt k (length list)) as (λ _. number16 bytes (base + 2 * k) ≡ get_or list k 0) [
      | inl used ↦ read k used
      | inr past ↦ number16_zero bytes (base + 2 * length list) (base + 2 * places) (base + 2 * k) zero (omega arith) (omega arith)
          ∙ sym (get_or_past list k 0 past)
    ]

pub table32 : (bytes list : List ℕ) (base places : ℕ) → ((k : ℕ) → k < length list → number32 bytes (base + 4 * k) ≡ get_or list k 0)
    → IsZero bytes (base + 4 * length list) (base + 4 * places) → IsTable (λ k. number32 bytes (base + 4 * k)) places list
table32 bytes list base places read zero k h =
    elim (cases_lt k (length list)) as (λ _. number32 bytes (base + 4 * k) ≡ get_or list k 0) [
      | inl used ↦ read k used
      | inr past ↦ number32_zero bytes (base + 4 * length list) (base + 4 * places) (base + 4 * k) zero (omega arith) (omega arith)
          ∙ sym (get_or_past list k 0 past)
    ]
