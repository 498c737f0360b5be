-- Tables of numbers, as a loop reads them.
use Rattle.std.proofs.Common.{◌≡◌, ◌+◌, ◌*◌, ◌<◌, ◌≤◌, ℕ, List, [], ◌∷◌, ◌++◌, length, get_or, arith, subst, sym, ◌∙◌, inl, inr}
use Rattle.std.proofs.lemmas.List.{get_or_append_left, get_or_at}
use Rattle.std.proofs.lemmas.Bool.{cases_lt}
use Rattle.sv_form.specs.Number.{number16, number32, IsZero, IsTable, IsBlockList}
use Rattle.sv_form.proofs.Numbers.{unused32, table32}

-- a list whose elements so far are those of a function, with one more
pub one_more : (f : ℕ → ℕ) (list : List ℕ) (x n : ℕ) → length list ≡ n → f n ≡ x → ((k : ℕ) → k < n → f k ≡ get_or list k 0)
    → (k : ℕ) → k < n + 1 → f k ≡ get_or (list ++ x ∷ []) k 0
one_more f list x n len here before k h =
    elim (cases_lt k n) as (λ _. f k ≡ get_or (list ++ x ∷ []) k 0) [
      | inl below ↦ before k below ∙ sym (get_or_append_left list (x ∷ []) 0 k (omega arith))
      | inr above ↦ let last : k ≡ n = omega arith in subst (λ (m : ℕ). f m ≡ get_or (list ++ x ∷ []) m 0) (sym last) (here ∙ sym (get_or_at list x [] 0 n len))
    ]

-- each place past the count of a list is 0
pub list_unused : (bytes list : List ℕ) (count_at at count : ℕ) → number16 bytes count_at ≡ count → IsBlockList bytes count_at at list → IsZero bytes (at + 4 * count) (at + 200)
list_unused bytes list count_at at count e h =
    subst (λ (n : ℕ). IsZero bytes (at + 4 * n) (at + 200)) (sym h.count ∙ e) (unused32 bytes list at 50 h.table)

-- the numbers that were read are the list
pub list_read : (bytes list : List ℕ) (count_at at count : ℕ) → number16 bytes count_at ≡ count → length list ≡ count → 1 ≤ count → count ≤ 50
    → ((k : ℕ) → k < length list → number32 bytes (at + 4 * k) ≡ get_or list k 0) → IsZero bytes (at + 4 * count) (at + 200) → IsBlockList bytes count_at at list
list_read bytes list count_at at count e len some fits read zero = record {
  count = e ∙ sym len;
  some = omega arith;
  fits = omega arith;
  table = table32 bytes list at 50 read (subst (λ (n : ℕ). IsZero bytes (at + 4 * n) (at + 200)) (sym len) zero);
}
