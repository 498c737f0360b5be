-- The bytes of a page, one by one.
use Rattle.std.proofs.Common.{◌≡◌, ◌<◌, ◌+◌, ◌-◌, ◌++◌, ◌∷◌, [], ℕ, zero, suc, List, map, take, replicate, length, slice_index, sym}
use Rattle.std.proofs.Common.{refl, ap, ◌∙◌, arith}
use Rattle.std.proofs.lemmas.List.{ext_get_or}
use Rattle.std.proofs.lemmas.List.FromFn.{length-map-range_with_len, get_or-map-range_with_len}
use Rattle.std.proofs.Math.Seq.{take-append_seam}
use Rattle.std.specs.List.{range_with_len}

zeros : (a n : ℕ) (f : ℕ → ℕ) → ((i : ℕ) → f (a + i) ≡ 0) → replicate n 0 ≡ map f (range_with_len a n)
zeros a zero f h = refl
zeros a (suc n) f h =
    let here : f a ≡ 0 = (let at : a ≡ a + 0 = omega arith in ap f at ∙ h 0) in
    (λ i. sym here i ∷ zeros (a + 1) n f (λ k. let at : a + 1 + k ≡ a + suc k = omega arith in ap f at ∙ h (suc k)) i)

-- the first n bytes of a list, filled with zeros
pub filled_front : (xs : List ℕ) (a n : ℕ) (f : ℕ → ℕ) → ((i : ℕ) → f (a + i) ≡ slice_index xs i)
    → take n xs ++ replicate (n - length xs) 0 ≡ map f (range_with_len a n)
filled_front [] a zero f h = refl
filled_front [] a (suc n) f h = let left : suc n - 0 ≡ suc n = omega arith in ap (λ m. replicate m 0) left ∙ zeros a (suc n) f h
filled_front (x ∷ xs) a zero f h = (let none : 0 - length (x ∷ xs) ≡ 0 = omega arith in ap (λ n. replicate n 0) none)
filled_front (x ∷ xs) a (suc n) f h =
    let here : f a ≡ x = (let at : a ≡ a + 0 = omega arith in ap f at ∙ h 0) in
    let left : suc n - length (x ∷ xs) ≡ n - length xs = omega arith in
    ap (λ m. x ∷ take n xs ++ replicate m 0) left
    ∙ (λ i. sym here i ∷ filled_front xs (a + 1) n f (λ k. let at : a + 1 + k ≡ a + suc k = omega arith in ap f at ∙ h (suc k)) i)

pub listed : (xs : List ℕ) (a n : ℕ) (f : ℕ → ℕ) → length xs ≡ n → ((r : ℕ) → r < n → slice_index xs r ≡ f (a + r))
    → xs ≡ map f (range_with_len a n)
listed xs a n f long h =
    ext_get_or 0 xs (map f (range_with_len a n)) (long ∙ sym (length-map-range_with_len f a n))
    (λ r low. (let within : r < n = omega (arith, low, long) in h r within ∙ sym (get_or-map-range_with_len f a n r (a + r) 0 within refl)))

pub front_is : (xs ys : List ℕ) (n : ℕ) → length xs ≡ n → take n (xs ++ ys) ≡ xs
front_is xs ys n e = ap (λ m. take m (xs ++ ys)) (sym e) ∙ take-append_seam xs ys
