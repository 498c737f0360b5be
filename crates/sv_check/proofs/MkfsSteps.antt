-- Numbers that are gathered downwards.
use Rattle.std.proofs.Common.{◌≡◌, ◌+◌, ◌++◌, ◌∙◌, ℕ, zero, suc, List, [], ◌∷◌, sym, ap, arith, append_assoc, append-nil}
use Rattle.sv_check.specs.Mkfs.{down_to}

-- a number more from the front of what is left
down_more : (front : List ℕ) (least n x : ℕ) → x ≡ least + n → (front ++ x ∷ []) ++ down_to least n ≡ front ++ down_to least (suc n)
down_more front least n x is = append_assoc front (x ∷ []) (down_to least n) ∙ ap (λ (y : ℕ). front ++ y ∷ down_to least n) is

pub goes_down : (whole front new : List ℕ) (least n k x : ℕ) → front ++ down_to least n ≡ whole → k + 1 ≡ n → x ≡ least + k → new ≡ front ++ x ∷ [] → new ++ down_to least k ≡ whole
goes_down whole front new least n k x is less at pushed =
    let same : suc k ≡ n = omega arith in
    ap (λ (xs : List ℕ). xs ++ down_to least k) pushed ∙ down_more front least k x at ∙ ap (λ (m : ℕ). front ++ down_to least m) same ∙ is

pub all_down : (whole front : List ℕ) (least n : ℕ) → front ++ down_to least n ≡ whole → n ≡ 0 → front ≡ whole
all_down whole front least zero is none = sym (append-nil front) ∙ is
all_down whole front least (suc n) is none = absurd (omega arith)
