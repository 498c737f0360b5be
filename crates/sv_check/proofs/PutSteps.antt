-- What is spelled of a block, one piece after the other.
use Rattle.std.proofs.Common.{◌≡◌, ◌++◌, ◌∙◌, List, ℕ, ap, append_assoc}

-- two pieces one after the other
pub then_more : (a x y : List ℕ) {b c : List ℕ} → b ≡ a ++ x → c ≡ b ++ y → c ≡ a ++ (x ++ y)
then_more a x y {b} {c} first second = second ∙ (ap (λ (q : List ℕ). q ++ y) first ∙ append_assoc a x y)
