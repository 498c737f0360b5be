-- The lines of a tree, one inode number after another.
use Rattle.std.proofs.Common.{◌≡◌, ℕ, zero, suc, ◌+◌, List, [], ◌∷◌, ◌++◌, sym, refl, ap, ◌∙◌, arith}
use Rattle.std.proofs.lemmas.Grind.{flat_map-append}
use Rattle.std.proofs.lemmas.List.{append-nil}
use Rattle.std.proofs.lemmas.List.Concat.{flat_map-cons}
use Rattle.std.specs.List.{range_with_len, flat_map}
use Rattle.sv_form.proofs.OwnerLemmas.{range_more}

pub one_line_more : (f : ℕ → List ℕ) (before after : List ℕ) (i : ℕ) → before ≡ flat_map f (range_with_len 0 i) → after ≡ before ++ f i → after ≡ flat_map f (range_with_len 0 (i + 1))
one_line_more f before after i was is =
    is ∙ ap (λ t. t ++ f i) was
    ∙ ap (λ t. flat_map f (range_with_len 0 i) ++ t) (sym (flat_map-cons f i [] ∙ append-nil (f i)))
    ∙ sym (ap (flat_map f) (range_more 0 i ∙ ap (λ k. range_with_len 0 i ++ k ∷ []) (omega arith)) ∙ flat_map-append f (range_with_len 0 i) (i ∷ []))
