use Rattle.std.proofs.Common.{◌+◌, ◌∷◌, [], ◌++◌, ℕ, sym, refl, ◌∙◌}
use Rattle.std.proofs.lemmas.List.FromFn.{map-range_with_len_more}
use Rattle.sv_form.specs.NodeChanges.{page_after}
use Rattle.sv_plain.proofs.node.Node.pages_after.Goals as goal

pub loop-k-preserved : goal.loop-k-preserved
loop-k-preserved c =
    let f = page_after c.args.block c.args.self.now c.args.at c.args.bytes.now in
    let first : ℕ = c.args.first in
    c.in_ok-push.ensures.items
    ∙ (λ i. c.loop-k.invariant i ++ c.in_ok-page_after.ensures i ∷ [])
    ∙ sym (map-range_with_len_more f first c.loop-k.k (first + c.loop-k.k) refl)
