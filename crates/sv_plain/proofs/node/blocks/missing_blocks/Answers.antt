use Rattle.std.proofs.Common.{◌≡◌, ◌+◌, ◌++◌, not, sym, ◌∙◌}
use Rattle.std.specs.List.{filter}
use Rattle.std.specs.FinSet as set
use Rattle.sv_form.specs.Node.{blocks_at}
use Rattle.sv_plain.specs.Missing.{missing}
use Rattle.sv_plain.proofs.WrittenPages.{missing-more}
use Rattle.sv_plain.proofs.node.blocks.missing_blocks.Goals as goal

pub loop-k-init : goal.loop-k-init
unfolding missing
loop-k-init c = c.new-missing.ensures.items

pub loop-k-preserved : goal.loop-k-preserved
loop-k-preserved c =
    let new : c.as_slice.result.now ≡ blocks_at c.args.per (c.args.first + c.loop-k.k) = c.as_slice.ensures.same ∙ c.of-page.ensures in
    c.in_ok-push_missing.ensures
    ∙ (λ i. c.loop-k.invariant i ++ filter (λ b. not (set.contains c.args.blocks.now b)) (new i))
    ∙ sym (missing-more c.args.blocks.now c.args.per c.args.first c.loop-k.k)
