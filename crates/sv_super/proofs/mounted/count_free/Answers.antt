-- Each block is counted once.
use Rattle.std.proofs.Common.{sym, ap, ◌∙◌, arith}
use Rattle.sv_super.specs.Calls.{is_free}
use Rattle.sv_super.specs.Count.{one_if}
use Rattle.sv_super.proofs.Counts.{byte-one, counts-low, counts-more, sum-zero}
use Rattle.sv_super.proofs.mounted.count_free.Goals as goal

pub loop-b-init : goal.loop-b-init
loop-b-init c = sym (sum-zero (λ b. one_if (is_free c.args.owners.now b)))

pub loop-b-preserved : goal.loop-b-preserved
loop-b-preserved c = counts-more c.loop-b.b _ _ (is_free c.args.owners.now) c.loop-b.invariant (c.from-count.ensures ∙ (byte-one c.is_unowned.result ∙ ap one_if c.is_unowned.ensures))

pub overflow_add-count : goal.overflow_add-count
overflow_add-count c =
    let low = counts-low c.loop-b.b _ _ (is_free c.args.owners.now) c.loop-b.invariant (c.from-count.ensures ∙ (byte-one c.is_unowned.result ∙ ap one_if c.is_unowned.ensures)) in
    omega (arith, low)
