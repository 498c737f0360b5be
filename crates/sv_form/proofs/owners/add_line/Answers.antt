use Rattle.std.proofs.Common.{arith, ◌-◌}
use Rattle.sv_form.proofs.OwnerLemmas.{line_added}
use Rattle.sv_form.proofs.owners.add_line.Goals as goal

pub returns-then-is_before-clause-lines : goal.returns-then-is_before-clause-lines
returns-then-is_before-clause-lines c =
    line_added c.args.geometry.now c.args.ranges.now.items (c.len-len.result - 1) c.index_mut.result.now c.index.result.now c.args.place (omega arith)
    c.index_mut.ensures.value c.index.ensures (c.is_before.ensures.0 c.if-is_before.true)
