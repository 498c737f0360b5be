use Rattle.std.proofs.Common.{sym, ap, arith, ◌∙◌}
use Rattle.sv_form.specs.Node.{numbers_per}
use Rattle.sv_plain.specs.Fs.{Fs}
use Rattle.sv_form.specs.NodeChanges.{touched}
use Rattle.sv_plain.specs.Missing.{node_blocks, added}
use Rattle.sv_plain.specs.NeedsWithin.{within}
use Rattle.sv_plain.proofs.BlocksAdded.{added-none}
use Rattle.sv_plain.proofs.RoomNeeds.{held}
use Rattle.sv_plain.proofs.fs.Fs.range_need_within.Goals as goal

pub returns-then-count-eq0 : goal.returns-then-count-eq0
returns-then-count-eq0 c =
    let fs : Fs = c.args.self.now in
    held c.args.most 0 (omega arith)
    ∙ ap (within c.args.most) (added-none (node_blocks fs c.args.i) (numbers_per fs.block) 0
    ∙ ap (λ n. added (node_blocks fs c.args.i) (numbers_per fs.block) (touched fs.block c.args.at n)) (sym c.if-count-eq0.true))
