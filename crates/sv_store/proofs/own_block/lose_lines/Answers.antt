-- Each turn settles one line more.
use Rattle.std.proofs.Common.{◌&&◌, false, not, get_or, refl, ap}
use Rattle.sv_store.specs.Held.{in_ranges}
use Rattle.sv_store.specs.OwnBlock.{masked_lines}
use Rattle.sv_store.proofs.OwnParts.{lose-step}
use Rattle.sv_store.proofs.own_block.lose_lines.Goals as goal

pub loop-l-init : goal.loop-l-init
unfolding masked_lines
loop-l-init c = refl

pub loop-l-preserved : goal.loop-l-preserved
loop-l-preserved c =
    lose-step (λ k. not (in_ranges c.args.lines.now c.args.b k)) c.args.held.now c.loop-l.held c.loop-l.l _ c.loop-l-test.true c.loop-l.invariant
    (ap (λ q. get_or c.loop-l.held c.loop-l.l false && not q) c.is_in-inside.ensures)
