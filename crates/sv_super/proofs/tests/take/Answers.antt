-- One block fewer at each turn, and no line more.
use Rattle.std.proofs.Common.{◌∙◌, arith}
use Rattle.sv_super.proofs.Samples.{less-none}
use Rattle.sv_super.proofs.Taken.{takes-left}
use Rattle.sv_super.proofs.tests.take.Goals as goal

pub alloc-requires-after_bounds : goal.alloc-requires-after_bounds
alloc-requires-after_bounds g c _ _ = omega (arith, c.requires, c.loop-taken.invariant.left, c.loop-taken-test.true)

pub loop-taken-preserved : goal.loop-taken-preserved
loop-taken-preserved g c = record {
  left = omega (arith, c.loop-taken.invariant.left, takes-left c.in_ok-block.ensures.block);
  spare = c.alloc.ensures.spare ∙ c.loop-taken.invariant.spare;
  kept = λ b k none. less-none (g.S.Stake.held c.loop-taken.core.stake) c.in_ok-block.block c.in_ok-block.ensures.lines.mine b k (c.loop-taken.invariant.kept b k none);
  origin = c.alloc.ensures.origin ∙ c.loop-taken.invariant.origin;
}
