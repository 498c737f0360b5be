use Rattle.sv_buf.specs.Sharing.{KeepsLines}
use Rattle.sv_buf.proofs.tests.threads.sign.Given as goal

abbrev pub invariant-loop-block : goal.invariant-loop-block
invariant-loop-block g l = KeepsLines g.S.Stake.held g.S.Stake.lent g.S.Stake.origin l.fn.stake l.stake
