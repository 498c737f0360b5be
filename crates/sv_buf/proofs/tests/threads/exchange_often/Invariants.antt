use Rattle.sv_buf.specs.Sharing.{KeepsLines}
use Rattle.sv_buf.proofs.tests.threads.exchange_often.Given as goal

abbrev pub invariant-loop : goal.invariant-loop
invariant-loop g l = KeepsLines g.S.Stake.held g.S.Stake.lent g.S.Stake.origin l.fn.stake l.stake
