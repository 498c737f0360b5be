use Rattle.sv_buf.specs.Sharing.{KeepsLines}
use Rattle.sv_buf.proofs.tests.calls.make_all.Given as goal

abbrev pub invariant-loop-call : goal.invariant-loop-call
invariant-loop-call g l = KeepsLines g.S.Stake.held g.S.Stake.lent g.S.Stake.origin l.fn.stake l.stake
