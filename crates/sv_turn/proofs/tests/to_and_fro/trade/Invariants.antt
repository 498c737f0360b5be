use Rattle.sv_turn.specs.Counted.{Has}
use Rattle.sv_turn.proofs.tests.to_and_fro.trade.Given as goal

abbrev pub invariant-loop-round : goal.invariant-loop-round
invariant-loop-round g l = Has l.turn l.pass (1, l.round)
