use Rattle.sv_turn.specs.Counted.{Has}
use Rattle.sv_turn.proofs.tests.count_up.Given as goal

abbrev pub invariant-loop-i : goal.invariant-loop-i
invariant-loop-i g l = Has l.turn l.pass (1, l.i)
