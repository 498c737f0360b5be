use Rattle.sv_turn.specs.Counted.{Has}
use Rattle.sv_turn.specs.Passes.{pass_view}
use Rattle.sv_turn.proofs.tests.to_and_fro.look.Given as goal

abbrev pub invariant-loop : goal.invariant-loop
invariant-loop g l = Has l.turn l.pass (pass_view l.fn.pass)
