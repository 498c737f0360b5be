use Rattle.std.proofs.Common.{◌≡◌}
use Rattle.sv_turn.specs.Passes.{pass_view, HasEntered, IsPassOf}
use Rattle.sv_turn.proofs.tests.to_and_fro.wait_for.Given as goal

abbrev pub invariant-loop : goal.invariant-loop
invariant-loop g l = IsPassOf l.turn l.pass × (pass_view l.pass ≡ pass_view l.fn.pass) × HasEntered l.pass l.number
