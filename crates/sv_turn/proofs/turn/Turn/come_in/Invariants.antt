use Rattle.std.proofs.Common.{◌≡◌}
use Rattle.sv_turn.specs.Passes.{pass_view, HasDrawn, IsSamePass}
use Rattle.sv_turn.proofs.turn.Turn.come_in.Given as goal

abbrev pub invariant-loop : goal.invariant-loop
invariant-loop g l = IsSamePass l.fn.pass l.pass × (pass_view l.pass ≡ pass_view l.fn.pass) × HasDrawn l.pass l.ticket
