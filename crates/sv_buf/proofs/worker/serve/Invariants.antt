use Rattle.std.proofs.Common.{◌≡◌}
use Rattle.sv_turn.specs.Passes.{pass_view, IsOut, IsPassOf, IsSamePass}
use Rattle.sv_buf.proofs.worker.serve.Given as goal

abbrev pub invariant-loop : goal.invariant-loop
invariant-loop g l = IsPassOf l.turn l.pass × IsSamePass l.fn.pass l.pass × IsOut l.pass × (pass_view l.pass ≡ pass_view l.fn.pass)
