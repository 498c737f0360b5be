use Rattle.std.proofs.Common.{◌≡◌}
use Rattle.sv_turn.specs.Passes.{pass_view, IsPassOf, IsSamePass}
use Rattle.sv_buf.specs.Running.{IsRunning, seen_by}
use Rattle.sv_buf.specs.Pending.{IsPending}
use Rattle.sv_buf.proofs.worker.next_request.Given as goal

abbrev pub invariant-loop : goal.invariant-loop
invariant-loop g l = IsPassOf l.turn l.pass × IsSamePass l.fn.pass l.pass × (pass_view l.pass ≡ pass_view l.fn.pass)
    × IsPending (IsRunning (seen_by g.D.Medium.content g.D.Medium.reads g.D.Medium.writes g.D.Medium.faults)) l.pass l.state
    (pass_view l.pass)
