use Rattle.std.proofs.Common.{sym, subst}
use Rattle.sv_turn.specs.Passes.{pass_view, MayLeave}
use Rattle.sv_buf.specs.Running.{IsRunning, seen_by}
use Rattle.sv_buf.specs.Pending.{IsPending}
use Rattle.sv_buf.proofs.Serving.{popped, not_popped}
use Rattle.sv_buf.proofs.worker.next_request.Goals as goal

pub returns-in-Some-pop-clause-queued : goal.returns-in-Some-pop-clause-queued
returns-in-Some-pop-clause-queued g c =
    subst (λ q. IsPending (IsRunning (seen_by g.D.Medium.content g.D.Medium.reads g.D.Medium.writes g.D.Medium.faults)) c.loop.pass q
    (pass_view c.loop.pass)) (sym (popped c.loop.state c.in-Some-pop.buffer c.pop.new.self c.in-Some-pop.ensures.taken)) c.loop.invariant.3

pub leave-requires-clause-rule : goal.leave-requires-clause-rule
leave-requires-clause-rule g c =
    subst (λ q. MayLeave (IsRunning (seen_by g.D.Medium.content g.D.Medium.reads g.D.Medium.writes g.D.Medium.faults)) c.loop.pass q
    (pass_view c.loop.pass)) (sym (not_popped c.loop.state c.pop.new.self c.in-None-pop.ensures.taken)) c.loop.invariant.3.may

pub sleep_with-state-requires-clause-rule : goal.sleep_with-state-requires-clause-rule
sleep_with-state-requires-clause-rule g c =
    subst (λ q. MayLeave (IsRunning (seen_by g.D.Medium.content g.D.Medium.reads g.D.Medium.writes g.D.Medium.faults)) c.loop.pass q
    (pass_view c.loop.pass)) (sym (not_popped c.loop.state c.pop.new.self c.in-None-pop.ensures.taken)) c.loop.invariant.3.may
