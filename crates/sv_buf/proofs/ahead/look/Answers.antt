use Rattle.std.proofs.Common.{◌∷◌}
use Rattle.sv_turn.specs.Passes.{pass_view}
use Rattle.sv_buf.proofs.Getting.{has_room, pending-step, same_core}
use Rattle.sv_buf.proofs.Queueing.{asked_read}
use Rattle.sv_buf.proofs.ahead.look.Goals as goal

pub queue_read-requires-clause-room : goal.queue_read-requires-clause-room
queue_read-requires-clause-room g c =
    has_room _ c.args.state (pass_view c.args.pass.now) c.requires.pending.others c.requires.pending.so c.in-Taken.buffer c.args.next
    c.in-Taken.ensures.cause.0

pub queue_read-requires-clause-pending : goal.queue_read-requires-clause-pending
queue_read-requires-clause-pending g c =
    asked_read _ c.args.pass.now c.args.state c.attempt.new.self (pass_view c.args.pass.now) c.in-Taken.buffer c.args.next
    c.requires.pending c.requires.fit.some c.requires.inside c.in-Taken.ensures.cause c.in-Taken.ensures.after
    c.in-Taken.ensures.lawful

pub leave_same-requires-in-Empty-clause-pending : goal.leave_same-requires-in-Empty-clause-pending
leave_same-requires-in-Empty-clause-pending g c =
    pending-step _ c.args.pass.now c.args.state (record c.args.state { core = c.attempt.new.self }) (pass_view c.args.pass.now)
    (pass_view c.args.pass.now) c.requires.pending
    (λ others h. same_core _ c.args.state c.attempt.new.self (pass_view c.args.pass.now ∷ others) c.in-Empty.ensures.after h)
