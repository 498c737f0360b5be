use Rattle.std.proofs.Common.{◌<◌, arith}
use Rattle.sv_turn.specs.Passes.{pass_view}
use Rattle.sv_buf.proofs.Returning.{counted-inside}
use Rattle.sv_buf.proofs.Serving.{waits, puts_back}
use Rattle.sv_buf.proofs.worker.put_back.Goals as goal

pub as_before-how-requires : goal.as_before-how-requires
as_before-how-requires g c = record {
  inside = (waits _ c.args.state (pass_view c.args.pass.now) c.requires.queued.others c.args.buffer c.requires.queued.so).held.busy.in_range;
}

pub leave-requires-clause-rule : goal.leave-requires-clause-rule
leave-requires-clause-rule g c = (
  c.requires.queued.may.0,
  c.requires.queued.may.1,
  λ others h.
      puts_back _ c.args.state c.lend-bytes.new.self c.give_back.new.self (pass_view c.args.pass.now) others c.args.buffer
      c.lend-bytes.result.items c.as_before-how.result (c.requires.queued.may.2 others h) c.lend-bytes.ensures.after
      c.lend-bytes.ensures.lent c.give_back.ensures.after c.give_back.ensures.lawful c.as_before-how.ensures c.requires.valid,
)

pub wake-requires-2 : goal.wake-requires-2
wake-requires-2 g c =
    let inside = (waits _ c.args.state (pass_view c.args.pass.now) c.requires.queued.others c.args.buffer
    c.requires.queued.so).held.busy.in_range in
    let counted : c.args.buffer < (pass_view c.args.pass.now).opening.buffers = counted-inside _ _ (pass_view c.args.pass.now)
    c.requires.queued.others c.requires.queued.so c.args.buffer c.requires.resting.some inside in
    omega (arith, counted, c.requires.events)
