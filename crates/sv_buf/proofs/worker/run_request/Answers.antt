use Rattle.std.proofs.Common.{refl, sym}
use Rattle.sv_turn.specs.Passes.{pass_view}
use Rattle.sv_buf.specs.Serving.{queued_again}
use Rattle.sv_buf.proofs.Flushing.{named-below}
use Rattle.sv_buf.proofs.Serving.{waits}
use Rattle.sv_buf.proofs.worker.run_request.Goals as goal

pub block_of-requires : goal.block_of-requires
block_of-requires g c = record {
  in_range = (waits _ c.args.state (pass_view c.args.pass.now) c.requires.queued.others c.args.buffer
      c.requires.queued.so).held.busy.in_range;
}

pub write_queued-requires-clause-inside : goal.write_queued-requires-clause-inside
write_queued-requires-clause-inside g c = named-below _ (queued_again c.args.state c.args.buffer) (pass_view c.args.pass.now)
    (pass_view c.args.pass.now) c.requires.queued.others c.args.buffer c.in-Some.block c.requires.queued.so refl c.requires.resting.some
    (sym c.in-Some.ensures.block)

pub read_queued-requires-clause-inside : goal.read_queued-requires-clause-inside
read_queued-requires-clause-inside g c = named-below _ (queued_again c.args.state c.args.buffer) (pass_view c.args.pass.now)
    (pass_view c.args.pass.now) c.requires.queued.others c.args.buffer c.in-Some.block c.requires.queued.so refl c.requires.resting.some
    (sym c.in-Some.ensures.block)
