use Rattle.std.proofs.Common.{◌∷◌, Some, sym, subst}
use Rattle.sv_turn.specs.Passes.{pass_view}
use Rattle.sv_buf.specs.Changes.{moving_view}
use Rattle.sv_buf.specs.Running.{IsRunning, seen_by}
use Rattle.sv_buf.proofs.Serving.{takes-queued}
use Rattle.sv_buf.proofs.worker.write_queued.Goals as goal

pub leave_with-requires-clause-rule : goal.leave_with-requires-clause-rule
leave_with-requires-clause-rule g c = (
  c.requires.queued.may.0,
  c.requires.queued.may.1,
  λ others p.
      let h = c.requires.queued.may.2 others p in
      subst (λ q. IsRunning (seen_by g.D.Medium.content g.D.Medium.reads g.D.Medium.writes g.D.Medium.faults)
      (record c.args.state { core = c.lend-bytes.new.self }) (moving_view c.args.buffer c.args.block (Some q)
      (pass_view c.args.pass.now) ∷ others)) (sym c.as_slice.ensures.value)
      (takes-queued _ c.args.state c.lend-bytes.new.self (pass_view c.args.pass.now) others c.args.buffer c.args.block
      (Some c.lend-bytes.result.items) h c.requires.resting.calm c.lend-bytes.ensures.after c.lend-bytes.ensures.lawful c.requires.named
      (h.kept.bytes.delayed_valid c.args.buffer c.requires.delayed, c.lend-bytes.ensures.lent) tt),
)
