use Rattle.std.proofs.Common.{◌∷◌, Some, sym, subst}
use Rattle.sv_turn.specs.Passes.{pass_view}
use Rattle.sv_buf.specs.Changes.{moving_view, forced_view}
use Rattle.sv_buf.specs.Running.{IsRunning, seen_by}
use Rattle.sv_buf.proofs.Flushing.{forces, inside-counted, named-below, takes-unwritten}
use Rattle.sv_buf.proofs.flush.take_unwritten.Goals as goal

pub unwritten_block-requires : goal.unwritten_block-requires
unwritten_block-requires g c = record {
  inside = inside-counted _ c.enter-state.result (pass_view c.args.pass.now) (pass_view c.enter-state.new.pass)
      c.enter-state.ensures.holds.0 c.args.buffer c.enter-state.ensures.holds.1 c.enter-state.ensures.same.1 c.requires.resting.some
      c.requires.inside;
}

pub leave-requires-clause-rule : goal.leave-requires-clause-rule
leave-requires-clause-rule g c = (
  c.enter-state.result,
  c.enter-state.ensures.inside,
  λ others h. forces _ c.enter-state.result (pass_view c.enter-state.new.pass) others h,
)

pub leave_with-requires-clause-rule : goal.leave_with-requires-clause-rule
leave_with-requires-clause-rule g c = (
  c.enter-state.result,
  c.enter-state.ensures.inside,
  λ others h.
      subst (λ q. IsRunning (seen_by g.D.Medium.content g.D.Medium.reads g.D.Medium.writes g.D.Medium.faults)
      (record c.enter-state.result { core = c.take_out-bytes.new.core }) (moving_view c.args.buffer c.in-Some.block
      (Some q) (forced_view (pass_view c.enter-state.new.pass)) ∷ others)) (sym c.as_slice.ensures.value)
      (takes-unwritten _ c.enter-state.result c.take_out-bytes.new.core (pass_view c.args.pass.now) (pass_view c.enter-state.new.pass)
      others c.args.buffer c.in-Some.block c.take_out-bytes.result.items h c.enter-state.ensures.same.1 c.requires.resting.calm
      c.in-Some.ensures.free c.in-Some.ensures.named c.in-Some.ensures.delayed c.take_out-bytes.ensures.bytes
      c.take_out-bytes.ensures.after c.take_out-bytes.ensures.lawful),
)

pub returns-clause-block : goal.returns-clause-block
returns-clause-block g c = named-below _ c.enter-state.result (pass_view c.args.pass.now) (pass_view c.enter-state.new.pass)
    c.enter-state.ensures.holds.0 c.args.buffer c.in-Some.block c.enter-state.ensures.holds.1 c.enter-state.ensures.same.1
    c.requires.resting.some c.in-Some.ensures.named
