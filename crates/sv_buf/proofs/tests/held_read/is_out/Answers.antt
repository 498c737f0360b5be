-- The device that was taken out is at home again, so the state is as it was entered.
use Rattle.std.proofs.Common.{◌∷◌, sym, subst}
use Rattle.sv_turn.specs.Passes.{pass_view}
use Rattle.sv_buf.specs.Running.{IsRunning, seen_by}
use Rattle.sv_buf.proofs.tests.held_read.is_out.Goals as goal

pub leave-requires-clause-rule : goal.leave-requires-clause-rule
leave-requires-clause-rule g c = (
  c.enter-state.result,
  c.enter-state.ensures.inside,
  λ others so. subst (λ k. IsRunning (seen_by g.D.Medium.content g.D.Medium.reads g.D.Medium.writes g.D.Medium.faults)
      (record c.enter-state.result { core = k }) (pass_view c.enter-state.new.pass ∷ others))
      (sym c.has_device-home.ensures) so,
)
