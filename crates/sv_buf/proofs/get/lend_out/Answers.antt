use Rattle.std.proofs.Common.{◌∷◌, ◌∙◌, refl, sym, ap, subst}
use Rattle.sv_turn.specs.Passes.{pass_view}
use Rattle.sv_buf.specs.Changes.{lent_view, calm_view}
use Rattle.sv_buf.specs.Running.{IsRunning, seen_by}
use Rattle.sv_buf.proofs.Taking.{lends}
use Rattle.sv_buf.proofs.Reading.{moving-gets}
use Rattle.sv_buf.proofs.get.lend_out.Goals as goal

pub leave_with-requires-clause-rule : goal.leave_with-requires-clause-rule
leave_with-requires-clause-rule g c = (
  c.requires.taken.may.0,
  c.requires.taken.may.1,
  λ others h.
      subst (λ q. IsRunning (seen_by g.D.Medium.content g.D.Medium.reads g.D.Medium.writes g.D.Medium.faults) c.args.state
      (lent_view c.args.buffer c.args.block q (calm_view (pass_view c.args.pass.now)) ∷ others)) (sym c.as_slice.ensures.value)
      (lends (seen_by g.D.Medium.content g.D.Medium.reads g.D.Medium.writes g.D.Medium.faults) c.args.state
      (calm_view (pass_view c.args.pass.now)) others c.args.buffer c.args.block c.args.bytes.items refl
      (c.requires.taken.may.2 others h)),
)

pub returns-clause-gets : goal.returns-clause-gets
returns-clause-gets g c = moving-gets _ c.args.state (pass_view c.args.pass.now) _ c.args.buffer c.args.block c.args.bytes.items
    c.new.result c.requires.some c.requires.taken.so c.new.ensures.block c.new.ensures.bytes

pub returns-clause-view : goal.returns-clause-view
returns-clause-view g c =
    c.leave_with.ensures.view ∙ ap (λ q. lent_view c.args.buffer c.args.block q (calm_view (pass_view c.args.pass.now)))
    (c.as_slice.ensures.value ∙ sym c.new.ensures.bytes)
