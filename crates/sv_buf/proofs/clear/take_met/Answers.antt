use Rattle.std.proofs.Common.{◌∷◌, ◌∙◌, Some, sym, ap, subst}
use Rattle.sv_turn.specs.Passes.{pass_view}
use Rattle.sv_buf.specs.Changes.{calm_view, moving_view}
use Rattle.sv_buf.specs.Running.{IsRunning, seen_by}
use Rattle.sv_buf.proofs.Clearing.{met-moving, met-below}
use Rattle.sv_buf.proofs.clear.take_met.Goals as goal

pub leave_with-requires-clause-rule : goal.leave_with-requires-clause-rule
leave_with-requires-clause-rule g c =
    let pending = met-moving (seen_by g.D.Medium.content g.D.Medium.reads g.D.Medium.writes g.D.Medium.faults) c.args.pass.now
    c.args.state c.lend-bytes.new.self c.args.buffer c.args.block c.lend-bytes.result.items c.requires.met c.requires.fit
    c.requires.named c.lend-bytes.ensures.lent c.lend-bytes.ensures.after c.lend-bytes.ensures.lawful in (
      pending.may.0,
      pending.may.1,
      λ others h.
          subst (λ q. IsRunning (seen_by g.D.Medium.content g.D.Medium.reads g.D.Medium.writes g.D.Medium.faults)
          (record c.args.state { core = c.lend-bytes.new.self }) (moving_view c.args.buffer c.args.block (Some q)
          (calm_view (pass_view c.args.pass.now)) ∷ others)) (sym c.as_slice.ensures.value) (pending.may.2 others h),
    )

pub returns-clause-view : goal.returns-clause-view
returns-clause-view g c =
    c.leave_with.ensures.view
    ∙ ap (λ q. moving_view c.args.buffer c.args.block (Some q) (calm_view (pass_view c.args.pass.now))) c.as_slice.ensures.value

pub returns-clause-inside : goal.returns-clause-inside
returns-clause-inside g c = met-below _ c.args.pass.now c.args.state c.args.buffer c.args.block c.requires.met c.requires.fit
    c.requires.named
