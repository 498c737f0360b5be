use Rattle.std.proofs.Common.{◌≡◌, ◌∙◌, ap, subst}
use Rattle.sv_turn.specs.Passes.{pass_view}
use Rattle.sv_buf.specs.Changes.{calm_view, device_view}
use Rattle.sv_buf.specs.Running.{IsRunning, seen_by}
use Rattle.sv_buf.specs.Pending.{IsPending}
use Rattle.sv_buf.proofs.Getting.{pending-entered}
use Rattle.sv_buf.proofs.Writing.{calm-is}
use Rattle.sv_buf.proofs.clear.write_met.Goals as goal

pub returns-in-Ok-clause-ok : goal.returns-in-Ok-clause-ok
returns-in-Ok-clause-ok g c =
    let same : pass_view c.enter.new.pass ≡ pass_view c.args.pass.now = c.enter.ensures.same.1
    ∙ (c.in-Ok.ensures.ok
    ∙ (ap calm_view (c.fetch-disk.ensures.view ∙ ap (device_view (seen_by g.D.Medium.content g.D.Medium.reads g.D.Medium.writes
    g.D.Medium.faults c.fetch-disk.result)) c.take_met-bytes.ensures.view)
    ∙ calm-is (pass_view c.args.pass.now) c.requires.fit.calm c.requires.fit.home)) in (
      same,
      subst (λ x. IsPending (IsRunning (seen_by g.D.Medium.content g.D.Medium.reads g.D.Medium.writes g.D.Medium.faults))
          c.enter.new.pass c.enter.result x) same
          (pending-entered _ c.enter.new.pass c.enter.result c.enter.ensures.holds.0 c.enter.ensures.inside c.enter.ensures.holds.1),
    )
