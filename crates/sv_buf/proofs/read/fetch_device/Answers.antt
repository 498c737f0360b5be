use Rattle.std.proofs.Common.{◌∷◌, ◌∙◌, None, sym, subst}
use Rattle.sv_turn.specs.Passes.{pass_view}
use Rattle.sv_buf.specs.Changes.{moving_view, device_view}
use Rattle.sv_buf.specs.Running.{IsRunning, seen_by}
use Rattle.sv_buf.proofs.Reading.{takes_device, home-whole, not_taken}
use Rattle.sv_buf.proofs.Getting.{pending-step}
use Rattle.sv_buf.proofs.read.fetch_device.Goals as goal

pub leave_with_device-requires-clause-rule : goal.leave_with_device-requires-clause-rule
leave_with_device-requires-clause-rule g c =
    let pending = c.loop.invariant.3 in (
      pending.may.0,
      pending.may.1,
      λ others h.
          subst (λ w. IsRunning (seen_by g.D.Medium.content g.D.Medium.reads g.D.Medium.writes g.D.Medium.faults)
          (record c.loop.state { core = c.take_device.new.self }) (device_view
          (seen_by g.D.Medium.content g.D.Medium.reads g.D.Medium.writes g.D.Medium.faults c.in-Some-take_device.disk) w ∷ others))
          (sym c.loop.invariant.2)
          (takes_device _ c.loop.state c.take_device.new.self (moving_view c.args.buffer c.args.block None (pass_view c.args.pass.now))
          others (pending.may.2 others h) c.in-Some-take_device.disk c.requires.home (sym c.take_device.ensures.device
          ∙ c.in-Some-take_device.is) c.take_device.ensures.after c.take_device.ensures.lawful),
    )

pub returns-in-Some-take_device-clause-whole : goal.returns-in-Some-take_device-clause-whole
returns-in-Some-take_device-clause-whole g c =
    let pending = c.loop.invariant.3 in
    home-whole _ c.loop.state (moving_view c.args.buffer c.args.block None (pass_view c.args.pass.now)) pending.others pending.so
    c.in-Some-take_device.disk c.requires.some (sym c.take_device.ensures.device ∙ c.in-Some-take_device.is)

pub wait_for_device-state-requires-clause-pending : goal.wait_for_device-state-requires-clause-pending
wait_for_device-state-requires-clause-pending g c =
    pending-step _ c.loop.pass c.loop.state (record c.loop.state { core = c.take_device.new.self })
    (moving_view c.args.buffer c.args.block None (pass_view c.args.pass.now)) (moving_view c.args.buffer c.args.block None
    (pass_view c.loop.pass)) c.loop.invariant.3
    (λ others h. subst (λ w. IsRunning (seen_by g.D.Medium.content g.D.Medium.reads g.D.Medium.writes g.D.Medium.faults)
    (record c.loop.state { core = c.take_device.new.self }) (w ∷ others)) (sym c.loop.invariant.2)
    (not_taken _ c.loop.state c.take_device.new.self (moving_view c.args.buffer c.args.block None (pass_view c.args.pass.now) ∷ others)
    (sym c.take_device.ensures.device ∙ c.in-None-take_device.is) c.take_device.ensures.after h))
