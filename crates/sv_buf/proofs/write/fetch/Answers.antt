use Rattle.std.proofs.Common.{◌∷◌, ◌∙◌, sym, subst}
use Rattle.sv_turn.specs.Passes.{pass_view}
use Rattle.sv_buf.specs.Changes.{device_view}
use Rattle.sv_buf.specs.Running.{IsRunning, seen_by}
use Rattle.sv_buf.proofs.Reading.{takes_device, home-whole, not_taken}
use Rattle.sv_buf.proofs.write.fetch.Goals as goal

pub leave_with_device-requires-clause-rule : goal.leave_with_device-requires-clause-rule
leave_with_device-requires-clause-rule g c =
    let pending = c.loop.invariant.3 in (
      pending.may.0,
      pending.may.1,
      λ others h.
          subst (λ w. IsRunning (seen_by g.D.Medium.content g.D.Medium.reads g.D.Medium.writes g.D.Medium.faults)
          (record c.loop.state { core = c.take_device.new.self }) (device_view
          (seen_by g.D.Medium.content g.D.Medium.reads g.D.Medium.writes g.D.Medium.faults c.in-Some-take_device.disk) w ∷ others))
          (sym c.loop.invariant.2)
          (takes_device _ c.loop.state c.take_device.new.self (pass_view c.args.pass.now)
          others (pending.may.2 others h) c.in-Some-take_device.disk c.requires.home (sym c.take_device.ensures.device
          ∙ c.in-Some-take_device.is) c.take_device.ensures.after c.take_device.ensures.lawful),
    )

pub returns-in-Some-take_device-clause-whole : goal.returns-in-Some-take_device-clause-whole
returns-in-Some-take_device-clause-whole g c =
    let pending = c.loop.invariant.3 in
    home-whole _ c.loop.state (pass_view c.args.pass.now) pending.others pending.so
    c.in-Some-take_device.disk c.requires.some (sym c.take_device.ensures.device ∙ c.in-Some-take_device.is)

pub sleep_with-state-requires-clause-rule : goal.sleep_with-state-requires-clause-rule
sleep_with-state-requires-clause-rule g c = (
  c.loop.invariant.3.may.0,
  c.loop.invariant.3.may.1,
  λ others h.
      subst (λ x. IsRunning (seen_by g.D.Medium.content g.D.Medium.reads g.D.Medium.writes g.D.Medium.faults)
      (record c.loop.state { core = c.take_device.new.self }) (x ∷ others)) (sym c.loop.invariant.2)
      (not_taken _ c.loop.state c.take_device.new.self (pass_view c.args.pass.now ∷ others)
      (sym c.take_device.ensures.device ∙ c.in-None-take_device.is) c.take_device.ensures.after
      (c.loop.invariant.3.may.2 others h)),
)
