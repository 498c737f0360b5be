use Rattle.std.proofs.Common.{◌*◌, ◌<◌, ◌∙◌, Some, refl, sym, ap, subst, arith}
use Rattle.sv_dev.specs.Transfer.{overwritten}
use Rattle.sv_turn.specs.Passes.{pass_view}
use Rattle.sv_cache.specs.Brelse.{after_release}
use Rattle.sv_cache.specs.declared.scenario.Release.TheVariants as how
use Rattle.sv_buf.specs.View.{View, weight}
use Rattle.sv_buf.specs.Changes.{moving_view, calm_view}
use Rattle.sv_buf.specs.Running.{seen_by}
use Rattle.sv_buf.specs.Serving.{MayCount}
use Rattle.sv_buf.proofs.Getting.{pending-step, pending-entered}
use Rattle.sv_buf.proofs.Returning.{counted-inside, some-under}
use Rattle.sv_buf.proofs.Writing.{brought, gone_out, out-under, written-ok, written-failed}
use Rattle.sv_buf.proofs.write.bring_home.Goals as goal

pub put_device-requires : goal.put_device-requires
put_device-requires g c = record {
  out = gone_out _ c.enter-state.result (pass_view c.enter-state.new.pass)
      (moving_view c.args.buffer c.args.block (Some c.args.bytes.items) (calm_view (pass_view c.args.pass.now)))
      c.enter-state.ensures.holds.0
      (seen_by g.D.Medium.content g.D.Medium.reads g.D.Medium.writes g.D.Medium.faults c.args.disk)
      (c.enter-state.ensures.same.1 ∙ c.requires.out) c.enter-state.ensures.holds.1;
}

pub give_home-requires-clause-busy : goal.give_home-requires-clause-busy
give_home-requires-clause-busy g c =
    let is = out-under (pass_view c.args.pass.now) (pass_view c.enter-state.new.pass) _ c.args.buffer c.args.block
    (Some c.args.bytes.items) c.enter-state.ensures.same.1 c.requires.out in
    let here = brought _ c.enter-state.result c.put_device.new.self (pass_view c.enter-state.new.pass) c.enter-state.ensures.holds.0 _
    c.args.buffer c.args.block c.args.bytes.items c.write_block-wrote.new.disk is c.enter-state.ensures.holds.1
    c.put_device.ensures.after in
    here.busy

pub give_home-requires-clause-out : goal.give_home-requires-clause-out
give_home-requires-clause-out g c =
    let is = out-under (pass_view c.args.pass.now) (pass_view c.enter-state.new.pass) _ c.args.buffer c.args.block
    (Some c.args.bytes.items) c.enter-state.ensures.same.1 c.requires.out in
    let here = brought _ c.enter-state.result c.put_device.new.self (pass_view c.enter-state.new.pass) c.enter-state.ensures.holds.0 _
    c.args.buffer c.args.block c.args.bytes.items c.write_block-wrote.new.disk is c.enter-state.ensures.holds.1
    c.put_device.ensures.after in
    here.away

pub give_home-requires-clause-size : goal.give_home-requires-clause-size
give_home-requires-clause-size g c =
    let is = out-under (pass_view c.args.pass.now) (pass_view c.enter-state.new.pass) _ c.args.buffer c.args.block
    (Some c.args.bytes.items) c.enter-state.ensures.same.1 c.requires.out in
    let here = brought _ c.enter-state.result c.put_device.new.self (pass_view c.enter-state.new.pass) c.enter-state.ensures.holds.0 _
    c.args.buffer c.args.block c.args.bytes.items c.write_block-wrote.new.disk is c.enter-state.ensures.holds.1
    c.put_device.ensures.after in
    c.requires.size ∙ sym here.size

pub give_home-requires-clause-few : goal.give_home-requires-clause-few
give_home-requires-clause-few g c =
    let is = out-under (pass_view c.args.pass.now) (pass_view c.enter-state.new.pass) _ c.args.buffer c.args.block
    (Some c.args.bytes.items) c.enter-state.ensures.same.1 c.requires.out in
    let here = brought _ c.enter-state.result c.put_device.new.self (pass_view c.enter-state.new.pass) c.enter-state.ensures.holds.0 _
    c.args.buffer c.args.block c.args.bytes.items c.write_block-wrote.new.disk is c.enter-state.ensures.holds.1
    c.put_device.ensures.after in
    here.few

pub give_home-requires-clause-events : goal.give_home-requires-clause-events
give_home-requires-clause-events g c =
    let is = out-under (pass_view c.args.pass.now) (pass_view c.enter-state.new.pass) _ c.args.buffer c.args.block
    (Some c.args.bytes.items) c.enter-state.ensures.same.1 c.requires.out in
    let here = brought _ c.enter-state.result c.put_device.new.self (pass_view c.enter-state.new.pass) c.enter-state.ensures.holds.0 _
    c.args.buffer c.args.block c.args.bytes.items c.write_block-wrote.new.disk is c.enter-state.ensures.holds.1
    c.put_device.ensures.after in
    let counted = counted-inside _ c.enter-state.result (pass_view c.enter-state.new.pass) c.enter-state.ensures.holds.0
    c.enter-state.ensures.holds.1 c.args.buffer (some-under (pass_view c.args.pass.now) (pass_view c.enter-state.new.pass)
    c.enter-state.ensures.same.1 c.requires.some) here.counted in
    let below : c.args.buffer < (pass_view c.args.pass.now).opening.buffers = subst (λ (v : View). c.args.buffer < v.opening.buffers)
    c.enter-state.ensures.same.1 counted in
    omega (arith, below, c.requires.events)

pub give_home-requires-clause-pending : goal.give_home-requires-clause-pending
give_home-requires-clause-pending g c =
    let is = out-under (pass_view c.args.pass.now) (pass_view c.enter-state.new.pass) _ c.args.buffer c.args.block
    (Some c.args.bytes.items) c.enter-state.ensures.same.1 c.requires.out in
    pending-step _ c.enter-state.new.pass c.enter-state.result (record c.enter-state.result {
      core = after_release c.put_device.new.self c.args.buffer c.args.bytes.items c.args.clean;
    }) (pass_view c.enter-state.new.pass) (calm_view (pass_view c.enter-state.new.pass))
    (pending-entered _ c.enter-state.new.pass c.enter-state.result c.enter-state.ensures.holds.0 c.enter-state.ensures.inside
    c.enter-state.ensures.holds.1)
    (λ others h. written-ok _ c.enter-state.result c.put_device.new.self (pass_view c.enter-state.new.pass) others _ c.args.buffer
    c.args.block c.args.bytes.items c.write_block-wrote.new.disk c.args.clean is h (sym c.args.bytes.ok.0 ∙ c.requires.size)
    c.requires.clean
    (c.in-Ok.ensures.written ∙ ap (λ q. overwritten (g.D.Medium.content c.args.disk) (c.args.block * 1024) q) c.as_slice.ensures.value)
    c.in-Ok.ensures.nothing_else c.put_device.ensures.after c.put_device.ensures.lawful)

pub give_home-requires-in-Err-clause-busy : goal.give_home-requires-in-Err-clause-busy
give_home-requires-in-Err-clause-busy g c =
    let is = out-under (pass_view c.args.pass.now) (pass_view c.enter-state.new.pass) _ c.args.buffer c.args.block
    (Some c.args.bytes.items) c.enter-state.ensures.same.1 c.requires.out in
    let here = brought _ c.enter-state.result c.put_device.new.self (pass_view c.enter-state.new.pass) c.enter-state.ensures.holds.0 _
    c.args.buffer c.args.block c.args.bytes.items c.write_block-wrote.new.disk is c.enter-state.ensures.holds.1
    c.put_device.ensures.after in
    here.busy

pub give_home-requires-in-Err-clause-out : goal.give_home-requires-in-Err-clause-out
give_home-requires-in-Err-clause-out g c =
    let is = out-under (pass_view c.args.pass.now) (pass_view c.enter-state.new.pass) _ c.args.buffer c.args.block
    (Some c.args.bytes.items) c.enter-state.ensures.same.1 c.requires.out in
    let here = brought _ c.enter-state.result c.put_device.new.self (pass_view c.enter-state.new.pass) c.enter-state.ensures.holds.0 _
    c.args.buffer c.args.block c.args.bytes.items c.write_block-wrote.new.disk is c.enter-state.ensures.holds.1
    c.put_device.ensures.after in
    here.away

pub give_home-requires-in-Err-clause-size : goal.give_home-requires-in-Err-clause-size
give_home-requires-in-Err-clause-size g c =
    let is = out-under (pass_view c.args.pass.now) (pass_view c.enter-state.new.pass) _ c.args.buffer c.args.block
    (Some c.args.bytes.items) c.enter-state.ensures.same.1 c.requires.out in
    let here = brought _ c.enter-state.result c.put_device.new.self (pass_view c.enter-state.new.pass) c.enter-state.ensures.holds.0 _
    c.args.buffer c.args.block c.args.bytes.items c.write_block-wrote.new.disk is c.enter-state.ensures.holds.1
    c.put_device.ensures.after in
    c.requires.size ∙ sym here.size

pub give_home-requires-in-Err-clause-few : goal.give_home-requires-in-Err-clause-few
give_home-requires-in-Err-clause-few g c =
    let is = out-under (pass_view c.args.pass.now) (pass_view c.enter-state.new.pass) _ c.args.buffer c.args.block
    (Some c.args.bytes.items) c.enter-state.ensures.same.1 c.requires.out in
    let here = brought _ c.enter-state.result c.put_device.new.self (pass_view c.enter-state.new.pass) c.enter-state.ensures.holds.0 _
    c.args.buffer c.args.block c.args.bytes.items c.write_block-wrote.new.disk is c.enter-state.ensures.holds.1
    c.put_device.ensures.after in
    here.few

pub give_home-requires-in-Err-clause-events : goal.give_home-requires-in-Err-clause-events
give_home-requires-in-Err-clause-events g c =
    let is = out-under (pass_view c.args.pass.now) (pass_view c.enter-state.new.pass) _ c.args.buffer c.args.block
    (Some c.args.bytes.items) c.enter-state.ensures.same.1 c.requires.out in
    let here = brought _ c.enter-state.result c.put_device.new.self (pass_view c.enter-state.new.pass) c.enter-state.ensures.holds.0 _
    c.args.buffer c.args.block c.args.bytes.items c.write_block-wrote.new.disk is c.enter-state.ensures.holds.1
    c.put_device.ensures.after in
    let counted = counted-inside _ c.enter-state.result (pass_view c.enter-state.new.pass) c.enter-state.ensures.holds.0
    c.enter-state.ensures.holds.1 c.args.buffer (some-under (pass_view c.args.pass.now) (pass_view c.enter-state.new.pass)
    c.enter-state.ensures.same.1 c.requires.some) here.counted in
    let below : c.args.buffer < (pass_view c.args.pass.now).opening.buffers = subst (λ (v : View). c.args.buffer < v.opening.buffers)
    c.enter-state.ensures.same.1 counted in
    omega (arith, below, c.requires.events)

pub give_home-requires-in-Err-clause-pending : goal.give_home-requires-in-Err-clause-pending
give_home-requires-in-Err-clause-pending g c =
    let is = out-under (pass_view c.args.pass.now) (pass_view c.enter-state.new.pass) _ c.args.buffer c.args.block
    (Some c.args.bytes.items) c.enter-state.ensures.same.1 c.requires.out in
    let counts = subst (λ (v : View). MayCount v (g.N.NewView.next v)) (sym c.enter-state.ensures.same.1) c.requires.counts in
    pending-step _ c.enter-state.new.pass c.enter-state.result (record c.enter-state.result {
      core = after_release c.put_device.new.self c.args.buffer c.args.bytes.items how.FailedWrite;
    }) (pass_view c.enter-state.new.pass) (g.N.NewView.next (pass_view c.enter-state.new.pass))
    (pending-entered _ c.enter-state.new.pass c.enter-state.result c.enter-state.ensures.holds.0 c.enter-state.ensures.inside
    c.enter-state.ensures.holds.1)
    (λ others h. written-failed _ c.enter-state.result c.put_device.new.self (pass_view c.enter-state.new.pass)
    (g.N.NewView.next (pass_view c.enter-state.new.pass)) others _ c.args.buffer
    c.args.block c.args.bytes.items c.write_block-wrote.new.disk is h (sym c.args.bytes.ok.0 ∙ c.requires.size)
    c.in-Err.ensures.torn c.in-Err.ensures.cause.failed c.put_device.ensures.after c.put_device.ensures.lawful counts)

pub give_home-requires-in-Err-clause-weight : goal.give_home-requires-in-Err-clause-weight
give_home-requires-in-Err-clause-weight g c =
    let counts = subst (λ (v : View). MayCount v (g.N.NewView.next v)) (sym c.enter-state.ensures.same.1) c.requires.counts in
    ap weight counts.calm

pub returns-in-Err-clause-err : goal.returns-in-Err-clause-err
returns-in-Err-clause-err g c = (refl, c.give_home-in-Err.ensures.view ∙ ap g.N.NewView.next c.enter-state.ensures.same.1)
