use Rattle.std.proofs.Common.{◌≡◌, ◌<◌, ◌∙◌, None, sym, ap, subst, arith}
use Rattle.sv_form.specs.Image.{block_of}
use Rattle.sv_turn.specs.Passes.{pass_view}
use Rattle.sv_cache.specs.Brelse.{after_release}
use Rattle.sv_buf.specs.View.{View}
use Rattle.sv_buf.specs.Changes.{calm_view}
use Rattle.sv_buf.proofs.Getting.{pending-step, pending-entered}
use Rattle.sv_buf.proofs.Reading.{block-read}
use Rattle.sv_buf.proofs.Returning.{counted-inside, some-under}
use Rattle.sv_buf.proofs.Writing.{out-under, on_ok}
use Rattle.sv_buf.proofs.Serving.{brought-read, reads_home}
use Rattle.sv_buf.proofs.worker.read_home.Goals as goal

pub give_home-requires-clause-busy : goal.give_home-requires-clause-busy
give_home-requires-clause-busy g c =
    let is = out-under (pass_view c.args.pass.now) (pass_view c.enter-state.new.pass) _ c.args.buffer c.args.block
    None c.enter-state.ensures.same.1 c.requires.out in
    let here = brought-read _ c.enter-state.result c.put_device.new.self (pass_view c.enter-state.new.pass) c.enter-state.ensures.holds.0 _
    c.args.buffer c.args.block c.args.bytes.items c.read_block-read.new.disk is c.enter-state.ensures.holds.1
    c.put_device.ensures.after in
    here.busy

pub give_home-requires-clause-out : goal.give_home-requires-clause-out
give_home-requires-clause-out g c =
    let is = out-under (pass_view c.args.pass.now) (pass_view c.enter-state.new.pass) _ c.args.buffer c.args.block
    None c.enter-state.ensures.same.1 c.requires.out in
    let here = brought-read _ c.enter-state.result c.put_device.new.self (pass_view c.enter-state.new.pass) c.enter-state.ensures.holds.0 _
    c.args.buffer c.args.block c.args.bytes.items c.read_block-read.new.disk is c.enter-state.ensures.holds.1
    c.put_device.ensures.after in
    here.away

pub give_home-requires-clause-size : goal.give_home-requires-clause-size
give_home-requires-clause-size g c =
    let is = out-under (pass_view c.args.pass.now) (pass_view c.enter-state.new.pass) _ c.args.buffer c.args.block
    None c.enter-state.ensures.same.1 c.requires.out in
    let here = brought-read _ c.enter-state.result c.put_device.new.self (pass_view c.enter-state.new.pass) c.enter-state.ensures.holds.0 _
    c.args.buffer c.args.block c.args.bytes.items c.read_block-read.new.disk is c.enter-state.ensures.holds.1
    c.put_device.ensures.after in
    c.read_block-read.ensures.size ∙ sym here.size

pub give_home-requires-clause-few : goal.give_home-requires-clause-few
give_home-requires-clause-few g c =
    let is = out-under (pass_view c.args.pass.now) (pass_view c.enter-state.new.pass) _ c.args.buffer c.args.block
    None c.enter-state.ensures.same.1 c.requires.out in
    let here = brought-read _ c.enter-state.result c.put_device.new.self (pass_view c.enter-state.new.pass) c.enter-state.ensures.holds.0 _
    c.args.buffer c.args.block c.args.bytes.items c.read_block-read.new.disk is c.enter-state.ensures.holds.1
    c.put_device.ensures.after in
    here.few

pub give_home-requires-clause-events : goal.give_home-requires-clause-events
give_home-requires-clause-events g c =
    let is = out-under (pass_view c.args.pass.now) (pass_view c.enter-state.new.pass) _ c.args.buffer c.args.block
    None c.enter-state.ensures.same.1 c.requires.out in
    let here = brought-read _ c.enter-state.result c.put_device.new.self (pass_view c.enter-state.new.pass) c.enter-state.ensures.holds.0 _
    c.args.buffer c.args.block c.args.bytes.items c.read_block-read.new.disk is c.enter-state.ensures.holds.1
    c.put_device.ensures.after in
    let counted = counted-inside _ c.enter-state.result (pass_view c.enter-state.new.pass) c.enter-state.ensures.holds.0
    c.enter-state.ensures.holds.1 c.args.buffer (some-under (pass_view c.args.pass.now) (pass_view c.enter-state.new.pass)
    c.enter-state.ensures.same.1 c.requires.resting.some) here.counted in
    let below : c.args.buffer < (pass_view c.args.pass.now).opening.buffers = subst (λ (v : View). c.args.buffer < v.opening.buffers)
    c.enter-state.ensures.same.1 counted in
    omega (arith, below, c.requires.events)

pub give_home-requires-clause-pending : goal.give_home-requires-clause-pending
give_home-requires-clause-pending g c =
    let same = c.enter-state.ensures.same.1 in
    let is = out-under (pass_view c.args.pass.now) (pass_view c.enter-state.new.pass) _ c.args.buffer c.args.block None same
    c.requires.out in
    let some = some-under (pass_view c.args.pass.now) (pass_view c.enter-state.new.pass) same c.requires.resting.some in
    let are = on_ok c.read_block-read.result _ (c.read_block-read.new.bytes.items ≡ block_of
    (pass_view c.enter-state.new.pass).opening.sizes (g.D.Medium.content c.args.disk) c.args.block)
    (λ p. p ∙ (block-read (pass_view c.args.pass.now).opening.sizes (g.D.Medium.content c.args.disk) c.args.block
    c.requires.resting.sizes.block_size
    ∙ ap (λ (v : View). block_of v.opening.sizes (g.D.Medium.content c.args.disk) c.args.block) (sym same)))
    c.read_block-read.ensures.read in
    pending-step _ c.enter-state.new.pass c.enter-state.result (record c.enter-state.result {
      core = after_release c.put_device.new.self c.args.buffer c.read_block-read.new.bytes.items c.after_read-how.result;
    }) (pass_view c.enter-state.new.pass) (calm_view (pass_view c.enter-state.new.pass))
    (pending-entered _ c.enter-state.new.pass c.enter-state.result c.enter-state.ensures.holds.0 c.enter-state.ensures.inside
    c.enter-state.ensures.holds.1)
    (λ others h. reads_home c.read_block-read.result _ c.enter-state.result c.put_device.new.self (pass_view c.enter-state.new.pass) others _
    c.args.buffer c.args.block c.read_block-read.new.bytes.items c.read_block-read.new.disk c.after_read-how.result is h some
    (sym c.read_block-read.new.bytes.ok.0 ∙ c.read_block-read.ensures.size) are c.read_block-read.ensures.content
    c.read_block-read.ensures.cause.no_less c.put_device.ensures.after c.put_device.ensures.lawful c.after_read-how.ensures.valid
    c.after_read-how.ensures.invalid)
