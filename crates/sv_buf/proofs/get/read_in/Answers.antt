use Rattle.std.proofs.Common.{◌∙◌, ℕ, List, None, Some, subst}
use Rattle.sv_turn.specs.Passes.{pass_view}
use Rattle.sv_store.specs.Calls.{Gets}
use Rattle.sv_buf.specs.View.{View, held_of}
use Rattle.sv_buf.specs.Changes.{calm_view, moving_view, failed_view}
use Rattle.sv_buf.proofs.Getting.{pending-step, pending-entered}
use Rattle.sv_buf.proofs.Reading.{read-ok, read-failed, block-read}
use Rattle.sv_buf.proofs.get.read_in.Goals as goal

pub lend_out-requires-clause-taken : goal.lend_out-requires-clause-taken
lend_out-requires-clause-taken g c =
    let view = c.enter-state.ensures.same.1 ∙ c.fetch_device-disk.ensures.view in
    let are = c.in-Ok.ensures.read ∙ block-read (pass_view c.args.pass.now).opening.sizes
    (g.D.Medium.content c.fetch_device-disk.result) c.args.block c.requires.fit.sizes.block_size in
    pending-step _ c.enter-state.new.pass c.enter-state.result (record c.enter-state.result { core = c.put_device.new.self })
    (pass_view c.enter-state.new.pass)
    (moving_view c.args.buffer c.args.block (Some c.read_block-read.new.bytes.items) (calm_view (pass_view c.enter-state.new.pass)))
    (pending-entered _ c.enter-state.new.pass c.enter-state.result c.enter-state.ensures.holds.0 c.enter-state.ensures.inside
    c.enter-state.ensures.holds.1)
    (λ others h. read-ok _ c.enter-state.result c.put_device.new.self (pass_view c.args.pass.now) (pass_view c.enter-state.new.pass)
    others _ c.args.buffer c.args.block c.read_block-read.new.bytes.items c.read_block-read.new.disk c.requires.fit.some view h
    are c.read_block-read.ensures.content c.read_block-read.ensures.cause.no_less c.put_device.ensures.after c.put_device.ensures.lawful)

pub give_unread-requires-clause-taken : goal.give_unread-requires-clause-taken
give_unread-requires-clause-taken g c =
    let view = c.enter-state.ensures.same.1 ∙ c.fetch_device-disk.ensures.view in
    pending-step _ c.enter-state.new.pass c.enter-state.result (record c.enter-state.result { core = c.put_device.new.self })
    (pass_view c.enter-state.new.pass)
    (moving_view c.args.buffer c.args.block None (failed_view (calm_view (pass_view c.enter-state.new.pass))))
    (pending-entered _ c.enter-state.new.pass c.enter-state.result c.enter-state.ensures.holds.0 c.enter-state.ensures.inside
    c.enter-state.ensures.holds.1)
    (λ others h. read-failed _ c.enter-state.result c.put_device.new.self (pass_view c.args.pass.now) (pass_view c.enter-state.new.pass)
    others _ c.args.buffer c.args.block c.read_block-read.new.disk view h
    c.read_block-read.ensures.content c.in-Err.ensures.cause.failed c.put_device.ensures.after c.put_device.ensures.lawful)

pub returns-in-Ok-clause-gets : goal.returns-in-Ok-clause-gets
returns-in-Ok-clause-gets g c =
    subst (λ (x : View). (id : List ℕ) → Gets (record { id = id; sizes = x.opening.sizes }) (held_of x.lines) c.args.block
    c.lend_out.result) (c.enter-state.ensures.same.1 ∙ c.fetch_device-disk.ensures.view) c.lend_out.ensures.gets
