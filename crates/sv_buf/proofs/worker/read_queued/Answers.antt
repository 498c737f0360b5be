use Rattle.std.proofs.Common.{◌∙◌, None, refl, sym, subst}
use Rattle.sv_turn.specs.Passes.{pass_view}
use Rattle.sv_buf.specs.Changes.{moving_view}
use Rattle.sv_buf.specs.Resting.{IsResting}
use Rattle.sv_buf.specs.Serving.{queued_again}
use Rattle.sv_buf.proofs.Flushing.{calm-moved, brings-moved}
use Rattle.sv_buf.proofs.Getting.{pending-step}
use Rattle.sv_buf.proofs.Serving.{takes-queued}
use Rattle.sv_buf.proofs.worker.read_queued.Goals as goal

pub fetch_device-disk-requires-clause-pending : goal.fetch_device-disk-requires-clause-pending
fetch_device-disk-requires-clause-pending g c =
    pending-step _ c.args.pass.now (queued_again c.args.state c.args.buffer) (record c.args.state { core = c.lend-bytes.new.self })
    (pass_view c.args.pass.now) (moving_view c.args.buffer c.args.block None (pass_view c.args.pass.now)) c.requires.queued
    (λ others h. takes-queued _ c.args.state c.lend-bytes.new.self (pass_view c.args.pass.now) others c.args.buffer c.args.block None h
    c.requires.resting.calm c.lend-bytes.ensures.after c.lend-bytes.ensures.lawful c.requires.named tt c.requires.invalid)

pub read_home-requires-clause-resting : goal.read_home-requires-clause-resting
read_home-requires-clause-resting g c =
    subst IsResting (sym (calm-moved (pass_view c.args.pass.now) (moving_view c.args.buffer c.args.block None (pass_view c.args.pass.now))
    (pass_view c.fetch_device-disk.new.pass) _ c.args.buffer c.args.block None refl c.fetch_device-disk.ensures.view
    c.requires.resting.calm c.requires.resting.home)) c.requires.resting

pub read_home-requires-clause-out : goal.read_home-requires-clause-out
read_home-requires-clause-out g c =
    brings-moved (pass_view c.args.pass.now) (moving_view c.args.buffer c.args.block None (pass_view c.args.pass.now))
    (pass_view c.fetch_device-disk.new.pass) _ c.args.buffer c.args.block None refl c.fetch_device-disk.ensures.view
    c.requires.resting.calm c.requires.resting.home

pub returns-clause-view : goal.returns-clause-view
returns-clause-view g c =
    c.read_home.ensures.view ∙ calm-moved (pass_view c.args.pass.now)
    (moving_view c.args.buffer c.args.block None (pass_view c.args.pass.now))
    (pass_view c.fetch_device-disk.new.pass) _ c.args.buffer c.args.block None refl c.fetch_device-disk.ensures.view
    c.requires.resting.calm c.requires.resting.home
