use Rattle.std.proofs.Common.{◌≡◌, ◌∙◌, ap}
use Rattle.sv_turn.specs.Passes.{pass_view}
use Rattle.sv_store.specs.declared.refusal.Refusal.TheVariants.{Fault}
use Rattle.sv_buf.specs.Changes.{calm_view, failed_view, written_view}
use Rattle.sv_buf.proofs.Writing.{brings-out, calm-written, on_ok, if_err}
use Rattle.sv_buf.proofs.write.put_now.Goals as goal

pub write_home-requires-clause-out : goal.write_home-requires-clause-out
write_home-requires-clause-out g c =
    brings-out (pass_view c.args.pass.now) (pass_view c.take_written-buffer.new.pass) (pass_view c.fetch-disk.new.pass) _
    c.take_written-buffer.result.0 c.args.buf.block c.block-block.result c.args.buf.bytes c.take_written-buffer.result.1.items
    c.take_written-buffer.ensures.view c.fetch-disk.ensures.view c.block-block.ensures c.take_written-buffer.ensures.bytes
    c.requires.fit.calm c.requires.fit.home

pub returns-clause-ok : goal.returns-clause-ok
returns-clause-ok g c =
    on_ok c.write_home.result (pass_view c.write_home.new.pass ≡ calm_view (pass_view c.fetch-disk.new.pass))
    (pass_view c.write_home.new.pass ≡ written_view c.args.buf.block c.args.buf.bytes (pass_view c.args.pass.now))
    (λ e. e ∙ calm-written (pass_view c.args.pass.now) (pass_view c.take_written-buffer.new.pass) (pass_view c.fetch-disk.new.pass) _
    c.take_written-buffer.result.0 c.args.buf.block c.args.buf.bytes c.take_written-buffer.ensures.view c.fetch-disk.ensures.view
    c.requires.fit.calm c.requires.fit.home) c.write_home.ensures.ok

pub returns-clause-err : goal.returns-clause-err
returns-clause-err g c =
    if_err c.write_home.result (λ e. (e ≡ Fault) × (pass_view c.write_home.new.pass ≡ failed_view
    (calm_view (pass_view c.fetch-disk.new.pass))))
    (λ e. (e ≡ Fault) × (pass_view c.write_home.new.pass ≡ failed_view (written_view c.args.buf.block c.args.buf.bytes
    (pass_view c.args.pass.now))))
    (λ e q. (
      q.0,
      q.1 ∙ ap failed_view (calm-written (pass_view c.args.pass.now) (pass_view c.take_written-buffer.new.pass)
          (pass_view c.fetch-disk.new.pass) _ c.take_written-buffer.result.0 c.args.buf.block c.args.buf.bytes
          c.take_written-buffer.ensures.view
          c.fetch-disk.ensures.view c.requires.fit.calm c.requires.fit.home),
    )) c.write_home.ensures.err
