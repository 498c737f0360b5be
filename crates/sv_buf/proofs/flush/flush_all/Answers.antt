use Rattle.std.proofs.Common.{◌∙◌, ◌||◌, ap}
use Rattle.sv_turn.specs.Passes.{pass_view}
use Rattle.sv_buf.proofs.Flushing.{so_far-next}
use Rattle.sv_buf.proofs.flush.flush_all.Goals as goal

pub loop-buffer-preserved : goal.loop-buffer-preserved
loop-buffer-preserved g c =
    let at = c.loop-buffer.invariant in
    let next = so_far-next c.flush_one.result (pass_view c.args.pass.now) (pass_view c.loop-buffer.pass) (pass_view c.flush_one.new.pass)
    at.so.0 c.loop-buffer.buffer c.loop-buffer.failed at.so.1 at.so.2 c.flush_one.ensures.ok c.flush_one.ensures.err in
    record {
      own = c.flush_one.ensures.same.0.0 ∙ at.own;
      same = (
        (c.flush_one.ensures.same.0.0 ∙ at.same.0.0, c.flush_one.ensures.same.0.1 ∙ at.same.0.1),
        c.flush_one.ensures.same.1,
      );
      so = (next.0, ap (λ t. c.loop-buffer.failed || t) c.is_err-failed.ensures.value ∙ next.1, next.2);
    }
