use Rattle.std.proofs.Common.{◌≡◌, ◌∙◌, ◌++◌, ap, sym, subst, arith}
use Rattle.sv_links.specs.Arrangement.{one_if}
use Rattle.sv_buf.specs.Running.{seen_by}
use Rattle.sv_buf.specs.Closing.{IsWritten}
use Rattle.sv_buf.proofs.Closing.{or-more}
use Rattle.sv_buf.proofs.close.write_all.Goals as goal

pub write_back-requires-clause-so : goal.write_back-requires-clause-so
write_back-requires-clause-so g c =
    let so = c.requires.so in
    let at = c.loop-buffer.invariant.so so.0 so.1 so.2 in
    (so.0, so.1, at.0, at.2)

pub loop-buffer-preserved : goal.loop-buffer-preserved
loop-buffer-preserved g c = record {
  so = λ current before h.
      let at = c.loop-buffer.invariant.so current before h in
      let next = c.write_back.ensures.step current before at.0 at.2 in (
        next.0 ++ at.0,
        or-more c.loop-buffer.failed c.is_err-failed.result next.0 at.0 at.1 (next.1 ∙ ap one_if (sym c.is_err-failed.ensures.value)),
        next.2,
      );
  shape = record {
    geometry = c.write_back.ensures.shape.geometry ∙ c.loop-buffer.invariant.shape.geometry;
    count = c.write_back.ensures.shape.count ∙ c.loop-buffer.invariant.shape.count;
    device = c.write_back.ensures.shape.device ∙ c.loop-buffer.invariant.shape.device;
  };
}

pub returns-then-failed-clause-all : goal.returns-then-failed-clause-all
returns-then-failed-clause-all g c current before h =
    let at = c.loop-buffer.invariant.so current before h in
    let end : c.loop-buffer.buffer ≡ c.args.buffers = omega arith in (
      at.0,
      sym c.if-failed.true ∙ at.1,
      subst (λ n. IsWritten c.loop-buffer.core current
          (seen_by g.D.Medium.content g.D.Medium.reads g.D.Medium.writes g.D.Medium.faults c.loop-buffer.disk) before at.0 n) end at.2,
    )

pub returns-else-failed-clause-all : goal.returns-else-failed-clause-all
returns-else-failed-clause-all g c current before h =
    let at = c.loop-buffer.invariant.so current before h in
    let end : c.loop-buffer.buffer ≡ c.args.buffers = omega arith in (
      at.0,
      sym c.if-failed.false ∙ at.1,
      subst (λ n. IsWritten c.loop-buffer.core current
          (seen_by g.D.Medium.content g.D.Medium.reads g.D.Medium.writes g.D.Medium.faults c.loop-buffer.disk) before at.0 n) end at.2,
    )
