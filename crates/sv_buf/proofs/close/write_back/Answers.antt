use Rattle.std.proofs.Common.{◌∙◌, ◌*◌, [], ◌∷◌, ap, sym, refl}
use Rattle.sv_dev.specs.Transfer.{overwritten}
use Rattle.sv_buf.specs.Running.{seen_by}
use Rattle.sv_buf.proofs.Closing.{skipped, unnamed, to-write, wrote, wrote-not}
use Rattle.sv_buf.proofs.close.write_back.Goals as goal

pub returns-in_default-clause-step : goal.returns-in_default-clause-step
returns-in_default-clause-step g c current before failed h = (
  [],
  refl,
  skipped c.args.core.now current
      (seen_by g.D.Medium.content g.D.Medium.reads g.D.Medium.writes g.D.Medium.faults c.args.disk.now) before failed c.args.buffer
      (λ b named delayed. unnamed b (c.in_default.ensures.block ∙ named)) h,
)

pub write_block-requires-clause-inside : goal.write_block-requires-clause-inside
write_block-requires-clause-inside g c =
    let so = c.requires.so in
    (to-write c.args.core.now so.0
    (seen_by g.D.Medium.content g.D.Medium.reads g.D.Medium.writes g.D.Medium.faults c.args.disk.now) so.1 so.2 c.args.buffer
    c.args.buffer c.in-Some.block c.take_out-bytes.result.items so.3 (sym c.if-not-is_delayed.ensures.delayed)
    (sym c.in-Some.ensures.block) c.take_out-bytes.ensures.bytes).fits

pub returns-in-Ok-clause-step : goal.returns-in-Ok-clause-step
returns-in-Ok-clause-step g c current before failed h = (
  [],
  refl,
  wrote c.args.core.now c.take_out-bytes.new.core c.give_back.new.self
      current (seen_by g.D.Medium.content g.D.Medium.reads g.D.Medium.writes g.D.Medium.faults c.args.disk.now)
      (seen_by g.D.Medium.content g.D.Medium.reads g.D.Medium.writes g.D.Medium.faults c.write_block.new.disk) before failed c.args.buffer
      c.in-Some.block c.take_out-bytes.result.items h (sym c.if-not-is_delayed.ensures.delayed) (sym c.in-Some.ensures.block)
      c.take_out-bytes.ensures.bytes c.take_out-bytes.ensures.after c.give_back.ensures.after c.give_back.ensures.lawful
      (c.in-Ok.ensures.written ∙ ap (λ q. overwritten (g.D.Medium.content c.args.disk.now) (c.in-Some.block * 1024) q) c.as_slice.ensures.value)
      c.in-Ok.ensures.nothing_else,
)

pub returns-in-Err-clause-step : goal.returns-in-Err-clause-step
returns-in-Err-clause-step g c current before failed h = (
  c.in-Some.block ∷ [],
  refl,
  wrote-not c.args.core.now
      c.take_out-bytes.new.core c.give_back-in-Err.new.self current
      (seen_by g.D.Medium.content g.D.Medium.reads g.D.Medium.writes g.D.Medium.faults c.args.disk.now)
      (seen_by g.D.Medium.content g.D.Medium.reads g.D.Medium.writes g.D.Medium.faults c.write_block.new.disk) before failed c.args.buffer
      c.in-Some.block c.take_out-bytes.result.items h (sym c.if-not-is_delayed.ensures.delayed) (sym c.in-Some.ensures.block)
      c.take_out-bytes.ensures.bytes c.take_out-bytes.ensures.after c.give_back-in-Err.ensures.after c.give_back-in-Err.ensures.lawful
      c.in-Err.ensures.torn c.in-Err.ensures.cause.failed,
)
