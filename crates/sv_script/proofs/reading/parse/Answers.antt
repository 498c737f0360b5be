use Rattle.std.proofs.Common.{take}
use Rattle.sv_script.specs.Cut.{lines_of}
use Rattle.sv_script.proofs.ParseSteps.{all_read, next_at, refused_at}
use Rattle.sv_script.proofs.reading.parse.Goals as goal

pub loop-line-preserved : goal.loop-line-preserved
loop-line-preserved c = next_at c.args.text.now c.loop-line.rest.now c.in-Some.line.now c.in-Some.after.now c.loop-line.reading c.take_line.new.self c.loop-line.invariant c.in-Some.ensures.some
    (c.in-Ok.ensures (take c.loop-line.reading.number (lines_of c.args.text.now)) c.loop-line.invariant.read)

pub returns-in-Err : goal.returns-in-Err
returns-in-Err c = refused_at c.args.text.now c.loop-line.rest.now c.in-Some.line.now c.in-Some.after.now c.loop-line.reading c.in-Err.fault c.if-text-gt-TEXT_MAX.false c.loop-line.invariant c.in-Some.ensures.some
    (c.in-Err.ensures (take c.loop-line.reading.number (lines_of c.args.text.now)) c.loop-line.invariant.read)

pub returns : goal.returns
returns c = all_read c.args.text.now c.loop-line.rest.now c.loop-line.reading c.finish.result c.if-text-gt-TEXT_MAX.false c.loop-line.invariant c.in_default.ensures.none c.finish.ensures
