use Rattle.std.proofs.Common.{◌≤◌, ◌-◌, ◌≡◌, length, take, drop, arith, length-drop}
use Rattle.std.proofs.Math.Seq.{take-add}
use Rattle.std.proofs.lemmas.List.{take_all}
use Rattle.sv_dev.proofs.Known.{Appends-append}
use Rattle.sv_dev.proofs.file_sink.append.Goals as goal

pub loop-preserved : goal.loop-preserved
loop-preserved g c =
    let rest = drop c.loop.done c.args.bytes.now in
    let short : length rest ≤ length c.args.bytes.now - c.loop.done = omega (arith, length-drop c.loop.done c.args.bytes.now) in
    let whole : take (length c.args.bytes.now - c.loop.done) rest ≡ rest = take_all _ rest short in
    let within = rw whole at c.in_ok-done.ensures.within in
    let bytes = rw whole at c.in_ok-done.ensures.bytes in
    (omega (arith, length-drop c.loop.done c.args.bytes.now), rw take-add (Appends-append _ _ _ _ _ c.loop.invariant.1 bytes))
