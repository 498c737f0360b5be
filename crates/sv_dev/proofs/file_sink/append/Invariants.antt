use Rattle.std.proofs.Common.{◌≤◌, length, take}
use Rattle.std.specs.Io.KnownBytes.{Appends}
use Rattle.sv_dev.proofs.file_sink.append.Given as goal

abbrev pub invariant-loop : goal.invariant-loop
invariant-loop g l = (l.done ≤ length l.bytes) × Appends (g.W.Write.contents l.initial.to) (g.W.Write.contents l.to) (take l.done l.bytes)
