use Rattle.std.proofs.Common.{length}
use Rattle.sv_journal.specs.Reading.{IsAt}
use Rattle.sv_journal.proofs.reading.read.Given as goal

abbrev pub invariant-loop-rest : goal.invariant-loop-rest
invariant-loop-rest l = IsAt l.text l.rest l.processes l.table l.entries.items

abbrev pub decreases-loop-rest : goal.decreases-loop-rest
decreases-loop-rest l = length l.rest
