use Rattle.std.proofs.Common.{length}
use Rattle.sv_script.specs.Progress.{IsAt}
use Rattle.sv_script.proofs.reading.parse.Given as goal

abbrev pub invariant-loop-line : goal.invariant-loop-line
invariant-loop-line l = IsAt l.text l.rest l.reading

abbrev pub decreases-loop-line : goal.decreases-loop-line
decreases-loop-line l = length l.rest
