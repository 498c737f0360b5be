use Rattle.sv_plain.specs.Whole.{IsWhole}
use Rattle.sv_plain.proofs.tests.refused.first_unlike.Given as goal

abbrev pub invariant-loop-i : goal.invariant-loop-i
invariant-loop-i l = IsWhole l.fs
