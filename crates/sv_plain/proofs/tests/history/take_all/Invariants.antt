use Rattle.sv_plain.specs.Whole.{IsWhole}
use Rattle.sv_plain.proofs.tests.history.take_all.Given as goal

abbrev pub invariant-loop-op : goal.invariant-loop-op
invariant-loop-op l = IsWhole l.fs
