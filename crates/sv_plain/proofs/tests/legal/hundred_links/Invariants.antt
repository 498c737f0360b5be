use Rattle.sv_plain.specs.Whole.{IsWhole}
use Rattle.sv_plain.proofs.tests.legal.hundred_links.Given as goal

abbrev pub invariant-loop-k : goal.invariant-loop-k
invariant-loop-k l = IsWhole l.fs
