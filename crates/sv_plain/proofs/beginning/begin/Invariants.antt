use Rattle.std.proofs.Common.{◌≡◌}
use Rattle.sv_plain.specs.Fs.{first_references}
use Rattle.sv_plain.proofs.beginning.begin.Given as goal

abbrev pub invariant-loop-k : goal.invariant-loop-k
invariant-loop-k l = l.fs ≡ record l.fn.fs { references = first_references l.k; places = l.table }
