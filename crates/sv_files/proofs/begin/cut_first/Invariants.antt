use Rattle.sv_files.specs.Beginning.{first_one, other_ones}
use Rattle.sv_files.proofs.begin.cut_first.Given as goal

abbrev pub ghosts-split : goal.ghosts-split
ghosts-split g a = record {
  left = λ v. record v { procs = first_one v.procs };
  right = λ v. record v { procs = other_ones v.procs };
}
