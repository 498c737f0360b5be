use Rattle.sv_check.proofs.FreedLists.{freed-down}
use Rattle.sv_check.proofs.make.freeing.made_chains_are_freed.Goals as goal

pub returns : goal.returns
returns c = λ blocks inodes can. freed-down blocks inodes can
