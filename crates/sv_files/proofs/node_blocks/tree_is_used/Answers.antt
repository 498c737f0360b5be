use Rattle.sv_files.proofs.TreeUsed.{blocks-used}
use Rattle.sv_files.proofs.node_blocks.tree_is_used.Goals as goal

pub returns : goal.returns
returns c = λ o h body node sizes stands. blocks-used o h body node sizes stands
