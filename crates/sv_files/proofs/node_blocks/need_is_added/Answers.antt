use Rattle.sv_files.proofs.TreeNeeds.{write-need}
use Rattle.sv_files.proofs.node_blocks.need_is_added.Goals as goal

pub returns : goal.returns
returns c = λ o h body node sizes stands at count fits. write-need o h body node sizes stands at count fits
