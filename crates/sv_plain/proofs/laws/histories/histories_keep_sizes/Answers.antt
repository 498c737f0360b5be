use Rattle.sv_plain.proofs.HistorySteps.{leads-sizes}
use Rattle.sv_plain.proofs.laws.histories.histories_keep_sizes.Goals as goal

pub returns : goal.returns
returns c = λ h a b is. leads-sizes h a b is
