use Rattle.sv_plain.proofs.HistorySteps.{leads-legal}
use Rattle.sv_plain.proofs.laws.histories.histories_lead_legally.Goals as goal

pub returns : goal.returns
returns c = λ h a b is. leads-legal h a b is
