use Rattle.sv_plain.proofs.HistorySteps.{leads-further, own-further}
use Rattle.sv_plain.proofs.laws.histories.histories_grow.Goals as goal

pub returns : goal.returns
returns c = record { leads = λ h e a b d is step. leads-further h e a b d is step; own = λ h e p. own-further h e p }
