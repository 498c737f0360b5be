use Rattle.sv_plain.proofs.KeptByAll.{keeps-step}
use Rattle.sv_plain.proofs.laws.steps.steps_keep_whole.Goals as goal

pub returns : goal.returns
returns c = keeps-step
