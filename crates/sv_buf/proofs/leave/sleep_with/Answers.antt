use Rattle.sv_buf.proofs.Getting.{pending-entered}
use Rattle.sv_buf.proofs.leave.sleep_with.Goals as goal

pub returns-clause-pending : goal.returns-clause-pending
returns-clause-pending g c = pending-entered _ _ _ c.sleep_on.ensures.holds.0 c.sleep_on.ensures.inside c.sleep_on.ensures.holds.1
