use Rattle.sv_dir.proofs.NameCounts.{one_reason}
use Rattle.sv_dir.proofs.path.paths_have_one_answer.Goals as goal

pub returns-clause-refused : goal.returns-clause-refused
returns-clause-refused c = one_reason
