use Rattle.sv_files.proofs.Ending.{ends}
use Rattle.sv_files.proofs.files.Files.end.Goals as goal

pub returns : goal.returns
returns g c = ends _ _ _ c.close.ensures
