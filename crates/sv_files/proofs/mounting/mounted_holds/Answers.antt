use Rattle.sv_files.proofs.MountHolds.{mounted-holds}
use Rattle.sv_files.proofs.mounting.mounted_holds.Goals as goal

pub returns : goal.returns
returns g c = mounted-holds _
