use Rattle.std.proofs.Common.{subst}
use Rattle.sv_files.specs.Looking.{CanLook}
use Rattle.sv_files.proofs.files.Files.look.Goals as goal

pub look_up-requires-clause-can : goal.look_up-requires-clause-can
look_up-requires-clause-can g c κs within = (c.requires.can.0, subst (CanLook c.requires.can.0.proc) c.in-Look.is c.requires.can.1)
