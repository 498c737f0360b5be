use Rattle.std.proofs.Common.{subst}
use Rattle.sv_files.specs.Calls.{CanStat}
use Rattle.sv_files.proofs.files.Files.stat.Goals as goal

pub stat_inode-requires-clause-can : goal.stat_inode-requires-clause-can
stat_inode-requires-clause-can g c κs within = (c.requires.can.0, subst (CanStat c.requires.can.0.proc) c.in-Stat.is c.requires.can.1)
