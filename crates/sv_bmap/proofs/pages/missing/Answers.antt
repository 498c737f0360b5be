-- A test counts at most one.
use Rattle.std.proofs.Common.{◌==◌, ◌&&◌}
use Rattle.sv_bmap.proofs.NumberReads.{flag-few}
use Rattle.sv_bmap.proofs.pages.missing.Goals as goal

pub returns-clause-few : goal.returns-clause-few
returns-clause-few c = flag-few ((c.args.block == 0) && c.args.is_first) c.from.result c.from.ensures
