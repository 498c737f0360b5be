use Rattle.sv_files.specs.View.{seen_by}
use Rattle.sv_files.proofs.MountedParts.{are-ready}
use Rattle.sv_files.proofs.mounting.mounted_parts.Goals as goal

pub returns : goal.returns
returns g c = λ image m whole rest stakes is.
    are-ready (seen_by g.S.Stake.held g.S.Stake.lent g.S.Stake.origin g.S.Stake.faults g.S.Stake.forced) image m whole rest stakes is
