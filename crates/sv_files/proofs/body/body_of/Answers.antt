use Rattle.sv_files.specs.View.{seen_by}
use Rattle.sv_files.proofs.BodyRead.{body-stands}
use Rattle.sv_files.proofs.body.body_of.Goals as goal

pub returns-in-None-clause-node : goal.returns-in-None-clause-node
returns-in-None-clause-node g c =
    body-stands c.args.locked.now.number c.args.locked.now.core (seen_by g.S.Stake.held g.S.Stake.lent g.S.Stake.origin g.S.Stake.faults
    g.S.Stake.forced c.args.locked.now.stake) c.read_body.result c.in-None.is c.read_body.ensures.body
