use Rattle.sv_check.proofs.ClimbSteps.{root_up}
use Rattle.sv_check.proofs.sound.dots.steps_up.Goals as goal

pub returns : goal.returns
returns c = record { up = root_up c.args.standings.now.of.items c.in_ok-up.up.items c.from.result c.in_ok-up.ensures c.requires c.from.ensures }
