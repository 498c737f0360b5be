use Rattle.sv_buf.proofs.Ending.{all-stopped}
use Rattle.sv_buf.proofs.tests.stop_all.Goals as goal

pub returns : goal.returns
returns g c = record {
  all = all-stopped c.args.cache.now.turn c.args.first.now c.stop.new.pass c.requires.all c.stop.ensures.same.0 c.stop.ensures.same.1 c.stop.ensures.view;
}
