use Rattle.sv_turn.specs.Passes.{pass_view}
use Rattle.sv_files.proofs.Beginnings.{cuts-first}
use Rattle.sv_files.proofs.begin.cut_first.Goals as goal

pub split-requires-clause-cuts : goal.split-requires-clause-cuts
split-requires-clause-cuts g c = cuts-first (pass_view c.args.pass.now) c.requires.free c.requires.some
