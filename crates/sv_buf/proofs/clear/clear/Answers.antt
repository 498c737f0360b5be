use Rattle.std.proofs.Common.{refl}
use Rattle.sv_buf.proofs.Clearing.{met-room, met-asked}
use Rattle.sv_buf.proofs.clear.clear.Goals as goal

pub ask-requires-clause-room : goal.ask-requires-clause-room
ask-requires-clause-room g c = met-room _ c.args.pass.now c.args.state c.args.buffer c.requires.met

pub returns-in-None-clause-ok : goal.returns-in-None-clause-ok
returns-in-None-clause-ok g c = (refl, met-asked _ c.args.pass.now c.args.state c.ask.result c.args.buffer c.requires.met c.ask.ensures)
