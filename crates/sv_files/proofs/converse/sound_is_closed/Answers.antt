use Rattle.sv_files.proofs.OwnClose.{sound_is_closed}
use Rattle.sv_files.proofs.converse.sound_is_closed.Goals as goal

pub returns : goal.returns
returns c = λ image sound t tells o e s is. sound_is_closed image sound t tells o e s is
