use Rattle.sv_files.proofs.ConverseSound.{closed_is_sound}
use Rattle.sv_files.proofs.converse.closed_is_sound.Goals as goal

pub returns : goal.returns
returns c = record { law = closed_is_sound }
