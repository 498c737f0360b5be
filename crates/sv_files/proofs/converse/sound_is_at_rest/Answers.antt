use Rattle.sv_files.proofs.SoundAtRest.{sound_is_at_rest}
use Rattle.sv_files.proofs.converse.sound_is_at_rest.Goals as goal

pub returns : goal.returns
returns c = record { law = sound_is_at_rest }
