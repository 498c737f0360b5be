use Rattle.sv_check.proofs.MadeSound.{are_sound, has_root}
use Rattle.sv_check.proofs.make.image.made_images_are_sound.Goals as goal

pub returns-clause-sound : goal.returns-clause-sound
returns-clause-sound c = are_sound

pub returns-clause-root : goal.returns-clause-root
returns-clause-root c = has_root
