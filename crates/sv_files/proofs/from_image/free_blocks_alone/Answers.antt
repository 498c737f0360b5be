use Rattle.sv_files.proofs.FreeChainHeld.{mounts-alone}
use Rattle.sv_files.proofs.from_image.free_blocks_alone.Goals as goal

pub returns : goal.returns
returns c = λ image ch t tells o e h holds alone. mounts-alone image ch t tells o e h holds alone
