use Rattle.sv_files.proofs.FreeChainHeld.{mounts-blocks}
use Rattle.sv_files.proofs.from_image.free_blocks_mount.Goals as goal

pub returns : goal.returns
returns c = λ image ch t tells o e h holds s is m away. mounts-blocks image ch t tells o e h holds s is m away
