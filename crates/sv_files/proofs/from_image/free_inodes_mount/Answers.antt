use Rattle.sv_files.proofs.FreeInodes.{mounts-inodes}
use Rattle.sv_files.proofs.from_image.free_inodes_mount.Goals as goal

pub returns : goal.returns
returns c = λ image w cache used flags o e h holds s is. mounts-inodes image w cache used flags o e h holds s is
