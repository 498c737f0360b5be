use Rattle.sv_files.proofs.InodeStands.{stands-for}
use Rattle.sv_files.proofs.from_image.inodes_stand_for_nodes.Goals as goal

pub returns : goal.returns
returns c = λ image w n u o e h holds body is. stands-for image w n u o e h holds body is
