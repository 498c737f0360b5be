use Rattle.sv_files.proofs.InodeLines.{lines-alone}
use Rattle.sv_files.proofs.from_image.inode_lines_alone.Goals as goal

pub returns : goal.returns
returns c = λ image w n u o e h holds alone body is. lines-alone image w n u o e h holds alone body is
