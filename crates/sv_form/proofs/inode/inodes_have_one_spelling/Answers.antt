use Rattle.sv_form.proofs.InodeLemmas.{one_inode, one_inode_spelling}
use Rattle.sv_form.proofs.inode.inodes_have_one_spelling.Goals as goal

pub returns-clause-value : goal.returns-clause-value
returns-clause-value c = one_inode

pub returns-clause-bytes : goal.returns-clause-bytes
returns-clause-bytes c = one_inode_spelling
