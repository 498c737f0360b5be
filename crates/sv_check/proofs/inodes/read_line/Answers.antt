use Rattle.sv_check.proofs.InodeReads.{inode_read}
use Rattle.sv_check.proofs.inodes.read_line.Goals as goal

pub returns : goal.returns
returns c = inode_read c.args.inode.now c.requires c.read.result c.read.ensures.some c.read.ensures.none
