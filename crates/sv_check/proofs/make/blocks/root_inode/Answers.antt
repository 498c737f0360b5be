use Rattle.sv_check.proofs.BlockBytes.{root_inode_spelled}
use Rattle.sv_check.proofs.make.blocks.root_inode.Goals as goal

pub returns : goal.returns
returns c =
    root_inode_spelled c.args.page c.new-block.ensures c.fill_to.ensures.bytes c.put16.ensures.bytes c.put16-2.ensures.bytes c.fill_to-2.ensures.bytes c.put32.ensures.bytes c.put24.ensures.bytes
