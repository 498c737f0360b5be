-- The file stands for a node, and has at most twelve pages.
use Rattle.std.proofs.Common.{arith}
use Rattle.sv_inode.proofs.ReadyFiles.{twelve-fit}
use Rattle.sv_inode.proofs.read_back_tests.put_and_read.Goals as goal

pub read_four-requires-clause-tree : goal.read_four-requires-clause-tree
read_four-requires-clause-tree g c κs within = c.put_at-others_put.ensures.ready.stands.tree

pub read_four-requires-clause-size : goal.read_four-requires-clause-size
read_four-requires-clause-size g c κs within = twelve-fit c.put_at-others_put.ensures.ready.sizes (omega arith)
