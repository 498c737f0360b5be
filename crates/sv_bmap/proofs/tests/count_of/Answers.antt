-- All addresses are 0.
use Rattle.sv_bmap.proofs.Empty.{empty-tree, zeros}
use Rattle.sv_bmap.proofs.tests.count_of.Goals as goal

pub collect-requires-clause-tree : goal.collect-requires-clause-tree
collect-requires-clause-tree g c _ _ = empty-tree _ _ _ zeros
