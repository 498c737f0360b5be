-- Block 50 is the one block of the tree.
use Rattle.std.proofs.Common.{ap, arith}
use Rattle.sv_bmap.proofs.Empty.{first-tree}
use Rattle.sv_bmap.proofs.tests.blocks_of_one.Goals as goal

pub collect-requires-clause-tree : goal.collect-requires-clause-tree
collect-requires-clause-tree g c _ _ = first-tree _ _ 50
    (record {
      at = λ l line. c.in_ok-stake.ensures.held 50 l (omega arith)
          (omega (arith, line, ap (λ q. q.sizes.block_size) c.in_ok-stake.ensures.sizes));
    })
