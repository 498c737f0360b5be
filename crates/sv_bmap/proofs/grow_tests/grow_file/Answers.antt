-- The file had no page, and has none after a fault.
use Rattle.std.proofs.Common.{ap, ◌∙◌}
use Rattle.sv_bmap.proofs.Cut.{can-far, tree-kept}
use Rattle.sv_bmap.proofs.Empty.{empty-tree, zeros}
use Rattle.sv_bmap.proofs.grow_tests.grow_file.Goals as goal

pub attach-requires-clause-tree : goal.attach-requires-clause-tree
attach-requires-clause-tree g c _ _ = empty-tree _ _ _ zeros

pub attach-requires-clause-new : goal.attach-requires-clause-new
attach-requires-clause-new g c _ _ = can-far (ap (λ q. q.sizes.block_size) (c.cut.ensures.origin ∙ c.in_ok-stake.ensures.sizes))
    c.in_ok-parts.ensures.cut

pub returns-clause-tree : goal.returns-clause-tree
returns-clause-tree g c = tree-kept c.attach.ensures.origin c.in-Err.ensures.held c.in-Err.ensures.addresses (empty-tree _ _ _ zeros)
