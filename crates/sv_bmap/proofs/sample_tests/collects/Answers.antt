-- The file is a tree, also after its blocks were listed.
use Rattle.sv_bmap.proofs.Needs.{tree-after}
use Rattle.sv_bmap.proofs.sample_tests.collects.Goals as goal

pub collect-again-requires-clause-tree : goal.collect-again-requires-clause-tree
collect-again-requires-clause-tree g c _ _ = tree-after c.collect-once.ensures.stake.home c.collect-once.ensures.stake.lines
    c.in_ok-stake.ensures.tree
