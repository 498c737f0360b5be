-- One more block.
use Rattle.sv_bmap.proofs.Sample.{one-more}
use Rattle.sv_bmap.proofs.sample_tests.content.Goals as goal

pub loop-block-preserved : goal.loop-block-preserved
loop-block-preserved c =
    record { blocks = one-more _ _ _ c.loop-block.block c.loop-block.invariant.blocks c.in_ok-push.ensures.items c.in_ok-bytes.ensures }
