use Rattle.sv_buf.proofs.Sharing.{share-kept}
use Rattle.sv_buf.proofs.tests.calls.make_all.Goals as goal

pub make-requires-clause-share : goal.make-requires-clause-share
make-requires-clause-share g c _ _ =
    share-kept g.S.Stake.held g.S.Stake.lent g.S.Stake.origin c.args.stake.now c.loop-call.stake 0 16 c.requires.share c.loop-call.invariant
