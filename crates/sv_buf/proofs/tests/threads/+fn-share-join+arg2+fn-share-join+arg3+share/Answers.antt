use Rattle.sv_buf.proofs.Sharing.{cut-merge, cut-merged}
use Rattle.sv_buf.proofs.tests.threads.+fn-share-join+arg2+fn-share-join+arg3+share.Goals as goal

pub merge-requires-clause-lines : goal.merge-requires-clause-lines
merge-requires-clause-lines g t c =
    cut-merge g.S.Stake.held g.S.Stake.lent g.S.Stake.origin c.args.stake c.cut.new.stake c.in-Some.other c.join-stake.result.0.0
    c.join-stake.result.1.0 c.in-Some.ensures.parts c.join-stake.ensures.first c.join-stake.ensures.second c.in-Some.ensures.given.idle

pub returns : goal.returns
returns g t c = record {
  kept = cut-merged g.S.Stake.held g.S.Stake.lent g.S.Stake.origin c.args.stake c.cut.new.stake c.in-Some.other c.join-stake.result.0.0
      c.join-stake.result.1.0 c.merge.new.self c.in-Some.ensures.parts c.join-stake.ensures.first c.join-stake.ensures.second
      c.requires.share.idle c.in-Some.ensures.kept.idle c.merge.ensures.held c.merge.ensures.lends c.merge.ensures.origin;
}
