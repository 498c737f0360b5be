-- There are blocks enough, and the file is ready for what comes next.
use Rattle.std.proofs.Common.{length, ap, arith, sym, ◌∙◌}
use Rattle.sv_inode.proofs.ReadyFiles.{twelve-pages-from}
use Rattle.sv_inode.proofs.read_back_tests.put_at.Goals as goal

pub writei-answer-requires-clause-left : goal.writei-answer-requires-clause-left
writei-answer-requires-clause-left g c κs within =
    omega (
      arith,
      c.left.ensures.left,
      c.if-left-lt-ENOUGH.false,
      twelve-pages-from (g.S.Stake.origin c.args.inode.now.stake).sizes
          (g.S.Stake.held c.args.inode.now.stake) c.args.inode.now.body.addresses c.args.at (length c.args.bytes.now) c.requires.ready.sizes
          (omega arith),
    )

pub returns : goal.returns
returns g c = record {
  ready = record {
    node = _;
    stands = c.writei-answer.ensures.node c.requires.ready.node c.requires.ready.stands;
    inode = c.writei-answer.ensures.inode c.requires.ready.inode;
    lent = c.writei-answer.ensures.front.stake.away;
    apart = c.writei-answer.ensures.apart;
    home = c.writei-answer.ensures.core.home ∙ (c.requires.ready.home ∙ sym c.writei-answer.ensures.front.stake.home);
    sizes = ap (λ q. q.sizes) c.writei-answer.ensures.front.stake.home ∙ c.requires.ready.sizes;
  };
}
