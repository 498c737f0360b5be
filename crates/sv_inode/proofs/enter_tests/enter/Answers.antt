-- There are blocks enough, and the directory is ready for the next call.
use Rattle.std.proofs.Common.{ap, arith, sym, ◌∙◌}
use Rattle.sv_form.specs.PagePath.{greatest_size}
use Rattle.sv_inode.specs.Enter.{entry_place}
use Rattle.sv_inode.proofs.FoundNames.{place-most}
use Rattle.sv_inode.proofs.ReadyFiles.{entry-few}
use Rattle.sv_inode.proofs.enter_tests.enter.Goals as goal

pub enter-requires-clause-fits : goal.enter-requires-clause-fits
enter-requires-clause-fits g c κs within = record {
  node = c.requires.ready.node;
  stands = c.requires.ready.stands;
  end = omega (
    arith,
    place-most (g.S.Stake.origin c.args.inode.now.stake).sizes.block_size c.requires.ready.node,
    c.requires.ready.stands.described.size,
    c.if-inode-gt-MOST.false,
    ap greatest_size c.requires.ready.sizes,
  );
  enough = omega (
    arith,
    c.left.ensures.left,
    c.if-left-lt-ENOUGH.false,
    entry-few (g.S.Stake.origin c.args.inode.now.stake).sizes (g.S.Stake.held c.args.inode.now.stake) c.args.inode.now.body.addresses
        (entry_place (g.S.Stake.origin c.args.inode.now.stake).sizes.block_size c.requires.ready.node) c.requires.ready.sizes,
  );
}

pub returns : goal.returns
returns g c = record {
  ready = record {
    node = _;
    stands = c.enter.ensures.node c.requires.ready.node c.requires.ready.stands;
    inode = c.enter.ensures.inode c.requires.ready.inode;
    lent = c.enter.ensures.front.stake.away;
    apart = c.enter.ensures.apart;
    home = c.enter.ensures.core.home ∙ (c.requires.ready.home ∙ sym c.enter.ensures.front.stake.home);
    sizes = ap (λ q. q.sizes) c.enter.ensures.front.stake.home ∙ c.requires.ready.sizes;
  };
}
