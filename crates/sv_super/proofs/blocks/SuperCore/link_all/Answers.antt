-- One block fewer at each turn.
use Rattle.std.proofs.Common.{ap, ◌∙◌, arith}
use Rattle.sv_super.proofs.Flushes.{rewrites-then}
use Rattle.sv_super.proofs.blocks.SuperCore.link_all.Goals as goal

pub returns-in_err-link_last-clause-held : goal.returns-in_err-link_last-clause-held
returns-in_err-link_last-clause-held g c =
    rewrites-then c.args.self.now.aside c.loop-block.self.aside c.args.self.now.chain c.loop-block.self.chain c.loop-block.invariant.held c.link_last.ensures.held (ap (λ q. q.sizes) c.loop-block.invariant.origin) c.loop-block.invariant.order

pub loop-block-preserved : goal.loop-block-preserved
loop-block-preserved g c = record {
  left = omega (arith, c.loop-block.invariant.left, c.in_ok-link_last.ensures.linked);
  order = c.link_last.ensures.order ∙ c.loop-block.invariant.order;
  held = rewrites-then c.args.self.now.aside c.loop-block.self.aside c.args.self.now.chain c.loop-block.self.chain c.loop-block.invariant.held c.link_last.ensures.held (ap (λ q. q.sizes) c.loop-block.invariant.origin) c.loop-block.invariant.order;
  spare = c.link_last.ensures.spare ∙ c.loop-block.invariant.spare;
  inodes = c.link_last.ensures.inodes ∙ c.loop-block.invariant.inodes;
  head = c.link_last.ensures.head ∙ c.loop-block.invariant.head;
  lends = c.link_last.ensures.lends;
  forced = c.link_last.ensures.forced ∙ c.loop-block.invariant.forced;
  origin = c.link_last.ensures.origin ∙ c.loop-block.invariant.origin;
  faults = omega (arith, c.loop-block.invariant.faults, c.link_last.ensures.cause.no_less);
}
