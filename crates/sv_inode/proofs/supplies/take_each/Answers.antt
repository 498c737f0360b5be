-- Each turn takes one block more, which is not among those that were taken.
use Rattle.std.proofs.Common.{refl, ap, ◌∙◌, ◌+◌, arith, length}
use Rattle.sv_super.specs.Count.{times}
use Rattle.sv_super.proofs.Counts.{times-nil}
use Rattle.sv_inode.specs.Truncate.{names_of}
use Rattle.sv_inode.proofs.GivenBack.{cut-none}
use Rattle.sv_inode.proofs.TakenFirst.{count-more, names-more, one-more, takes-left}
use Rattle.sv_inode.proofs.supplies.take_each.Goals as goal

pub loop-block-init : goal.loop-block-init
loop-block-init g c = record {
  cuts = cut-none g.S.Stake.held g.S.Stake.lent g.S.Stake.origin g.S.Stake.forced g.S.Stake.faults (g.S.Stake.origin c.args.core.now.stake)
      (g.S.Stake.held c.args.core.now.stake) c.args.cuts.now.items c.requires.none;
  taken = λ b. omega (arith, ap (λ q. times b (names_of q)) c.requires.none, times-nil b);
  count = ap length c.requires.none;
  left = omega arith;
  spare = refl;
  inodes = refl;
  head = refl;
  lends = c.left-left.ensures.sound.lent;
  forced = refl;
  origin = refl;
  faults = omega arith;
}

pub loop-block-preserved : goal.loop-block-preserved
loop-block-preserved g c = record {
  cuts = one-more c.args.core.now c.left-left.ensures.sound c.loop-block.invariant.cuts refl c.loop-block.invariant.origin
      c.loop-block.invariant.taken c.in_ok-take_next.ensures.taken;
  taken = names-more c.args.core.now c.loop-block.invariant.taken c.in_ok-take_next.ensures.taken;
  count = count-more c.in_ok-take_next.ensures.taken ∙ ap (λ q. q + 1) c.loop-block.invariant.count;
  left = omega (arith, takes-left c.in_ok-take_next.ensures.taken.b c.in_ok-take_next.ensures.taken.free, c.loop-block.invariant.left);
  spare = c.in_ok-take_next.ensures.spare ∙ c.loop-block.invariant.spare;
  inodes = c.in_ok-take_next.ensures.core.inodes ∙ c.loop-block.invariant.inodes;
  head = c.in_ok-take_next.ensures.core.head ∙ c.loop-block.invariant.head;
  lends = c.in_ok-take_next.ensures.core.away;
  forced = c.in_ok-take_next.ensures.core.as_forced ∙ c.loop-block.invariant.forced;
  origin = c.in_ok-take_next.ensures.core.home ∙ c.loop-block.invariant.origin;
  faults = omega (arith, c.loop-block.invariant.faults, c.in_ok-take_next.ensures.cause.no_less);
}
