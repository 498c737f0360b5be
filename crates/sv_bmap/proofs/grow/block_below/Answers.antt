-- One place further down at each turn.
use Rattle.std.proofs.Common.{refl, ◌∙◌, arith}
use Rattle.sv_bmap.proofs.Links.{way-more}
use Rattle.sv_bmap.proofs.grow.block_below.Goals as goal

pub loop-place-preserved : goal.loop-place-preserved
loop-place-preserved g c = record {
  block = way-more c.args.top c.args.places.now c.loop-place.invariant.held c.loop-place.invariant.block c.loop-place-test.true refl
      c.in_ok-block.ensures.block;
  held = c.child_of.ensures.stake.lines ∙ c.loop-place.invariant.held;
  lends = c.child_of.ensures.stake.away;
  forced = c.child_of.ensures.stake.as_forced ∙ c.loop-place.invariant.forced;
  origin = c.child_of.ensures.stake.home ∙ c.loop-place.invariant.origin;
  faults = omega (arith, c.loop-place.invariant.faults, c.child_of.ensures.cause.no_less);
}
