-- Each number adds what is under it.
use Rattle.std.proofs.Common.{◌++◌, get_or, refl, ap, ◌∙◌, arith}
use Rattle.sv_form.specs.PagePath.{block_numbers}
use Rattle.sv_bmap.specs.Order.{blocks_below}
use Rattle.sv_bmap.proofs.Orders.{below-after, blocks-after, each-added}
use Rattle.sv_bmap.proofs.order.add_doubles.Goals as goal

pub add_double-requires-clause-below : goal.add_double-requires-clause-below
add_double-requires-clause-below g c _ _ =
    below-after c.loop-b.invariant.origin c.loop-b.invariant.held refl (c.requires.below c.loop-b.b-index c.loop-b-test.true)

pub loop-b-preserved : goal.loop-b-preserved
loop-b-preserved g c = record {
  blocks =
      each-added (blocks_below (block_numbers (g.S.Stake.origin c.args.s.now).sizes) (g.S.Stake.held c.args.s.now) 2)
      c.args.blocks.now.items c.loop-b.blocks.items c.add_double.new.blocks.items c.args.numbers.now c.loop-b.b-index c.loop-b-test.true
      c.loop-b.invariant.blocks
      (c.in_ok-add_double.ensures.blocks
      ∙ ap (λ q. c.loop-b.blocks.items ++ q)
      (blocks-after (g.S.Stake.origin c.args.s.now) (g.S.Stake.origin c.loop-b.s) (g.S.Stake.held c.args.s.now)
      (g.S.Stake.held c.loop-b.s) 2 (get_or c.args.numbers.now c.loop-b.b-index 0) (get_or c.args.numbers.now c.loop-b.b-index 0)
      c.loop-b.invariant.origin c.loop-b.invariant.held refl));
  held = c.add_double.ensures.stake.lines ∙ c.loop-b.invariant.held;
  lends = c.add_double.ensures.stake.away;
  forced = c.add_double.ensures.stake.as_forced ∙ c.loop-b.invariant.forced;
  origin = c.add_double.ensures.stake.home ∙ c.loop-b.invariant.origin;
  faults = omega (arith, c.loop-b.invariant.faults, c.add_double.ensures.cause.no_less);
}
