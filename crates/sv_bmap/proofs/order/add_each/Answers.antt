-- Each number adds its page.
use Rattle.std.proofs.Common.{◌==◌, ◌∷◌, [], cond}
use Rattle.sv_bmap.proofs.Orders.{each-added}
use Rattle.sv_bmap.proofs.order.add_each.Goals as goal

pub loop-b-preserved : goal.loop-b-preserved
loop-b-preserved c = record {
  blocks =
      each-added (λ b. cond (b == 0) [] (b ∷ [])) c.args.blocks.now.items c.loop-b.blocks.items c.add_page.new.blocks.items
      c.args.numbers.now c.loop-b.b-index c.loop-b-test.true c.loop-b.invariant.blocks c.in_ok-add_page.ensures;
}
