-- Each address adds its page.
use Rattle.std.proofs.Common.{◌==◌, ◌∷◌, [], cond, get_or}
use Rattle.sv_bmap.proofs.Orders.{added}
use Rattle.sv_bmap.proofs.order.add_pages.Goals as goal

pub loop-slot-preserved : goal.loop-slot-preserved
loop-slot-preserved c = record {
  blocks =
      added (λ slot. cond (get_or c.args.a.now slot 0 == 0) [] (get_or c.args.a.now slot 0 ∷ [])) c.args.blocks.now.items
      c.loop-slot.blocks.items c.add_page.new.blocks.items c.loop-slot.slot c.loop-slot.invariant.blocks
      c.in_ok-add_page.ensures;
}
