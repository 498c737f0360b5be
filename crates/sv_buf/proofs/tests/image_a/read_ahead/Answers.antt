use Rattle.std.proofs.Common.{◌∙◌}
use Rattle.sv_store.proofs.Holding.{CanReturn-got, SameLines-eq}
use Rattle.sv_store.proofs.Puts.{returned}
use Rattle.sv_buf.proofs.tests.image_a.read_ahead.Goals as goal

pub brelse-requires : goal.brelse-requires
brelse-requires g c = CanReturn-got c.in_ok-buf.ensures.ok _ _ c.in_ok-buf.ensures.lends

pub returns : goal.returns
returns g c = record {
  kept = record {
    lines = SameLines-eq _ _ (c.brelse.ensures.held ∙ c.breada.ensures.held);
    away = returned c.in_ok-buf.buf.bytes c.in_ok-buf.ensures.lends c.in_ok-buf.ensures.ok.block c.requires.block.away
        c.brelse.ensures.lends;
    home = c.brelse.ensures.origin ∙ c.breada.ensures.origin;
  };
}
