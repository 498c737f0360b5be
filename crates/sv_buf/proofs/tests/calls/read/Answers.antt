use Rattle.std.proofs.Common.{◌∙◌}
use Rattle.sv_store.proofs.Holding.{CanReturn-got, SameLines-eq}
use Rattle.sv_store.proofs.Puts.{returned}
use Rattle.sv_buf.proofs.Sharing.{whole-get, none-away}
use Rattle.sv_buf.proofs.tests.calls.read.Goals as goal

pub bread-requires : goal.bread-requires
bread-requires g c = whole-get c.args.block c.requires.share c.requires.block

pub brelse-requires : goal.brelse-requires
brelse-requires g c = CanReturn-got c.in_ok-buf.ensures.ok _ _ c.in_ok-buf.ensures.lends

pub returns : goal.returns
returns g c = record {
  kept = record {
    lines = SameLines-eq _ _ (c.brelse.ensures.held ∙ c.bread.ensures.held);
    away = returned c.in_ok-buf.buf.bytes c.in_ok-buf.ensures.lends c.in_ok-buf.ensures.ok.block
        (none-away c.args.block c.requires.share.idle) c.brelse.ensures.lends;
    home = c.brelse.ensures.origin ∙ c.bread.ensures.origin;
  };
}
