use Rattle.std.proofs.Common.{◌∙◌, arith}
use Rattle.sv_store.proofs.Holding.{CanReturn-got, SameLines-eq}
use Rattle.sv_store.proofs.Puts.{returned}
use Rattle.sv_buf.proofs.Sharing.{whole-get, none-away}
use Rattle.sv_buf.proofs.tests.calls.read_ahead.Goals as goal

pub breada-requires-clause-block : goal.breada-requires-clause-block
breada-requires-clause-block g c = whole-get c.args.block c.requires.share (let below = c.requires.block in omega (arith, below))

pub breada-requires-clause-next : goal.breada-requires-clause-next
breada-requires-clause-next g c = let blocks = c.requires.share.blocks in let below = c.requires.block in omega (arith, blocks, below)

pub brelse-requires : goal.brelse-requires
brelse-requires g c = CanReturn-got c.in_ok-buf.ensures.ok _ _ c.in_ok-buf.ensures.lends

pub returns : goal.returns
returns g c = record {
  kept = record {
    lines = SameLines-eq _ _ (c.brelse.ensures.held ∙ c.breada.ensures.held);
    away = returned c.in_ok-buf.buf.bytes c.in_ok-buf.ensures.lends c.in_ok-buf.ensures.ok.block
        (none-away c.args.block c.requires.share.idle) c.brelse.ensures.lends;
    home = c.brelse.ensures.origin ∙ c.breada.ensures.origin;
  };
}
