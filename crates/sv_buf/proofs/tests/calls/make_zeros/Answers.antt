use Rattle.std.proofs.Common.{◌∙◌, ap}
use Rattle.sv_store.specs.Held.{Lent, with}
use Rattle.sv_store.proofs.Holding.{SameLines-eq, SameLines-put, SameLines-trans, with-at}
use Rattle.sv_store.proofs.Puts.{returned}
use Rattle.sv_buf.proofs.Sharing.{whole-fresh, none-away}
use Rattle.sv_buf.proofs.tests.calls.make_zeros.Goals as goal

pub fresh-requires : goal.fresh-requires
fresh-requires g c = whole-fresh c.args.block c.requires.share c.requires.block

pub brelse-requires : goal.brelse-requires
brelse-requires g c = ap (λ (m : Lent). m c.in_ok-buf.buf.block) c.in_ok-buf.ensures.lends
    ∙ ap (λ b. with c.args.block c.in_ok-buf.buf.bytes (g.S.Stake.lent c.args.stake.now) b) c.in_ok-buf.ensures.ok.block
    ∙ with-at c.args.block c.in_ok-buf.buf.bytes (g.S.Stake.lent c.args.stake.now)

pub returns : goal.returns
returns g c = record {
  kept = record {
    lines = SameLines-trans (SameLines-eq _ _ (c.brelse.ensures.held ∙ c.in_ok-buf.ensures.puts))
        (SameLines-put c.args.block c.in_ok-buf.buf.bytes (g.S.Stake.held c.args.stake.now));
    away = returned c.in_ok-buf.buf.bytes c.in_ok-buf.ensures.lends c.in_ok-buf.ensures.ok.block
        (none-away c.args.block c.requires.share.idle) c.brelse.ensures.lends;
    home = c.brelse.ensures.origin ∙ c.fresh.ensures.origin;
  };
}
