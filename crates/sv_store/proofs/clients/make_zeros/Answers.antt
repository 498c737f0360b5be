-- The block goes back with the zero bytes with which it was lent.
use Rattle.std.proofs.Common.{◌∙◌, ap}
use Rattle.sv_store.specs.Held.{with}
use Rattle.sv_store.proofs.Holding.{with-at}
use Rattle.sv_store.proofs.Puts.{returned}
use Rattle.sv_store.proofs.clients.make_zeros.Goals as goal

pub brelse-requires : goal.brelse-requires
brelse-requires g c =
    ap (λ q. q c.in_ok-zeros.zeros.block) c.in_ok-zeros.ensures.lends
    ∙ (ap (with c.args.block c.in_ok-zeros.zeros.bytes (g.S.Stake.lent c.args.stake.now)) c.in_ok-zeros.ensures.ok.block ∙ with-at c.args.block c.in_ok-zeros.zeros.bytes (g.S.Stake.lent c.args.stake.now))

pub returns-clause-lends : goal.returns-clause-lends
returns-clause-lends g c = returned c.in_ok-zeros.zeros.bytes c.in_ok-zeros.ensures.lends c.in_ok-zeros.ensures.ok.block c.requires.away c.brelse.ensures.lends
