-- The block has the zero bytes that it was made with, and is lent to nobody.
use Rattle.std.proofs.Common.{◌∙◌, ap, is_some}
use Rattle.sv_store.specs.Held.{Lent}
use Rattle.sv_store.proofs.Holding.{is_some-put}
use Rattle.sv_store.proofs.clients.make_and_write.Goals as goal

pub write_again-requires-clause-block : goal.write_again-requires-clause-block
write_again-requires-clause-block g c _ _ = record {
  some = (c.requires.block.some.0, ap (λ q. is_some (q c.args.block c.requires.block.some.0)) c.in_ok-make_zeros.ensures.zeros ∙ (is_some-put c.args.block _ (g.S.Stake.held c.args.stake.now) c.args.block c.requires.block.some.0 ∙ c.requires.block.some.1));
  away = ap (λ (q : Lent). q c.args.block) c.make_zeros.ensures.lends ∙ c.requires.block.away;
}
