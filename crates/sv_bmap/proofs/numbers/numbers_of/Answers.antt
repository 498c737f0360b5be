-- The numbers are read in the block's bytes, and the block goes back as it was.
use Rattle.std.proofs.Common.{ap, ◌∙◌}
use Rattle.sv_store.specs.Held.{Lent, without}
use Rattle.sv_store.proofs.Holding.{CanReturn-got, without-with}
use Rattle.sv_bmap.proofs.NumberReads.{numbers-read}
use Rattle.sv_bmap.proofs.numbers.numbers_of.Goals as goal

pub brelse-requires : goal.brelse-requires
brelse-requires g c = CanReturn-got c.in_ok-buf.ensures.ok _ _ c.in_ok-buf.ensures.lends

pub returns-clause-numbers : goal.returns-clause-numbers
returns-clause-numbers g c =
    numbers-read c.in_ok-buf.ensures.ok c.requires.block c.requires.some _ c.in_ok-numbers.numbers.items c.bytes.ensures
    c.in_ok-numbers.ensures

pub returns-clause-stake : goal.returns-clause-stake
returns-clause-stake g c = record {
  lines = c.brelse.ensures.held ∙ c.bread.ensures.held;
  away =
      c.brelse.ensures.lends
      ∙ (ap (λ q. without q (g.S.Stake.lent c.bread.new.self)) c.in_ok-buf.ensures.ok.block
      ∙ (ap (without c.args.b) c.in_ok-buf.ensures.lends
      ∙ (without-with c.args.b c.in_ok-buf.buf.bytes (g.S.Stake.lent c.args.s.now) (ap (λ (q : Lent). q c.args.b) c.requires.lent)
      ∙ c.requires.lent)));
  as_forced = c.brelse.ensures.forced ∙ c.bread.ensures.forced;
  home = c.brelse.ensures.origin ∙ c.bread.ensures.origin;
}

pub returns-in_err-numbers-clause-stake : goal.returns-in_err-numbers-clause-stake
returns-in_err-numbers-clause-stake g c = record {
  lines = c.brelse.ensures.held ∙ c.bread.ensures.held;
  away =
      c.brelse.ensures.lends
      ∙ (ap (λ q. without q (g.S.Stake.lent c.bread.new.self)) c.in_ok-buf.ensures.ok.block
      ∙ (ap (without c.args.b) c.in_ok-buf.ensures.lends
      ∙ (without-with c.args.b c.in_ok-buf.buf.bytes (g.S.Stake.lent c.args.s.now) (ap (λ (q : Lent). q c.args.b) c.requires.lent)
      ∙ c.requires.lent)));
  as_forced = c.brelse.ensures.forced ∙ c.bread.ensures.forced;
  home = c.brelse.ensures.origin ∙ c.bread.ensures.origin;
}
