-- The numbers are read in the block's bytes, and the block goes back as it was.
use Rattle.std.proofs.Common.{ap, ◌∙◌}
use Rattle.sv_store.specs.Held.{Lent, without}
use Rattle.sv_store.proofs.Holding.{CanReturn-got, without-with}
use Rattle.sv_bmap.proofs.NumberReads.{holes-below, holes-read}
use Rattle.sv_bmap.proofs.numbers.holes_of.Goals as goal

pub brelse-requires : goal.brelse-requires
brelse-requires g c = CanReturn-got c.in_ok-buf.ensures.ok _ _ c.in_ok-buf.ensures.lends

pub returns-then-b-eq0-clause-holes : goal.returns-then-b-eq0-clause-holes
returns-then-b-eq0-clause-holes g c = holes-below (g.S.Stake.held c.args.s.now) c.args.b c.args.from c.args.count c.if-b-eq0.true

pub returns-clause-holes : goal.returns-clause-holes
returns-clause-holes g c =
    holes-read c.in_ok-buf.ensures.ok (c.requires.block c.if-b-eq0.false) c.if-b-eq0.false _ c.args.from c.args.count
    c.zeros_in-holes.result c.bytes.ensures c.requires.places c.zeros_in-holes.ensures.zeros

pub returns-clause-stake : goal.returns-clause-stake
returns-clause-stake g c = record {
  lines = c.brelse.ensures.held ∙ c.bread.ensures.held;
  away =
      c.brelse.ensures.lends
      ∙ (ap (λ q. without q (g.S.Stake.lent c.bread.new.self)) c.in_ok-buf.ensures.ok.block
      ∙ (ap (without c.args.b) c.in_ok-buf.ensures.lends
      ∙ (without-with c.args.b c.in_ok-buf.buf.bytes (g.S.Stake.lent c.args.s.now) (ap (λ (q : Lent). q c.args.b) c.requires.lent)
      ∙ c.requires.lent)));
  as_forced = c.brelse.ensures.forced ∙ c.bread.ensures.forced;
  home = c.brelse.ensures.origin ∙ c.bread.ensures.origin;
}
