-- The number that is read is the number of a held line.
use Rattle.std.proofs.Common.{◌*◌, ◌/◌, IsSome, sym, ap, ◌∙◌, arith}
use Rattle.sv_form.specs.Number.{number32}
use Rattle.sv_store.specs.Held.{Lent, without}
use Rattle.sv_store.proofs.Holding.{CanReturn-got, without-with}
use Rattle.sv_bmap.proofs.Paths.{number-got, child-hole, child-there}
use Rattle.sv_bmap.proofs.pages.child_of.Goals as goal

pub returns-then-b-eq0-clause-block : goal.returns-then-b-eq0-clause-block
returns-then-b-eq0-clause-block g c = sym (child-hole (g.S.Stake.held c.args.s.now) c.args.b c.args.k c.if-b-eq0.true)

pub brelse-requires : goal.brelse-requires
brelse-requires g c = CanReturn-got c.in_ok-buf.ensures.ok _ _ c.in_ok-buf.ensures.lends

pub returns-clause-block : goal.returns-clause-block
returns-clause-block g c =
    c.number32-block.ensures
    ∙ (ap (λ q. number32 q (c.args.k * 4)) c.bytes.ensures
    ∙ (number-got c.in_ok-buf.ensures.ok c.args.k is
    ∙ sym (child-there (g.S.Stake.held c.args.s.now) c.args.b c.args.k c.if-b-eq0.false)))
  where
    is : IsSome (g.S.Stake.held c.args.s.now c.args.b (c.args.k / 16))
    is = (c.requires.block c.if-b-eq0.false).at (c.args.k / 16) (omega (arith, c.requires.place))

pub returns-clause-stake : goal.returns-clause-stake
returns-clause-stake g c = record {
  lines = c.brelse.ensures.held ∙ c.bread.ensures.held;
  away =
      c.brelse.ensures.lends
      ∙ (ap (λ q. without q (g.S.Stake.lent c.bread.new.self)) c.in_ok-buf.ensures.ok.block
      ∙ (ap (without c.args.b) c.in_ok-buf.ensures.lends
      ∙ (without-with c.args.b c.in_ok-buf.buf.bytes (g.S.Stake.lent c.args.s.now) (ap (λ (q : Lent). q c.args.b) c.requires.lent)
      ∙ c.requires.lent)));
  as_forced = c.brelse.ensures.forced ∙ c.bread.ensures.forced;
  home = c.brelse.ensures.origin ∙ c.bread.ensures.origin;
}
