-- The first page that is present is found, or there is none.
use Rattle.std.proofs.Common.{sym, ◌∙◌, arith}
use Rattle.sv_inode.proofs.PagesHeld.{at_present, block_after, past_hole, present_none}
use Rattle.sv_inode.proofs.range.look_ahead.Goals as goal

pub returns-in-Some-clause-ahead : goal.returns-in-Some-clause-ahead
returns-in-Some-clause-ahead g c =
    sym (c.loop-page.invariant.ahead
    ∙ at_present (g.S.Stake.origin c.args.s.now).sizes (g.S.Stake.held c.args.s.now) c.args.a.now c.loop-page.page c.args.end c.in-Some.b
    c.loop-page-test.true
    (sym (block_after c.args.a.now c.loop-page.page c.loop-page.invariant.origin c.loop-page.invariant.held)
    ∙ (sym c.in_ok-block.ensures.block ∙ c.in-Some.is)))

pub returns-clause-ahead : goal.returns-clause-ahead
returns-clause-ahead g c =
    sym (c.loop-page.invariant.ahead
    ∙ present_none (g.S.Stake.origin c.args.s.now).sizes (g.S.Stake.held c.args.s.now) c.args.a.now c.loop-page.page c.args.end
    (omega (arith, c.loop-page-test.false)))

pub loop-page-preserved : goal.loop-page-preserved
loop-page-preserved g c = record {
  ahead =
      c.loop-page.invariant.ahead
      ∙ past_hole (g.S.Stake.origin c.args.s.now).sizes (g.S.Stake.held c.args.s.now) c.args.a.now c.loop-page.page c.args.end
      c.loop-page-test.true
      (sym (block_after c.args.a.now c.loop-page.page c.loop-page.invariant.origin c.loop-page.invariant.held)
      ∙ (sym c.in_ok-block.ensures.block ∙ c.in_default.is));
  held = c.lookup.ensures.stake.lines ∙ c.loop-page.invariant.held;
  lends = c.lookup.ensures.stake.away;
  forced = c.lookup.ensures.stake.as_forced ∙ c.loop-page.invariant.forced;
  origin = c.lookup.ensures.stake.home ∙ c.loop-page.invariant.origin;
  faults = omega (arith, c.loop-page.invariant.faults, c.lookup.ensures.cause.no_less);
}
