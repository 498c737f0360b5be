-- The part that is taken off is the last one that is left.
use Rattle.std.proofs.Common.{◌≡◌, ◌≤◌, ◌+◌, ◌-◌, ℕ, length, ap, sym, ◌∙◌, arith}
use Rattle.sv_bmap.proofs.Parts.{popped}
use Rattle.sv_inode.specs.Truncate.{IsCut, less_all}
use Rattle.sv_inode.proofs.GivenBack.{cut-at, less-none, merge-apart, merged-more, names-none, unforced-more}
use Rattle.sv_inode.proofs.cuts.merge_back.Goals as goal

pub merge-requires-clause-lines : goal.merge-requires-clause-lines
merge-requires-clause-lines g c = record {
  apart = merge-apart c.args.cuts.items c.loop-cut.cuts.items c.pop.new.self.items (c.in-Some.field-0-0, c.in-Some.part)
      (c.len-count.result - c.loop-cut._cut) (c.len-count.result - (c.loop-cut._cut + 1)) c.requires.cuts.1 c.loop-cut.invariant.items
      (omega (arith, c.loop-cut.invariant.count)) (omega (arith, c.loop-cut-test.true)) c.in-Some.ensures.items
      (c.loop-cut.invariant.held c.requires.cuts.0 c.requires.cuts.1);
  away = (cut-at c.args.cuts.items c.loop-cut.cuts.items c.pop.new.self.items (c.in-Some.field-0-0, c.in-Some.part)
      (c.len-count.result - c.loop-cut._cut) (c.len-count.result - (c.loop-cut._cut + 1)) c.requires.cuts.1.each c.loop-cut.invariant.items
      (omega (arith, c.loop-cut.invariant.count)) (omega (arith, c.loop-cut-test.true)) c.in-Some.ensures.items).away;
}

pub merge-requires-clause-origin : goal.merge-requires-clause-origin
merge-requires-clause-origin g c =
    (cut-at c.args.cuts.items c.loop-cut.cuts.items c.pop.new.self.items (c.in-Some.field-0-0, c.in-Some.part)
    (c.len-count.result - c.loop-cut._cut) (c.len-count.result - (c.loop-cut._cut + 1)) c.requires.cuts.1.each
    c.loop-cut.invariant.items (omega (arith, c.loop-cut.invariant.count))
    (omega (arith, c.loop-cut-test.true)) c.in-Some.ensures.items).home
    ∙ sym c.loop-cut.invariant.origin

pub loop-cut-preserved : goal.loop-cut-preserved
loop-cut-preserved g c = record {
  count = c.loop-cut.invariant.count;
  items = (popped c.args.cuts.items c.loop-cut.cuts.items c.pop.new.self.items x x
      (c.len-count.result - c.loop-cut._cut) at c.loop-cut.invariant.items low next c.in-Some.ensures.items).0;
  held = λ h from. merged-more c.args.cuts.items c.loop-cut.cuts.items c.pop.new.self.items x
      (c.len-count.result - c.loop-cut._cut) at from c.loop-cut.invariant.items low next c.in-Some.ensures.items
      (c.loop-cut.invariant.held h from) c.merge.ensures.held;
  lends = c.merge.ensures.lends ∙ c.loop-cut.invariant.lends;
  faults = omega (arith, c.merge.ensures.faults, cut.none, c.loop-cut.invariant.faults, c.geometry-sizes.ensures.count);
  forced = unforced-more (g.S.Stake.forced c.args.s.now) c.merge.ensures.forced cut.unforced c.loop-cut.invariant.forced;
  origin = c.merge.ensures.origin ∙ c.loop-cut.invariant.origin;
}
  where
    at : ℕ
    at = c.len-count.result - (c.loop-cut._cut + 1)

    x : ℕ × g.row.S.Denot
    x = (c.in-Some.field-0-0, c.in-Some.part)

    low : c.len-count.result - c.loop-cut._cut ≤ length c.args.cuts.items
    low = omega (arith, c.loop-cut.invariant.count)

    next : c.len-count.result - c.loop-cut._cut ≡ at + 1
    next = omega (arith, c.loop-cut-test.true)

    cut : IsCut g.S.Stake.held g.S.Stake.lent g.S.Stake.origin g.S.Stake.forced g.S.Stake.faults
        (g.S.Stake.origin c.args.s.now) c.requires.cuts.0 x
    cut = cut-at c.args.cuts.items c.loop-cut.cuts.items c.pop.new.self.items x
        (c.len-count.result - c.loop-cut._cut) at c.requires.cuts.1.each c.loop-cut.invariant.items low next c.in-Some.ensures.items

pub returns-clause-held : goal.returns-clause-held
returns-clause-held g c = λ h from.
    c.loop-cut.invariant.held h from
    ∙ (ap (λ q. less_all q h)
    (names-none c.args.cuts.items c.loop-cut.cuts.items _ c.loop-cut.invariant.items (omega (arith, c.loop-cut-test.false)))
    ∙ less-none h)
