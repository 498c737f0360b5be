-- The part that is taken off is the last one that is left, and holds no line that was merged before.
use Rattle.std.proofs.Common.{◌≡◌, ◌<◌, ◌+◌, ◌-◌, ℕ, length, map, take, get_or, refl, sym, ap, ◌∙◌, arith}
use Rattle.std.proofs.lemmas.List.{take_all, length-map, get_or-map}
use Rattle.sv_store.specs.Held.{Both}
use Rattle.sv_bmap.specs.Parts.{part}
use Rattle.sv_bmap.proofs.Parts.{no-part-yet, apart-yet, joins-more, popped, Apart-eq, from-eq, counts-none, counts-more, counts-all}
use Rattle.sv_bmap.proofs.Parts.{forced-none, forced-more, forced-all, none-left, len-is, none-taken}
use Rattle.sv_bmap.proofs.grow.merge_all.Goals as goal

pub loop-part-init : goal.loop-part-init
loop-part-init g c = record {
  count = c.len-count.ensures ∙ len-is c.args.parts;
  items = sym (take_all (c.len-count.result - 0) c.args.parts.items (omega (arith, c.len-count.ensures, len-is c.args.parts)));
  held = no-part-yet _ _ _ (omega (arith, c.len-count.ensures, len-is c.args.parts, length-map c.args.parts.items g.S.Stake.held));
  lends = refl;
  origin = refl;
  forced = forced-none g.S.Stake.forced c.args.parts.items _ (g.S.Stake.forced c.args.s.now)
      (omega (arith, c.len-count.ensures, len-is c.args.parts));
  faults = counts-none g.S.Stake.faults c.args.parts.items _ (g.S.Stake.faults c.args.s.now)
      (omega (arith, c.len-count.ensures, len-is c.args.parts)) c.geometry-sizes.ensures.count;
}

pub unreachable-requires : goal.unreachable-requires
unreachable-requires g c =
    none-left c.args.parts.items c.loop-part.parts.items _ c.loop-part.invariant.items (omega (arith, c.loop-part.invariant.count))
    (omega (arith, c.loop-part-test.true)) (sym (len-is c.loop-part.parts) ∙ c.in_default.ensures.cases.0)

pub merge-requires-clause-lines : goal.merge-requires-clause-lines
merge-requires-clause-lines g c = record {
  apart = Apart-eq held
      (apart-yet at c.requires.apart (from-eq next c.loop-part.invariant.held)
      (omega (arith, low, length-map c.args.parts.items g.S.Stake.held)));
  away = ap g.S.Stake.lent is ∙ c.requires.lent at c.in-Some.part low;
}
  where
    at : ℕ
    at = c.len-count.result - (c.loop-part._part + 1)

    next : c.len-count.result - c.loop-part._part ≡ at + 1
    next = omega (arith, c.loop-part-test.true)

    low : at < length c.args.parts.items
    low = omega (arith, c.loop-part-test.true, c.loop-part.invariant.count)

    is : c.in-Some.part ≡ get_or c.args.parts.items at c.in-Some.part
    is = (popped c.args.parts.items _ _ c.in-Some.part c.in-Some.part _ at c.loop-part.invariant.items
        (omega (arith, c.loop-part.invariant.count)) next c.in-Some.ensures.items).1

    held : g.S.Stake.held c.in-Some.part ≡ part (map g.S.Stake.held c.args.parts.items) at
    held = ap g.S.Stake.held is ∙ sym (get_or-map g.S.Stake.held c.args.parts.items at c.in-Some.part _ low)

pub merge-requires-clause-origin : goal.merge-requires-clause-origin
merge-requires-clause-origin g c = ap g.S.Stake.origin is ∙ (c.requires.origin at c.in-Some.part low ∙ sym c.loop-part.invariant.origin)
  where
    at : ℕ
    at = c.len-count.result - (c.loop-part._part + 1)

    next : c.len-count.result - c.loop-part._part ≡ at + 1
    next = omega (arith, c.loop-part-test.true)

    low : at < length c.args.parts.items
    low = omega (arith, c.loop-part-test.true, c.loop-part.invariant.count)

    is : c.in-Some.part ≡ get_or c.args.parts.items at c.in-Some.part
    is = (popped c.args.parts.items _ _ c.in-Some.part c.in-Some.part _ at c.loop-part.invariant.items
        (omega (arith, c.loop-part.invariant.count)) next c.in-Some.ensures.items).1

pub loop-part-preserved : goal.loop-part-preserved
loop-part-preserved g c = record {
  count = c.loop-part.invariant.count;
  items = took.0;
  held = joins-more at c.requires.apart (from-eq next c.loop-part.invariant.held)
      (omega (arith, low, length-map c.args.parts.items g.S.Stake.held))
      (c.merge.ensures.held ∙ ap (Both (g.S.Stake.held c.loop-part.s)) held);
  lends = c.merge.ensures.lends ∙ c.loop-part.invariant.lends;
  origin = c.merge.ensures.origin ∙ c.loop-part.invariant.origin;
  forced = forced-more g.S.Stake.forced c.args.parts.items at _ c.in-Some.part (g.S.Stake.forced c.args.s.now) low next took.1
      c.loop-part.invariant.forced c.merge.ensures.forced;
  faults = counts-more g.S.Stake.faults c.args.parts.items at _ c.in-Some.part (g.S.Stake.faults c.args.s.now) low next took.1
      c.loop-part.invariant.faults c.merge.ensures.faults;
}
  where
    at : ℕ
    at = c.len-count.result - (c.loop-part._part + 1)

    next : c.len-count.result - c.loop-part._part ≡ at + 1
    next = omega (arith, c.loop-part-test.true)

    low : at < length c.args.parts.items
    low = omega (arith, c.loop-part-test.true, c.loop-part.invariant.count)

    took : (c.pop.new.self.items ≡ take at c.args.parts.items) × (c.in-Some.part ≡ get_or c.args.parts.items at c.in-Some.part)
    took = popped c.args.parts.items _ _ c.in-Some.part c.in-Some.part _ at c.loop-part.invariant.items
        (omega (arith, c.loop-part.invariant.count)) next c.in-Some.ensures.items

    held : g.S.Stake.held c.in-Some.part ≡ part (map g.S.Stake.held c.args.parts.items) at
    held = ap g.S.Stake.held took.1 ∙ sym (get_or-map g.S.Stake.held c.args.parts.items at c.in-Some.part _ low)

pub destroy_empty-requires : goal.destroy_empty-requires
destroy_empty-requires g c = len-is c.loop-part.parts
    ∙ none-taken c.args.parts.items _ _ c.loop-part.invariant.items (omega (arith, c.loop-part-test.false))

pub returns-clause-held : goal.returns-clause-held
returns-clause-held g c = from-eq (omega (arith, c.loop-part-test.false)) c.loop-part.invariant.held

pub returns-clause-forced : goal.returns-clause-forced
returns-clause-forced g c = forced-all g.S.Stake.forced c.args.parts.items _ (g.S.Stake.forced c.args.s.now)
    (omega (arith, c.loop-part-test.false)) c.loop-part.invariant.forced

pub returns-clause-faults : goal.returns-clause-faults
returns-clause-faults g c = counts-all g.S.Stake.faults c.args.parts.items _ (g.S.Stake.faults c.args.s.now)
    (omega (arith, c.loop-part-test.false)) c.loop-part.invariant.faults
