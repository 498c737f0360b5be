-- The block that is freed is the last one that is left.
use Rattle.std.proofs.Common.{◌≡◌, ◌≤◌, ◌<◌, ◌+◌, ◌-◌, ◌++◌, ◌∷◌, [], ℕ, length, refl, sym, ◌∙◌, arith}
use Rattle.std.specs.List.{sum_by}
use Rattle.std.proofs.lemmas.List.{take_all}
use Rattle.sv_bmap.proofs.Parts.{popped, len-is}
use Rattle.sv_dev.specs.Causes.{counted}
use Rattle.sv_store.specs.Held.{Held, SameLines}
use Rattle.sv_super.specs.Core.{alone}
use Rattle.sv_super.proofs.OnlyFree.{only-alone}
use Rattle.sv_super.specs.Count.{times}
use Rattle.sv_inode.specs.Truncate.{CanFreeAll, IsPart, names_of}
use Rattle.sv_inode.proofs.GivenBack.{all-faults, apart-more, block-freed, part-at, data-freed, freed-all, freed-more, freed-none}
use Rattle.sv_inode.proofs.GivenBack.{lines-all, lines-more, names-first, names-in, names-none, names-of-all, names-push, none-left}
use Rattle.sv_inode.proofs.GivenBack.{only-apart, others-more, unforced-more}
use Rattle.sv_inode.proofs.cuts.free_all.Goals as goal

pub loop-cut-init : goal.loop-cut-init
loop-cut-init g c = record {
  count = c.len-count.ensures ∙ len-is c.args.cuts;
  items = sym (take_all (c.len-count.result - 0) c.args.cuts.items (omega (arith, c.len-count.ensures, len-is c.args.cuts)));
  spare = omega arith;
  freed = freed-none (g.S.Stake.faults c.args.core.now.stake) c.args.core.now (names_of c.args.cuts.items)
      (names_of c.args.cuts.items) refl;
  apart = λ h can. can.apart;
  lines = λ h can. record { at = λ b l. refl };
  others = λ b k gone. refl;
  inodes = refl;
  head = refl;
  lends = c.left-left.ensures.sound.lent;
  forced = refl;
  origin = refl;
  faults = omega arith;
  counts = omega arith;
}

pub free-requires-clause-in_data : goal.free-requires-clause-in_data
free-requires-clause-in_data g c κs within =
    data-freed c.args.cuts.items c.loop-cut.cuts.items c.pop.new.self.items (c.in-Some.b, c.in-Some.part)
    (c.len-count.result - c.loop-cut._cut) c.requires.cuts.1 c.loop-cut.invariant.items c.in-Some.ensures.items
    c.loop-cut.invariant.origin

pub free-requires-clause-block : goal.free-requires-clause-block
free-requires-clause-block g c κs within =
    block-freed c.args.cuts.items c.loop-cut.cuts.items c.pop.new.self.items (c.in-Some.b, c.in-Some.part)
    (c.len-count.result - c.loop-cut._cut) (c.len-count.result - (c.loop-cut._cut + 1)) c.requires.cuts.1 c.loop-cut.invariant.items
    (omega (arith, c.loop-cut.invariant.count)) (omega (arith, c.loop-cut-test.true)) c.in-Some.ensures.items
    c.loop-cut.invariant.origin

pub free-requires-clause-only : goal.free-requires-clause-only
free-requires-clause-only g c κs within =
    only-alone (g.S.Stake.origin c.loop-cut.core.stake) c.requires.cuts.0 c.in-Some.b
    (part-at c.args.cuts.items c.loop-cut.cuts.items c.pop.new.self.items (c.in-Some.b, c.in-Some.part) (c.len-count.result - c.loop-cut._cut) (c.len-count.result - (c.loop-cut._cut + 1)) c.requires.cuts.1.each c.loop-cut.invariant.items (omega (arith, c.loop-cut.invariant.count)) (omega (arith, c.loop-cut-test.true)) c.in-Some.ensures.items).lines

pub free-requires-clause-apart : goal.free-requires-clause-apart
free-requires-clause-apart g c κs within =
    only-apart c.requires.cuts.0 c.in-Some.b (names_of c.loop-cut.cuts.items)
    (c.loop-cut.invariant.apart c.requires.cuts.0 c.requires.cuts.1)
    (names-in c.loop-cut.cuts.items c.pop.new.self.items (c.in-Some.b, c.in-Some.part) c.in-Some.ensures.items)
    (part-at c.args.cuts.items c.loop-cut.cuts.items c.pop.new.self.items (c.in-Some.b, c.in-Some.part)
    (c.len-count.result - c.loop-cut._cut) (c.len-count.result - (c.loop-cut._cut + 1)) c.requires.cuts.1.each
    c.loop-cut.invariant.items (omega (arith, c.loop-cut.invariant.count))
    (omega (arith, c.loop-cut-test.true)) c.in-Some.ensures.items).lines

pub free-requires-clause-lent : goal.free-requires-clause-lent
free-requires-clause-lent g c κs within =
    (part-at c.args.cuts.items c.loop-cut.cuts.items c.pop.new.self.items (c.in-Some.b, c.in-Some.part)
    (c.len-count.result - c.loop-cut._cut) (c.len-count.result - (c.loop-cut._cut + 1)) c.requires.cuts.1.each
    c.loop-cut.invariant.items (omega (arith, c.loop-cut.invariant.count))
    (omega (arith, c.loop-cut-test.true)) c.in-Some.ensures.items).away

pub free-requires-clause-origin : goal.free-requires-clause-origin
free-requires-clause-origin g c κs within =
    (part-at c.args.cuts.items c.loop-cut.cuts.items c.pop.new.self.items (c.in-Some.b, c.in-Some.part)
    (c.len-count.result - c.loop-cut._cut) (c.len-count.result - (c.loop-cut._cut + 1)) c.requires.cuts.1.each
    c.loop-cut.invariant.items (omega (arith, c.loop-cut.invariant.count))
    (omega (arith, c.loop-cut-test.true)) c.in-Some.ensures.items).home
    ∙ sym c.loop-cut.invariant.origin

pub loop-cut-preserved : goal.loop-cut-preserved
loop-cut-preserved g c = record {
  count = c.loop-cut.invariant.count;
  items = (popped c.args.cuts.items c.loop-cut.cuts.items c.pop.new.self.items x x
      (c.len-count.result - c.loop-cut._cut) at c.loop-cut.invariant.items low next c.in-Some.ensures.items).0;
  spare = omega (arith, c.free.ensures.spare, c.loop-cut.invariant.spare);
  freed = freed-more c.in-Some.b c.loop-cut.invariant.freed c.loop-cut.invariant.faults met c.free.ensures.faults names
      c.free.ensures.block;
  apart = λ h can. apart-more h c.in-Some.b (names_of c.loop-cut.cuts.items) (names_of c.pop.new.self.items)
      (c.loop-cut.invariant.apart h can) names (first h can) (part h can) c.free.ensures.lines;
  lines = λ h can. lines-more (g.S.Stake.held c.loop-cut.core.stake) h (g.S.Stake.held c.args.core.now.stake)
      (names_of c.args.cuts.items) c.in-Some.b (names_of c.loop-cut.cuts.items) (names_of c.pop.new.self.items) names inside (first h can)
      (part h can) c.free.ensures.lines (c.loop-cut.invariant.lines h can);
  others = λ b k gone. others-more (g.S.Stake.held c.loop-cut.core.stake) c.requires.cuts.0 c.in-Some.b (names_of c.args.cuts.items)
      (names-of-all c.args.cuts.items c.loop-cut.cuts.items c.pop.new.self.items x
      (c.len-count.result - c.loop-cut._cut) c.loop-cut.invariant.items c.in-Some.ensures.items) (part c.requires.cuts.0 c.requires.cuts.1)
      c.free.ensures.others b k gone ∙ c.loop-cut.invariant.others b k gone;
  inodes = c.free.ensures.inodes ∙ c.loop-cut.invariant.inodes;
  head = c.free.ensures.head ∙ c.loop-cut.invariant.head;
  lends = c.free.ensures.lends;
  forced = unforced-more (g.S.Stake.forced c.args.core.now.stake) c.free.ensures.forced (cut c.requires.cuts.0 c.requires.cuts.1).unforced
      c.loop-cut.invariant.forced;
  origin = c.free.ensures.origin ∙ c.loop-cut.invariant.origin;
  faults = omega (arith, c.loop-cut.invariant.faults, met, c.free.ensures.faults);
  counts = all-faults (λ cut. g.S.Stake.faults cut.1) (g.S.Stake.faults c.args.core.now.stake) (g.S.Stake.faults c.loop-cut.core.stake)
      (g.S.Stake.faults c.free.new.self.stake) c.loop-cut.cuts.items c.pop.new.self.items x
      (sum_by (λ cut. g.S.Stake.faults cut.1) c.args.cuts.items) c.loop-cut.invariant.counts c.in-Some.ensures.items c.free.ensures.faults;
}
  where
    at : ℕ
    at = c.len-count.result - (c.loop-cut._cut + 1)

    x : ℕ × g.row.S.Denot
    x = (c.in-Some.b, c.in-Some.part)

    low : c.len-count.result - c.loop-cut._cut ≤ length c.args.cuts.items
    low = omega (arith, c.loop-cut.invariant.count)

    next : c.len-count.result - c.loop-cut._cut ≡ at + 1
    next = omega (arith, c.loop-cut-test.true)

    cut : (h : Held) → CanFreeAll g.S.Stake.held g.S.Stake.lent g.S.Stake.origin g.S.Stake.forced
        (g.S.Stake.origin c.args.core.now.stake) h (g.S.Stake.held c.args.core.now.stake) c.args.cuts.items
        → IsPart g.S.Stake.held g.S.Stake.lent g.S.Stake.origin g.S.Stake.forced (g.S.Stake.origin c.args.core.now.stake) h x
    cut h can = part-at c.args.cuts.items c.loop-cut.cuts.items c.pop.new.self.items x (c.len-count.result - c.loop-cut._cut) at can.each
        c.loop-cut.invariant.items low next c.in-Some.ensures.items

    part : (h : Held) → CanFreeAll g.S.Stake.held g.S.Stake.lent g.S.Stake.origin g.S.Stake.forced
        (g.S.Stake.origin c.args.core.now.stake) h (g.S.Stake.held c.args.core.now.stake) c.args.cuts.items
        → SameLines (g.S.Stake.held c.in-Some.part) (alone c.in-Some.b h)
    part h can = (cut h can).lines

    first : (h : Held) → CanFreeAll g.S.Stake.held g.S.Stake.lent g.S.Stake.origin g.S.Stake.forced
        (g.S.Stake.origin c.args.core.now.stake) h (g.S.Stake.held c.args.core.now.stake) c.args.cuts.items
        → times c.in-Some.b (names_of c.pop.new.self.items) ≡ 0
    first h can = names-first c.args.cuts.items c.loop-cut.cuts.items c.pop.new.self.items x
        (c.len-count.result - c.loop-cut._cut) at can.are.once c.loop-cut.invariant.items low next c.in-Some.ensures.items

    names : names_of c.loop-cut.cuts.items ≡ names_of c.pop.new.self.items ++ c.in-Some.b ∷ []
    names = names-push c.loop-cut.cuts.items c.pop.new.self.items x c.in-Some.ensures.items

    inside : 0 < times c.in-Some.b (names_of c.loop-cut.cuts.items)
    inside = names-in c.loop-cut.cuts.items c.pop.new.self.items x c.in-Some.ensures.items

    met : counted (g.S.Stake.faults c.loop-cut.core.stake) 0 ≤ counted (g.S.Stake.faults c.loop-cut.core.stake)
        (g.S.Stake.faults c.in-Some.part)
    met = omega arith

pub returns-clause-blocks : goal.returns-clause-blocks
returns-clause-blocks g c =
    freed-all (names-none c.args.cuts.items c.loop-cut.cuts.items _ c.loop-cut.invariant.items (omega (arith, c.loop-cut-test.false)))
    c.loop-cut.invariant.freed

pub returns-clause-lines : goal.returns-clause-lines
returns-clause-lines g c = λ h can. lines-all (g.S.Stake.held c.loop-cut.core.stake) h (g.S.Stake.held c.args.core.now.stake)
    (names_of c.args.cuts.items)
    (names-none c.args.cuts.items c.loop-cut.cuts.items _ c.loop-cut.invariant.items (omega (arith, c.loop-cut-test.false)))
    (c.loop-cut.invariant.lines h can)

pub returns-clause-faults : goal.returns-clause-faults
returns-clause-faults g c = none-left (λ cut. g.S.Stake.faults cut.1) (g.S.Stake.faults c.args.core.now.stake)
    (g.S.Stake.faults c.loop-cut.core.stake) (sum_by (λ cut. g.S.Stake.faults cut.1) c.args.cuts.items) _ c.args.cuts.items
    c.loop-cut.cuts.items c.loop-cut.invariant.counts c.loop-cut.invariant.items (omega (arith, c.loop-cut-test.false))
