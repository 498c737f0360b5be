use Rattle.std.proofs.Common.{sym, refl, arith, below_more}
use Rattle.sv_check.proofs.ChainMet.{each_one, each_end}
use Rattle.sv_check.proofs.ChainWalk.{meets_one, meets_stop, meets_end, met_set}
use Rattle.sv_check.proofs.sound.chain.MetBlocks.take_each.Goals as goal

pub loop-number-init : goal.loop-number-init
loop-number-init c = record {
  blocks = c.requires.blocks;
  inside = λ k less. absurd (omega (arith, less));
  each = λ b. refl;
  meets = λ image. record { same = λ rest. refl };
}

pub loop-number-preserved : goal.loop-number-preserved
loop-number-preserved c = record {
  blocks = c.take.ensures.blocks;
  inside = below_more _ _ c.loop-number.invariant.inside c.if-not-take.ensures.in_range;
  each = each_one _ _ _ c.loop-number.number-index _ c.loop-number-test.true
      (met_set _ _ _ (omega (arith, c.if-not-take.ensures.in_range, c.loop-number.invariant.blocks)) c.if-not-take.ensures.met) c.loop-number.invariant.each;
  meets = λ image. meets_one _ image _ _ _ c.loop-number.number-index _ c.loop-number-test.true (sym c.if-not-take.ensures.result)
      (met_set _ _ _ (omega (arith, c.if-not-take.ensures.in_range, c.loop-number.invariant.blocks)) c.if-not-take.ensures.met) (c.loop-number.invariant.meets image);
}

pub returns-then-not-take-clause-follows : goal.returns-then-not-take-clause-follows
returns-then-not-take-clause-follows c = λ image rest.
    meets_stop _ image _ _ _ c.loop-number.number-index _ c.loop-number-test.true (sym c.if-not-take.ensures.result) (sym c.if-not-take.ensures.bad) (c.loop-number.invariant.meets image) rest

pub returns-clause-follows : goal.returns-clause-follows
returns-clause-follows c = λ image rest. meets_end _ image _ _ _ c.loop-number.number-index c.loop-number-test.false (c.loop-number.invariant.meets image) rest

pub returns-clause-met : goal.returns-clause-met
returns-clause-met c = λ b. each_end _ _ _ c.loop-number.number-index c.loop-number-test.false c.loop-number.invariant.each b

pub returns-clause-inside : goal.returns-clause-inside
returns-clause-inside c = λ k less. c.loop-number.invariant.inside k (omega (arith, less, c.loop-number-test.false))
