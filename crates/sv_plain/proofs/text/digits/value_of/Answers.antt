use Rattle.std.proofs.Common.{◌∙◌, ◌<◌, ◌+◌, subst, sym, below_more, arith, ℕ, length}
use Rattle.std.proofs.lemmas.Bool.{eqb-false}
use Rattle.std.specs.Char.{digit_value}
use Rattle.sv_plain.proofs.DigitValues.{too_large, value_step, value_read}
use Rattle.sv_plain.proofs.text.digits.value_of.Goals as goal

pub returns-then-value-from-clause-value : goal.returns-then-value-from-clause-value
returns-then-value-from-clause-value c =
    let step = value_step c.args.base c.args.word.now c.loop-byte.byte-index c.loop-byte.value c.from.result c.in-Some.digit c.from-in-loop-byte.result c.from-in-loop-byte-2.result
    (omega arith) c.loop-byte.invariant.value c.from.ensures c.in-Some.ensures.value.1 c.from-in-loop-byte.ensures c.from-in-loop-byte-2.ensures in
    sym (too_large c.args.base c.args.most c.args.word.now (c.loop-byte.byte-index + 1) (omega arith) (omega (arith, step, c.if-value-from.true, c.from-in-loop-byte-3.ensures)))

pub loop-byte-preserved : goal.loop-byte-preserved
loop-byte-preserved c =
    let step = value_step c.args.base c.args.word.now c.loop-byte.byte-index c.loop-byte.value c.from.result c.in-Some.digit c.from-in-loop-byte.result c.from-in-loop-byte-2.result
    (omega arith) c.loop-byte.invariant.value c.from.ensures c.in-Some.ensures.value.1 c.from-in-loop-byte.ensures c.from-in-loop-byte-2.ensures in
    record {
      digits = below_more _ _ c.loop-byte.invariant.digits (subst (λ (ch : ℕ). digit_value ch < c.args.base) c.from.ensures c.in-Some.ensures.value.0);
      value = step;
      most = omega (arith, c.if-value-from.false, c.from-in-loop-byte-3.ensures);
    }

pub returns-clause-value : goal.returns-clause-value
returns-clause-value c =
    let some : 0 < length c.args.word.now = omega (arith, eqb-false _ _ (sym c.is_empty.ensures ∙ c.if-is_empty.false)) in
    value_read c.args.base c.args.most c.args.word.now c.loop-byte.byte-index c.loop-byte.value some c.loop-byte-test.false c.loop-byte.invariant.digits c.loop-byte.invariant.value c.loop-byte.invariant.most
