use Rattle.std.proofs.Common.{◌<◌, ◌∙◌, length, sym, arith}
use Rattle.std.proofs.lemmas.Bool.{eqb-true, eqb-false}
use Rattle.sv_script.proofs.LineSteps.{last_line, line_before, no_lines}
use Rattle.sv_script.proofs.reading.next_line.Goals as goal

pub returns-then-is_empty-clause-none : goal.returns-then-is_empty-clause-none
returns-then-is_empty-clause-none c = no_lines c.args.text.now (eqb-true _ _ (sym c.is_empty.ensures ∙ c.if-is_empty.true))

pub returns-then-end-text-clause-some : goal.returns-then-end-text-clause-some
returns-then-end-text-clause-some c =
    let some : 0 < length c.args.text.now = omega (arith, eqb-false _ _ (sym c.is_empty.ensures ∙ c.if-is_empty.false)) in
    last_line c.args.text.now c.bytes_before-end.result some c.if-end-text.true c.bytes_before-end.ensures.before

pub returns-clause-some : goal.returns-clause-some
returns-clause-some c = line_before c.args.text.now c.bytes_before-end.result c.bytes_before-end.ensures.within c.if-end-text.false c.bytes_before-end.ensures.before c.bytes_before-end.ensures.stop
