use Rattle.std.proofs.Common.{◌∙◌, sym}
use Rattle.std.proofs.lemmas.Bool.{eqb-true, eqb-false}
use Rattle.sv_script.proofs.Words.{none_at_end, none_before_end}
use Rattle.sv_script.proofs.cut.none.Goals as goal

pub returns-then-is_empty : goal.returns-then-is_empty
returns-then-is_empty c = sym (none_at_end c.args.rest.now (eqb-true _ _ (sym c.is_empty.ensures ∙ c.if-is_empty.true)))

pub returns-else-is_empty : goal.returns-else-is_empty
returns-else-is_empty c = sym (none_before_end c.args.rest.now (eqb-false _ _ (sym c.is_empty.ensures ∙ c.if-is_empty.false)))
