use Rattle.std.proofs.Common.{◌∙◌, sym, refl}
use Rattle.std.proofs.lemmas.Bool.{eqb-true, eqb-false}
use Rattle.sv_script.proofs.Words.{IsPart-behind, begins_behind, no_words}
use Rattle.sv_script.proofs.cut.next_word.Goals as goal

pub returns-then-is_empty : goal.returns-then-is_empty
returns-then-is_empty c = (refl, no_words c.args.rest.now (eqb-true _ _ (sym c.is_empty.ensures ∙ c.if-is_empty.true)))

pub first_word-requires : goal.first_word-requires
first_word-requires c = IsPart-behind c.args.rest.now c.requires

pub returns : goal.returns
returns c = begins_behind c.args.rest.now _ _ (eqb-false _ _ (sym c.is_empty.ensures ∙ c.if-is_empty.false)) c.first_word.ensures
