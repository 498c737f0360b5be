use Rattle.sv_script.proofs.AnswerLaws.{own_texts}
use Rattle.sv_script.proofs.answer.answers_have_own_texts.Goals as goal

pub returns : goal.returns
returns c = own_texts
