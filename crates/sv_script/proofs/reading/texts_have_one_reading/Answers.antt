use Rattle.sv_script.proofs.TextLaws.{not_both, one_refusal, one_script}
use Rattle.sv_script.proofs.reading.texts_have_one_reading.Goals as goal

pub returns-clause-read : goal.returns-clause-read
returns-clause-read c = one_script

pub returns-clause-refused : goal.returns-clause-refused
returns-clause-refused c = one_refusal

pub returns-clause-apart : goal.returns-clause-apart
returns-clause-apart c = not_both
