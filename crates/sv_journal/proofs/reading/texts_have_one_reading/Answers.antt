use Rattle.sv_journal.proofs.OneReading.{read_one_way, read_or_refused, refused_one_way}
use Rattle.sv_journal.proofs.reading.texts_have_one_reading.Goals as goal

pub returns-clause-read : goal.returns-clause-read
returns-clause-read c = read_one_way

pub returns-clause-refused : goal.returns-clause-refused
returns-clause-refused c = refused_one_way

pub returns-clause-apart : goal.returns-clause-apart
returns-clause-apart c = read_or_refused
