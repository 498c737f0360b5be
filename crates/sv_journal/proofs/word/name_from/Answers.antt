use Rattle.sv_journal.proofs.NameWords.{name_read}
use Rattle.sv_journal.proofs.word.name_from.Goals as goal

pub returns : goal.returns
returns c = name_read c.args.bytes.now c.read.result c.read.ensures.variant c.read.ensures.value
