use Rattle.sv_check.proofs.EntryReads.{entry_read}
use Rattle.sv_check.proofs.sound.entries.read_entry.Goals as goal

pub returns : goal.returns
returns c = entry_read c.args.bytes.now c.requires c.read.result c.read.ensures.some c.read.ensures.none
