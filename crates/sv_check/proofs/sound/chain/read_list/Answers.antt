use Rattle.sv_check.proofs.ListReads.{list_read}
use Rattle.sv_check.proofs.sound.chain.read_list.Goals as goal

pub returns : goal.returns
returns c = list_read c.args.block.now c.read.result c.requires c.read.ensures.some c.read.ensures.none
