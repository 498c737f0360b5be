use Rattle.sv_form.proofs.LinkBlocks.{one_link_block, one_link_block_spelling}
use Rattle.sv_form.proofs.link_block.link_blocks_have_one_spelling.Goals as goal

pub returns-clause-value : goal.returns-clause-value
returns-clause-value c = one_link_block

pub returns-clause-bytes : goal.returns-clause-bytes
returns-clause-bytes c = one_link_block_spelling
