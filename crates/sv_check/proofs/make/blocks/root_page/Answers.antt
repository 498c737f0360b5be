use Rattle.sv_check.proofs.BlockBytes.{root_page_spelled}
use Rattle.sv_check.proofs.make.blocks.root_page.Goals as goal

pub returns : goal.returns
returns c = root_page_spelled c.new-block.ensures c.put16.ensures.bytes c.push.ensures.items c.fill_to.ensures.bytes c.put16-2.ensures.bytes c.push-2.ensures.items c.push-3.ensures.items
