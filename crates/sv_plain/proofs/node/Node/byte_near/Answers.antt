use Rattle.std.proofs.Common.{◌∙◌}
use Rattle.sv_plain.proofs.PageBytes.{near}
use Rattle.sv_plain.proofs.node.Node.byte_near.Goals as goal

pub returns : goal.returns
returns c = c.byte_of_page.ensures ∙ near c.args.block c.args.self.now c.args.number c.args.k _ c.requires.page c.if-k-block.false
