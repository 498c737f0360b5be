use Rattle.std.proofs.Common.{is_ok, sym, ap, ◌∙◌}
use Rattle.std.specs.FinMap as fmap
use Rattle.sv_form.specs.Node.{Node, block_set}
use Rattle.sv_plain.proofs.WrittenPages.{mine-either}
use Rattle.sv_plain.proofs.node.Node.make_page_present.Goals as goal

pub returns-clause-mine : goal.returns-clause-mine
returns-clause-mine c =
    c.add_page.ensures.blocks
    ∙ mine-either (is_ok c.add_page.result) c.args.per c.args.page c.from_vec.result c.args.self.now c.args.blocks.now c.requires.mine
    ∙ sym (ap (λ (n : Node). block_set c.args.per (fmap.keys n.pages)) c.add_page.ensures.node)
