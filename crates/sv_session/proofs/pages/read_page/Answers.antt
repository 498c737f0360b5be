use Rattle.std.proofs.Common.{◌∙◌}
use Rattle.std.proofs.lemmas.Result.{on_ok_weaker}
use Rattle.sv_session.proofs.PageSteps.{hole_page, block_page}
use Rattle.sv_session.proofs.pages.read_page.Goals as goal

pub returns-then-address-eq0-clause-bytes : goal.returns-then-address-eq0-clause-bytes
returns-then-address-eq0-clause-bytes g c =
    hole_page _ _ _ _ _ c.if-address-eq0.true c.requires.block (c.fill.ensures.after (λ y e. e))

pub returns-clause-bytes : goal.returns-clause-bytes
returns-clause-bytes g c =
    on_ok_weaker c.read_block.result
    (λ e. e ∙ block_page _ _ _ c.if-address-eq0.false c.requires.sizes c.requires.length (c.requires.address c.if-address-eq0.false).most) c.read_block.ensures.bytes
