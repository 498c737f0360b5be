-- The block below is held before and after the first read.
use Rattle.std.proofs.Common.{◌∙◌}
use Rattle.sv_bmap.proofs.Paths.{held-after, child-after}
use Rattle.sv_bmap.proofs.pages.two_below.Goals as goal

pub child_of-requires-2-clause-block : goal.child_of-requires-2-clause-block
child_of-requires-2-clause-block g c _ _ =
    held-after c.child_of.ensures.stake.home c.child_of.ensures.stake.lines c.in_ok-middle.ensures.block c.requires.below

pub returns-clause-second : goal.returns-clause-second
returns-clause-second g c =
    c.in_ok-block.ensures.block ∙ child-after c.args.j c.child_of.ensures.stake.lines c.in_ok-middle.ensures.block
