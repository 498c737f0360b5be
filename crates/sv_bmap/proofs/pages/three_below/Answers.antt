-- The third block is held before and after the reads above it.
use Rattle.std.proofs.Common.{◌∙◌}
use Rattle.sv_bmap.proofs.Paths.{held-after, child-after}
use Rattle.sv_bmap.proofs.pages.three_below.Goals as goal

pub child_of-requires-clause-block : goal.child_of-requires-clause-block
child_of-requires-clause-block g c _ _ =
    held-after c.two_below.ensures.stake.home c.two_below.ensures.stake.lines c.in_ok-upper.ensures.second c.requires.below

pub returns-clause-third : goal.returns-clause-third
returns-clause-third g c =
    c.in_ok-block.ensures.block ∙ child-after c.args.k c.two_below.ensures.stake.lines c.in_ok-upper.ensures.second
