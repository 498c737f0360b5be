-- What was built and linked is merged: the tree has one page more.
use Rattle.std.proofs.Common.{arith}
use Rattle.sv_bmap.proofs.Built.{attached-parts, same-linked}
use Rattle.sv_bmap.proofs.Kept.{apart-kept, counts-kept, forced-kept, home-kept}
use Rattle.sv_bmap.proofs.grow.attach.Goals as goal

pub merge_all-requires-clause-apart : goal.merge_all-requires-clause-apart
merge_all-requires-clause-apart g c _ _ = apart-kept c.build.ensures.parts (same-linked c.in_default.ensures.ok.links) c.requires.new.apart

pub merge_all-requires-clause-lent : goal.merge_all-requires-clause-lent
merge_all-requires-clause-lent g c _ _ = c.build.ensures.parts.away

pub merge_all-requires-clause-origin : goal.merge_all-requires-clause-origin
merge_all-requires-clause-origin g c _ _ = home-kept c.build.ensures.parts c.build.ensures.origin c.requires.home

pub returns-clause-ok : goal.returns-clause-ok
returns-clause-ok g c = attached-parts c.geometry-sizes.result c.geometry-sizes.ensures.value c.geometry-sizes.ensures.sizes
    c.requires.page c.requires.tree c.requires.new c.build.ensures.parts c.in_default.ensures.ok c.merge_all.ensures.held

pub returns-clause-counts : goal.returns-clause-counts
returns-clause-counts g c = counts-kept c.build.ensures.parts c.build.ensures.faults c.merge_all.ensures.faults

pub returns-clause-forced : goal.returns-clause-forced
returns-clause-forced g c = forced-kept c.build.ensures.parts c.build.ensures.forced c.merge_all.ensures.forced

pub returns-clause-faults : goal.returns-clause-faults
returns-clause-faults g c = omega (arith, c.merge_all.ensures.faults, c.build.ensures.faults, c.geometry-sizes.ensures.count)
