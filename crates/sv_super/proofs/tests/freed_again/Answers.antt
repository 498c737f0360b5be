-- The core holds no line of the block that was taken from it.
use Rattle.sv_super.proofs.Samples.{taken-apart}
use Rattle.sv_store.proofs.Holding.{SameLines-eq}
use Rattle.sv_super.proofs.OnlyFree.{only-alone}
use Rattle.sv_super.proofs.tests.freed_again.Goals as goal

pub free-requires-clause-only : goal.free-requires-clause-only
free-requires-clause-only g c _ _ = only-alone _ _ c.in_ok-first.first (SameLines-eq _ _ c.in_ok-first.ensures.lines.theirs)

pub free-requires-clause-apart : goal.free-requires-clause-apart
free-requires-clause-apart g c _ _ = taken-apart _ c.in_ok-first.first c.in_ok-first.ensures.lines.mine c.in_ok-first.ensures.lines.theirs c.take-taken.ensures.kept
