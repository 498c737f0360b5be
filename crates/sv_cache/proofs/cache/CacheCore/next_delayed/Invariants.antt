use Rattle.std.proofs.Common.{length}
use Rattle.sv_links.specs.Arrangement.{list_at}
use Rattle.sv_links.proofs.Walk.{rest, Searching}
use Rattle.sv_cache.specs.Cache.{is_delayed}
use Rattle.sv_cache.specs.Lawful.{cache}
use Rattle.sv_cache.proofs.cache.CacheCore.next_delayed.Given as goal

abbrev pub decreases-loop-next : goal.decreases-loop-next
decreases-loop-next g l = length (rest l.next (list_at l.all.free 0))

-- the search of the free list has come to `next`
abbrev pub invariant-loop-next : goal.invariant-loop-next
invariant-loop-next g l = Searching (is_delayed (cache l.all)) (list_at l.all.free 0) l.next
