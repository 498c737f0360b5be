use Rattle.std.proofs.Common.{◌%◌, length}
use Rattle.sv_links.specs.Arrangement.{list_at}
use Rattle.sv_links.proofs.Walk.{rest, Searching}
use Rattle.sv_cache.specs.Lawful.{cache}
use Rattle.sv_cache.specs.declared.TheConstants.{HASH_QUEUES}
use Rattle.sv_cache.proofs.Holder.{names}
use Rattle.sv_cache.proofs.cache.CacheCore.find.Given as goal

abbrev pub decreases-loop-next : goal.decreases-loop-next
decreases-loop-next g l = length (rest l.next (list_at l.all.queues (l.block % HASH_QUEUES)))

-- the search of the hash queue has come to `next`
abbrev pub invariant-loop-next : goal.invariant-loop-next
invariant-loop-next g l = Searching (names (cache l.all) l.block) (list_at l.all.queues (l.block % HASH_QUEUES)) l.next
