use Rattle.std.proofs.Common.{◌<◌, length, sym, subst}
use Rattle.sv_links.specs.Arrangement.{list_at}
use Rattle.sv_links.proofs.Walk.{head-stands}
use Rattle.sv_cache.specs.Cache.{Cache, IsFree}
use Rattle.sv_cache.specs.Lawful.{cache}
use Rattle.sv_cache.proofs.Kept.{seen, kept_there}
use Rattle.sv_cache.proofs.cache.CacheCore.reuse.Given.{Over}
use Rattle.sv_cache.proofs.cache.CacheCore.reuse.Goals as goal
use Rattle.sv_cache.proofs.cache.CacheCore.reuse.Goals.{In-Some}

-- the head of the free list is free
head : (g : Over) (c : In-Some g) → IsFree (cache c.deref.result.now) c.in-Some.buffer
head g c = head-stands c.in-Some.buffer (list_at c.deref.result.now.free 0) (sym c.in-Some.ensures.head)

inside : (g : Over) (c : In-Some g) → c.in-Some.buffer < length c.args.self.now.buffers
inside g c = subst (λ (v : Cache g.row.D.Denot). c.in-Some.buffer < length v.buffers) (seen c.deref.ensures c.self.view_is) ((kept_there c.deref.ensures c.self.invariant).lawful.one_state.in_range c.in-Some.buffer (head g c))

pub take_off-requires : goal.take_off-requires
take_off-requires g c = subst (λ v. IsFree v c.in-Some.buffer) (seen c.deref.ensures c.self.view_is) (head g (goal.at.take_off-requires g c).In-Some)

pub is_delayed-requires : goal.is_delayed-requires
is_delayed-requires g c = record { in_range = subst (λ (v : Cache g.row.D.Denot). c.in-Some.buffer < length v.buffers) (sym c.take_off.ensures.after) (inside g (goal.at.is_delayed-requires g c).In-Some) }

pub rename-requires-clause-in_range : goal.rename-requires-clause-in_range
rename-requires-clause-in_range g c = subst (λ (v : Cache g.row.D.Denot). c.in-Some.buffer < length v.buffers) (sym c.take_off.ensures.after) (inside g (goal.at.rename-requires-clause-in_range g c).In-Some)
