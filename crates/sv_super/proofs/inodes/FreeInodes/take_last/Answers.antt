-- The last of the cache is a free inode.
use Rattle.std.proofs.Common.{◌-◌, length, ◌∙◌, arith}
use Rattle.sv_super.proofs.Caches.{can-take, get-some, take-last}
use Rattle.sv_super.proofs.inodes.FreeInodes.take_last.Goals as goal

pub overflow_sub-from : goal.overflow_sub-from
overflow_sub-from c = (can-take c.from.result c.self.view_is c.self.invariant c.requires (c.from.ensures ∙ get-some c.self.inside.cached.items (length c.self.inside.cached.items - 1) c.in-Some.n c.in-Some.ensures.value)).least

pub index_mut-requires : goal.index_mut-requires
index_mut-requires c = (let can = can-take c.from.result c.self.view_is c.self.invariant c.requires (c.from.ensures ∙ get-some c.self.inside.cached.items (length c.self.inside.cached.items - 1) c.in-Some.n c.in-Some.ensures.value) in omega (arith, can.place, c.self.inside.used.ok.0))

pub overflow_sub-self : goal.overflow_sub-self
overflow_sub-self c = (can-take c.from.result c.self.view_is c.self.invariant c.requires (c.from.ensures ∙ get-some c.self.inside.cached.items (length c.self.inside.cached.items - 1) c.in-Some.n c.in-Some.ensures.value)).some

pub invariant_of-self : goal.invariant_of-self
invariant_of-self c = (take-last {count' = c.self.inside.left - 1} c.from.result c.pop.new.self.items c.self.view_is c.self.invariant c.requires (c.from.ensures ∙ get-some c.self.inside.cached.items (length c.self.inside.cached.items - 1) c.in-Some.n c.in-Some.ensures.value) c.pop.ensures.rest (let can = can-take c.from.result c.self.view_is c.self.invariant c.requires (c.from.ensures ∙ get-some c.self.inside.cached.items (length c.self.inside.cached.items - 1) c.in-Some.n c.in-Some.ensures.value) in omega (arith, can.some))).kept

pub returns : goal.returns
returns c = (take-last {count' = c.self.inside.left - 1} c.from.result c.pop.new.self.items c.self.view_is c.self.invariant c.requires (c.from.ensures ∙ get-some c.self.inside.cached.items (length c.self.inside.cached.items - 1) c.in-Some.n c.in-Some.ensures.value) c.pop.ensures.rest (let can = can-take c.from.result c.self.view_is c.self.invariant c.requires (c.from.ensures ∙ get-some c.self.inside.cached.items (length c.self.inside.cached.items - 1) c.in-Some.n c.in-Some.ensures.value) in omega (arith, can.some))).is
