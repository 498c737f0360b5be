-- The last of the cache that was filled is free; where it is empty none is.
use Rattle.std.proofs.Common.{slice_get, ap, ◌∙◌}
use Rattle.sv_super.specs.Inodes.{smallest}
use Rattle.sv_super.proofs.Caches.{empty-is, empty-not, next-last, next-more, next-none}
use Rattle.sv_super.proofs.inodes.FreeInodes.next.Goals as goal

pub returns-then-self-eq0-clause-none : goal.returns-then-self-eq0-clause-none
returns-then-self-eq0-clause-none c = (next-none c.self.view_is c.self.invariant c.if-self-eq0.true).none

pub returns-then-is_empty-clause-some : goal.returns-then-is_empty-clause-some
returns-then-is_empty-clause-some c = (next-more c.first_free.result c.self.view_is c.self.invariant (empty-is c.self.inside.cached.items c.is_empty.ensures c.if-is_empty.true) (c.first_free.ensures ∙ ap (λ q. slice_get (smallest q 100 c.self.inside.remembered) 0) c.as_slice.ensures.value)).some

pub returns-then-is_empty-clause-cached : goal.returns-then-is_empty-clause-cached
returns-then-is_empty-clause-cached c = (next-more c.first_free.result c.self.view_is c.self.invariant (empty-is c.self.inside.cached.items c.is_empty.ensures c.if-is_empty.true) (c.first_free.ensures ∙ ap (λ q. slice_get (smallest q 100 c.self.inside.remembered) 0) c.as_slice.ensures.value)).cached

pub returns-then-is_empty-clause-free : goal.returns-then-is_empty-clause-free
returns-then-is_empty-clause-free c = (next-more c.first_free.result c.self.view_is c.self.invariant (empty-is c.self.inside.cached.items c.is_empty.ensures c.if-is_empty.true) (c.first_free.ensures ∙ ap (λ q. slice_get (smallest q 100 c.self.inside.remembered) 0) c.as_slice.ensures.value)).free

pub returns-then-is_empty-clause-none : goal.returns-then-is_empty-clause-none
returns-then-is_empty-clause-none c = (next-more c.first_free.result c.self.view_is c.self.invariant (empty-is c.self.inside.cached.items c.is_empty.ensures c.if-is_empty.true) (c.first_free.ensures ∙ ap (λ q. slice_get (smallest q 100 c.self.inside.remembered) 0) c.as_slice.ensures.value)).none

pub returns-clause-some : goal.returns-clause-some
returns-clause-some c = (next-last c.copied.result c.as_slice-2.result.now c.self.view_is c.self.invariant (empty-not c.self.inside.cached.items c.is_empty.ensures c.if-is_empty.false) c.as_slice-2.ensures.value (c.copied.ensures ∙ c.last.ensures.value)).some

pub returns-clause-cached : goal.returns-clause-cached
returns-clause-cached c = (next-last c.copied.result c.as_slice-2.result.now c.self.view_is c.self.invariant (empty-not c.self.inside.cached.items c.is_empty.ensures c.if-is_empty.false) c.as_slice-2.ensures.value (c.copied.ensures ∙ c.last.ensures.value)).cached

pub returns-clause-free : goal.returns-clause-free
returns-clause-free c = (next-last c.copied.result c.as_slice-2.result.now c.self.view_is c.self.invariant (empty-not c.self.inside.cached.items c.is_empty.ensures c.if-is_empty.false) c.as_slice-2.ensures.value (c.copied.ensures ∙ c.last.ensures.value)).free

pub returns-clause-none : goal.returns-clause-none
returns-clause-none c = (next-last c.copied.result c.as_slice-2.result.now c.self.view_is c.self.invariant (empty-not c.self.inside.cached.items c.is_empty.ensures c.if-is_empty.false) c.as_slice-2.ensures.value (c.copied.ensures ∙ c.last.ensures.value)).none
