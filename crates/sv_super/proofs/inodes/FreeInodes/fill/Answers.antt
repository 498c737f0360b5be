-- A cache that is not empty stays, and an empty one gets the smallest free numbers, turned.
use Rattle.std.proofs.Common.{◌≡◌, ℕ, List, length, sym, ap, ◌∙◌}
use Rattle.std.specs.List.{refill}
use Rattle.sv_super.specs.Inodes.{past}
use Rattle.sv_super.proofs.Caches.{empty-is, empty-not, fill-more, fill-same, more-most, turned}
use Rattle.sv_super.proofs.inodes.FreeInodes.fill.Goals as goal

pub returns-then-not-is_empty : goal.returns-then-not-is_empty
returns-then-not-is_empty c = sym c.self.view_is ∙ fill-same c.self.view_is (empty-not c.self.inside.cached.items c.is_empty.ensures c.if-not-is_empty.true)

pub past_first-self-inside-requires : goal.past_first-self-inside-requires
past_first-self-inside-requires c = more-most c.as_slice-2.result.now c.self.invariant (turned c.self.inside.remembered c.smallest_free-more.ensures c.as_slice.ensures.value c.as_mut_slice.ensures.value c.reverse.ensures.after c.as_slice-2.ensures.value)

pub invariant_of-self : goal.invariant_of-self
invariant_of-self c = (fill-more (refill (length c.smallest_free-more.result.items) c.smallest_free-more.result.items c.reverse.new.self) c.past_first-self-inside.result c.self.view_is c.self.invariant (empty-is c.self.inside.cached.items c.is_empty.ensures c.if-not-is_empty.false) (sym c.as_slice-2.ensures.value ∙ turned c.self.inside.remembered c.smallest_free-more.ensures c.as_slice.ensures.value c.as_mut_slice.ensures.value c.reverse.ensures.after c.as_slice-2.ensures.value) (c.past_first-self-inside.ensures ∙ ap (λ q. past q c.self.inside.remembered) c.as_slice-2.ensures.value)).kept

pub returns : goal.returns
returns c = (fill-more (refill (length c.smallest_free-more.result.items) c.smallest_free-more.result.items c.reverse.new.self) c.past_first-self-inside.result c.self.view_is c.self.invariant (empty-is c.self.inside.cached.items c.is_empty.ensures c.if-not-is_empty.false) (sym c.as_slice-2.ensures.value ∙ turned c.self.inside.remembered c.smallest_free-more.ensures c.as_slice.ensures.value c.as_mut_slice.ensures.value c.reverse.ensures.after c.as_slice-2.ensures.value) (c.past_first-self-inside.ensures ∙ ap (λ q. past q c.self.inside.remembered) c.as_slice-2.ensures.value)).is
