-- The copies are what is chosen, and what is left of the list is the rest.
use Rattle.std.proofs.Common.{◌∷◌, [], not, ap, ◌∙◌}
use Rattle.sv_store.specs.Held.{in_ranges}
use Rattle.sv_store.specs.OwnBlock.{masked, left}
use Rattle.sv_store.proofs.OwnCut.{copies-apart, moved-spread}
use Rattle.sv_store.proofs.own_cut.cut_spread.Goals as goal

pub join-requires-clause-other : goal.join-requires-clause-other
join-requires-clause-other c = (copies-apart c.args.taken.now (c.args.range ∷ []) c.requires.sound c.requires.apart c.in_ok-copies.ensures.copies).0

pub join-requires-clause-apart : goal.join-requires-clause-apart
join-requires-clause-apart c = (copies-apart c.args.taken.now (c.args.range ∷ []) c.requires.sound c.requires.apart c.in_ok-copies.ensures.copies).1.0

pub join-requires-clause-home : goal.join-requires-clause-home
join-requires-clause-home c = (copies-apart c.args.taken.now (c.args.range ∷ []) c.requires.sound c.requires.apart c.in_ok-copies.ensures.copies).1.1

pub returns-clause-ok : goal.returns-clause-ok
returns-clause-ok c =
    moved-spread (c.args.range ∷ []) c.requires.sound c.requires.other c.requires.apart c.requires.home c.requires.away (c.lose_all.ensures ∙ ap (left (masked (λ b l. not (in_ranges (c.args.range ∷ []) b l)))) c.copies_of.ensures.blocks) c.in_ok-copies.ensures.copies c.join.ensures.sound c.join.ensures.held c.join.ensures.lends
