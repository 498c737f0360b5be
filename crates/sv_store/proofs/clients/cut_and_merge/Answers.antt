-- The two sides of a cut hold no common line, and are together what was there before, but for the two bytes.
use Rattle.std.proofs.Common.{◌∙◌, ap, sym}
use Rattle.sv_store.specs.Held.{Lent}
use Rattle.sv_store.proofs.Bytes.{both-err, both-ok, cut-first, cut-set, merged-reason}
use Rattle.sv_store.proofs.Holding.{Apart-Parts, IsSome-given, IsSome-kept}
use Rattle.sv_store.proofs.clients.cut_and_merge.Goals as goal

pub set_both-done-requires-clause-mine : goal.set_both-done-requires-clause-mine
set_both-done-requires-clause-mine g c _ _ = record {
  some = (0, IsSome-kept c.in_ok-part.ensures.ok c.args.mine 0 c.requires.stays c.requires.first_mine);
  away = ap (λ (q : Lent). q c.args.mine) c.part.ensures.lends ∙ c.requires.away;
}

pub set_both-done-requires-clause-first_mine : goal.set_both-done-requires-clause-first_mine
set_both-done-requires-clause-first_mine g c _ _ =
    IsSome-kept c.in_ok-part.ensures.ok c.args.mine 0 c.requires.stays c.requires.first_mine

pub set_both-done-requires-clause-theirs : goal.set_both-done-requires-clause-theirs
set_both-done-requires-clause-theirs g c _ _ = record {
  some = (0, IsSome-given c.in_ok-part.ensures.ok c.args.theirs 0 c.requires.goes (c.requires.lines.within c.args.theirs 0 c.requires.goes));
  away = ap (λ (q : Lent). q c.args.theirs) c.in_ok-part.ensures.new_lent;
}

pub set_both-done-requires-clause-first_theirs : goal.set_both-done-requires-clause-first_theirs
set_both-done-requires-clause-first_theirs g c _ _ =
    IsSome-given c.in_ok-part.ensures.ok c.args.theirs 0 c.requires.goes (c.requires.lines.within c.args.theirs 0 c.requires.goes)

pub merge-requires-clause-lines : goal.merge-requires-clause-lines
merge-requires-clause-lines g c = record {
  apart = Apart-Parts c.in_ok-part.ensures.ok c.set_both-done.ensures.lines c.set_both-done.ensures.other_lines;
  away = c.set_both-done.ensures.other_lends ∙ c.in_ok-part.ensures.new_lent;
}

pub returns-clause-held : goal.returns-clause-held
returns-clause-held g c = both-ok c.set_both-done.result c.set_both-done.ensures.held c.set_both-done.ensures.other_held (λ one two. cut-set c.args.mine c.args.theirs 7 9 c.in_ok-part.ensures.ok one two c.requires.first_mine c.requires.stays c.requires.goes c.merge.ensures.held)

pub returns-clause-kept : goal.returns-clause-kept
returns-clause-kept g c = both-err c.set_both-done.result c.set_both-done.ensures.kept c.set_both-done.ensures.other_kept (λ one two. cut-first c.args.mine 7 c.in_ok-part.ensures.ok one two c.requires.first_mine c.requires.stays c.merge.ensures.held)

pub returns-clause-cause : goal.returns-clause-cause
returns-clause-cause g c =
    merged-reason c.set_both-done.result _ _ _ _ c.part.ensures.faults c.geometry-sizes.ensures.count c.set_both-done.ensures.count c.set_both-done.ensures.cause c.merge.ensures.faults
