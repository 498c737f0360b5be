use Rattle.std.proofs.Common.{◌∙◌, ◌++◌, [], ◌∷◌, ap, sym, subst}
use Rattle.std.specs.List.{All}
use Rattle.sv_turn.specs.Passes.{first_view}
use Rattle.sv_buf.specs.Closing.{IsBack, AreAllLines, lines_held}
use Rattle.sv_buf.proofs.Ending.{both-back, both-lines}
use Rattle.sv_buf.proofs.tests.end.Goals as goal

pub close-requires-clause-back : goal.close-requires-clause-back
close-requires-clause-back g c =
    let is = c.push_reserved-2.ensures.items
    ∙ ap (λ ps. ps ++ c.args.worker ∷ []) (c.push_reserved.ensures.items ∙ ap (λ ps. ps ++ c.args.first ∷ []) c.requires.none) in
    subst (All (IsBack c.args.cache.turn)) (sym is) (both-back c.args.cache.turn c.args.first c.args.worker c.requires.all c.requires.worker)

pub close-requires-clause-lines : goal.close-requires-clause-lines
close-requires-clause-lines g c =
    let is = c.push_reserved-2.ensures.items
    ∙ ap (λ ps. ps ++ c.args.worker ∷ []) (c.push_reserved.ensures.items ∙ ap (λ ps. ps ++ c.args.first ∷ []) c.requires.none) in
    subst (λ ps. AreAllLines (first_view c.args.cache.turn).opening.sizes (lines_held ps)) (sym is)
    (both-lines c.args.cache.turn c.args.first c.args.worker c.requires.all c.requires.worker)
