use Rattle.std.proofs.Common.{◌≡◌, ◌<◌, length, ◌∙◌, sym, ap, arith}
use Rattle.std.proofs.lemmas.Bool.{eqb-true, eqb-false}
use Rattle.std.proofs.lemmas.List.{nil_from_length}
use Rattle.sv_dir.specs.Path.{pieces}
use Rattle.sv_dir.proofs.PathLemmas.{pieces-nil, piece_after}
use Rattle.sv_dir.proofs.path.next_piece.Goals as goal

pub returns-then-is_empty-clause-none : goal.returns-then-is_empty-clause-none
returns-then-is_empty-clause-none c =
    let none : length c.after_slashes-rest.result.now ≡ 0 = eqb-true _ _ (sym c.is_empty.ensures ∙ c.if-is_empty.true) in
    sym c.after_slashes-rest.ensures.same ∙ ap pieces (nil_from_length _ none) ∙ pieces-nil

pub returns-clause-some : goal.returns-clause-some
returns-clause-some c =
    let some : 0 < length c.after_slashes-rest.result.now = omega (arith, eqb-false _ _ (sym c.is_empty.ensures ∙ c.if-is_empty.false)) in
    piece_after c.args.path.now c.after_slashes-rest.result.now _ _ c.before_slash.result c.after_slashes-rest.ensures.same c.after_slashes-rest.ensures.shorter some (c.after_slashes-rest.ensures.first some)
    c.before_slash.ensures.within c.before_slash.ensures.before c.before_slash.ensures.slash c.split_at.ensures.front c.split_at.ensures.back
