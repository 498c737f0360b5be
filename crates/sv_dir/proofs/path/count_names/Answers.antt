use Rattle.std.proofs.Common.{◌∙◌, ap, sym}
use Rattle.std.proofs.lemmas.Bool.{false≢true}
use Rattle.std.specs.List.{list_all}
use Rattle.sv_dir.specs.Path.{is_name, pieces}
use Rattle.sv_dir.proofs.NameCounts.{first_fails, split_passes}
use Rattle.sv_dir.proofs.path.count_names.Goals as goal

pub returns-then-not-is_name-clause-split : goal.returns-then-not-is_name-clause-split
returns-then-not-is_name-clause-split c = λ words split.
    let fails = first_fails c.in-Some.piece.now (pieces c.in-Some.after.now) (sym c.is_name.ensures ∙ c.if-not-is_name.true) in
    absurd (false≢true (sym (c.loop-piece.invariant.same ∙ ap (list_all is_name) c.in-Some.ensures.some.cut ∙ fails) ∙ split_passes c.args.path.now words split))
