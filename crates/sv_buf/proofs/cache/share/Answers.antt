use Rattle.std.proofs.Common.{◌∙◌, [], sym, ap, subst}
use Rattle.sv_form.specs.Geometry.{IsGeometry}
use Rattle.sv_turn.specs.Passes.{first_view}
use Rattle.sv_buf.specs.Parting.{IsCut}
use Rattle.sv_buf.specs.View.{View, held_of}
use Rattle.sv_buf.specs.Running.{IsFit}
use Rattle.sv_buf.proofs.Start.{cut-worker, fit-lines, held-all}
use Rattle.sv_buf.proofs.cache.share.Goals as goal

pub split-requires-clause-cuts : goal.split-requires-clause-cuts
split-requires-clause-cuts g c =
    subst (λ v. IsCut v (record v { workers = 0 }) (record v { lines = [] })) (sym c.requires.whole)
    (cut-worker (first_view c.args.turn).opening (subst (λ z. IsGeometry z) (sym c.requires.same_sizes) c.requires.sized))

pub returns-in-Ok-clause-fit : goal.returns-in-Ok-clause-fit
returns-in-Ok-clause-fit g c =
    let sizes = subst (λ z. IsGeometry z) (sym c.requires.same_sizes) c.requires.sized in
    subst IsFit (sym (c.in-Ok.ensures.left ∙ ap (λ (v : View). record v { workers = 0 }) c.requires.whole))
    (fit-lines (first_view c.args.turn).opening sizes c.requires.length)

pub returns-in-Ok-clause-held : goal.returns-in-Ok-clause-held
returns-in-Ok-clause-held g c =
    let sizes = subst (λ z. IsGeometry z) (sym c.requires.same_sizes) c.requires.sized in
    ap (λ (v : View). held_of v.lines) (c.in-Ok.ensures.left ∙ ap (λ (v : View). record v { workers = 0 }) c.requires.whole)
    ∙ held-all (first_view c.args.turn).opening sizes
