-- The range is all lines of the block.
use Rattle.std.proofs.Common.{ap, refl, ◌∙◌, subst}
use Rattle.std.proofs.lemmas.Result.{IfOk-weaker}
use Rattle.sv_form.specs.Geometry.{IsGeometry, block_lines}
use Rattle.sv_form.specs.declared.geometry.Geometry.{Geometry}
use Rattle.sv_store.specs.Held.{InRange}
use Rattle.sv_super.proofs.Writes.{cut-apart}
use Rattle.sv_inode.proofs.GivenBack.{can-cut}
use Rattle.sv_inode.proofs.cuts.cut_off.Goals as goal

pub part-requires : goal.part-requires
part-requires g c =
    can-cut c.args.b (record { block = c.args.b; first = 0; count = c.block_lines.result })
    (let P : Geometry → Type 0 = IsGeometry in subst P c.geometry-sizes.ensures.value c.geometry-sizes.ensures.sizes)
    c.requires.in_data c.requires.block c.requires.other c.requires.lent refl refl
    (c.block_lines.ensures ∙ ap block_lines c.geometry-sizes.ensures.value)

pub returns-clause-mine : goal.returns-clause-mine
returns-clause-mine g c =
    IfOk-weaker c.part.result _ _ (λ part parts.
    (cut-apart (g.S.Stake.origin c.args.s.now) (g.S.Stake.held c.args.s.now) c.args.b
    (record { block = c.args.b; first = 0; count = c.block_lines.result })
    (let P : Geometry → Type 0 = IsGeometry in subst P c.geometry-sizes.ensures.value c.geometry-sizes.ensures.sizes)
    (let P : Geometry → Type 0 = λ q. InRange q (g.S.Stake.held c.args.s.now) in subst P c.geometry-sizes.ensures.value
    c.geometry-sizes.ensures.range) refl refl (c.block_lines.ensures ∙ ap block_lines c.geometry-sizes.ensures.value) parts).0)
    c.part.ensures.ok

pub returns-clause-theirs : goal.returns-clause-theirs
returns-clause-theirs g c =
    IfOk-weaker c.part.result _ _ (λ part parts.
    (cut-apart (g.S.Stake.origin c.args.s.now) (g.S.Stake.held c.args.s.now) c.args.b
    (record { block = c.args.b; first = 0; count = c.block_lines.result })
    (let P : Geometry → Type 0 = IsGeometry in subst P c.geometry-sizes.ensures.value c.geometry-sizes.ensures.sizes)
    (let P : Geometry → Type 0 = λ q. InRange q (g.S.Stake.held c.args.s.now) in subst P c.geometry-sizes.ensures.value
    c.geometry-sizes.ensures.range) refl refl (c.block_lines.ensures ∙ ap block_lines c.geometry-sizes.ensures.value) parts).1)
    c.part.ensures.ok
