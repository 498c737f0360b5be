-- There are no more free blocks than blocks.
use Rattle.std.proofs.Common.{length, ap, arith, subst}
use Rattle.sv_form.specs.Geometry.{IsGeometry}
use Rattle.sv_form.specs.declared.geometry.Geometry.{Geometry}
use Rattle.sv_super.proofs.Chains.{length-taken}
use Rattle.sv_super.proofs.Sound.{kept-few}
use Rattle.sv_super.proofs.blocks.SuperCore.left.Goals as goal

pub overflow_cast-result : goal.overflow_cast-result
overflow_cast-result g c =
    let sizes = (let P : Geometry → Type 0 = IsGeometry in subst P c.geometry-sizes.ensures.value c.geometry-sizes.ensures.sizes) in
    let few = kept-few sizes c.self.invariant.blocks in
    omega (arith, few, sizes.most_blocks, c.len.ensures, c.self.inside.aside.ok.0)

pub overflow_add-result : goal.overflow_add-result
overflow_add-result g c =
    let sizes = (let P : Geometry → Type 0 = IsGeometry in subst P c.geometry-sizes.ensures.value c.geometry-sizes.ensures.sizes) in
    let few = kept-few sizes c.self.invariant.blocks in
    omega (arith, few, sizes.most_blocks, c.len.ensures, c.self.inside.aside.ok.0)

pub returns-clause-left : goal.returns-clause-left
returns-clause-left g c =
    omega (arith, ap (λ v. length v.chain) c.self.view_is, ap (λ v. length v.aside) c.self.view_is, length-taken c.self.inside.chained (g.S.Stake.held c.self.inside.stake) c.self.inside.list.numbers.items, c.len.ensures, c.self.inside.aside.ok.0)
