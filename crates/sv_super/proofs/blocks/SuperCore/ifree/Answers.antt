-- The line comes in, and no other changes.
use Rattle.std.proofs.Common.{◌≡◌, ℕ, ap, ◌∙◌, sym, subst, replicate, Some}
use Rattle.sv_form.specs.Geometry.{inode_place}
use Rattle.sv_store.specs.Held.{Apart, Both, InRange}
use Rattle.sv_super.specs.Core.{Core, HoldsOnly}
use Rattle.sv_form.specs.Geometry.{IsGeometry}
use Rattle.sv_super.proofs.Caches.{with_free-used}
use Rattle.sv_super.proofs.FirstLine.{first-joined_line, names-home}
use Rattle.sv_super.proofs.OnlyFree.{only-home}
use Rattle.sv_super.proofs.InodeLines.{at-home, inodes-joined_line, kept-joined_line, range-home}
use Rattle.sv_super.proofs.blocks.SuperCore.ifree.Goals as goal

pub invariant_of-self : goal.invariant_of-self
invariant_of-self g c = record {
  blocks = (kept-joined_line (g.S.Stake.held c.args.part) (at-home c.geometry-sizes.result c.geometry-sizes.ensures.value c.merge.ensures.origin c.geometry-sizes.ensures.sizes) (range-home c.geometry-sizes.result c.geometry-sizes.ensures.value c.merge.ensures.origin c.merge.ensures.held c.geometry-sizes.ensures.range) c.self.invariant.blocks none c.merge.ensures.origin (c.merge.ensures.lends ∙ c.self.invariant.blocks.sound.lent) c.merge.ensures.held).0;
  inodes = inodes-joined_line c.args.n c.self.invariant.inodes c.requires.least c.merge.ensures.held
      (let P : Core g.row.S.Denot → Type 0 = λ v. Apart (g.S.Stake.held v.stake) (g.S.Stake.held c.args.part) in subst P (sym c.self.view_is) c.requires.apart)
      (let P : Core g.row.S.Denot → Type 0 = λ v. g.S.Stake.held c.args.part (inode_place (g.S.Stake.origin v.stake).sizes c.args.n).block (inode_place (g.S.Stake.origin v.stake).sizes c.args.n).line ≡ Some (replicate 64 0) in subst P (sym c.self.view_is) c.requires.line)
      (ap (λ q. q.used) c.give.ensures ∙ with_free-used c.args.n c.self.inside.inodes) c.merge.ensures.origin;
  first = first-joined_line (g.S.Stake.held c.args.part) c.self.invariant.first c.merge.ensures.held c.merge.ensures.origin;
  names = names-home c.merge.ensures.origin c.self.invariant.names;
}
  where
    none : HoldsOnly (g.S.Stake.origin c.self.inside.stake) (g.S.Stake.held c.args.part) (λ _. 0)
    none = only-home (ap (λ v. g.S.Stake.origin v.stake) c.self.view_is) c.requires.only

pub returns-clause-chain : goal.returns-clause-chain
returns-clause-chain g c =
    (kept-joined_line (g.S.Stake.held c.args.part) (at-home c.geometry-sizes.result c.geometry-sizes.ensures.value c.merge.ensures.origin c.geometry-sizes.ensures.sizes) (range-home c.geometry-sizes.result c.geometry-sizes.ensures.value c.merge.ensures.origin c.merge.ensures.held c.geometry-sizes.ensures.range) c.self.invariant.blocks none c.merge.ensures.origin (c.merge.ensures.lends ∙ c.self.invariant.blocks.sound.lent) c.merge.ensures.held).1
    ∙ ap (λ v. v.chain) c.self.view_is
  where
    none : HoldsOnly (g.S.Stake.origin c.self.inside.stake) (g.S.Stake.held c.args.part) (λ _. 0)
    none = only-home (ap (λ v. g.S.Stake.origin v.stake) c.self.view_is) c.requires.only
