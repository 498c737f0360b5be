-- The last of the cache is free, and its line is cut off.
use Rattle.std.proofs.Common.{◌≡◌, ◌-◌, ◌≤◌, length, slice_index, ap, ◌∙◌, sym, subst, refl, arith}
use Rattle.sv_form.specs.Geometry.{IsGeometry, inode_count, inode_place}
use Rattle.sv_form.specs.declared.place.Place.{Place}
use Rattle.sv_super.specs.Calls.{TakesInode}
use Rattle.sv_super.specs.Core.{Core, line_alone, line_less}
use Rattle.sv_super.proofs.Caches.{taken-used}
use Rattle.sv_super.proofs.FirstLine.{first-line_less, names-home}
use Rattle.sv_super.proofs.FreeNumbers.{free-range}
use Rattle.sv_super.proofs.InodeLines.{at-home, core-same, inodes-line_less, kept-line_less, line-alone-at}
use Rattle.sv_super.proofs.blocks.SuperCore.ialloc.Goals as goal

pub inode_place-requires-clause-number : goal.inode_place-requires-clause-number
inode_place-requires-clause-number g c =
    let range = free-range c.self.inside.inodes.used c.in-Some.n c.in-Some.ensures.free in
    record {
      least = omega (arith, range.0);
      most = (let size = c.self.invariant.inodes.size ∙ ap inode_count (sym c.geometry-sizes.ensures.value) in omega (arith, range.1, size));
    }

pub invariant_of-self : goal.invariant_of-self
invariant_of-self g c = core-same c.self.invariant c.cut_line.ensures.origin c.in_err-part.ensures.err c.cut_line.ensures.lends refl

pub invariant_of-self-2 : goal.invariant_of-self-2
invariant_of-self-2 g c = record {
  blocks = (kept-line_less c.in-Some.n sizes c.self.invariant.blocks c.self.invariant.inodes c.in-Some.ensures.free c.cut_line.ensures.origin c.cut_line.ensures.lends mine).0;
  inodes = inodes-line_less c.in-Some.n sizes c.self.invariant.inodes c.in-Some.ensures.free mine (taken-used c.self.inside.inodes c.in-Some.n c.take.ensures refl c.in-Some.ensures.some) c.cut_line.ensures.origin;
  first = first-line_less c.in-Some.n sizes c.self.invariant.first (let range = free-range c.self.inside.inodes.used c.in-Some.n c.in-Some.ensures.free in omega (arith, range.0)) mine c.cut_line.ensures.origin;
  names = names-home c.cut_line.ensures.origin c.self.invariant.names;
}
  where
    sizes : IsGeometry (g.S.Stake.origin c.self.inside.stake).sizes
    sizes = at-home {o = g.S.Stake.origin c.self.inside.stake} {o' = g.S.Stake.origin c.self.inside.stake} c.geometry-sizes.result c.geometry-sizes.ensures.value refl c.geometry-sizes.ensures.sizes

    mine : g.S.Stake.held c.cut_line.new.s ≡ line_less (inode_place (g.S.Stake.origin c.self.inside.stake).sizes c.in-Some.n) (g.S.Stake.held c.self.inside.stake)
    mine = c.in_ok-part.ensures.mine ∙ ap (λ (q : Place). line_less q (g.S.Stake.held c.self.inside.stake)) (c.inode_place.ensures ∙ ap (λ q. inode_place q c.in-Some.n) c.geometry-sizes.ensures.value)

pub returns-clause-taken : goal.returns-clause-taken
returns-clause-taken g c =
    (let P : Core g.row.S.Denot → Type 0 = λ v. TakesInode (g.S.Stake.origin v.stake) (g.S.Stake.held v.stake) (g.S.Stake.held c.cut_line.new.s) (g.S.Stake.held c.in_ok-part.part) v.inodes c.take.new.self c.in-Some.n in
    subst P c.self.view_is (record {
      number = (let range = free-range c.self.inside.inodes.used c.in-Some.n c.in-Some.ensures.free in record { least = omega (arith, range.0); most = omega (arith, range.1, c.self.invariant.inodes.size) });
      free = c.in-Some.ensures.free;
      last = c.in-Some.ensures.some;
      inodes = c.take.ensures;
      mine = c.in_ok-part.ensures.mine ∙ ap (λ (q : Place). line_less q (g.S.Stake.held c.self.inside.stake)) place;
      theirs = theirs;
      zeros = line-alone-at (g.S.Stake.held c.self.inside.stake) (inode_place (g.S.Stake.origin c.self.inside.stake).sizes c.in-Some.n) theirs ∙ c.self.invariant.inodes.zeros c.in-Some.n c.in-Some.ensures.free;
    }))
  where
    place : c.inode_place.result ≡ inode_place (g.S.Stake.origin c.self.inside.stake).sizes c.in-Some.n
    place = c.inode_place.ensures ∙ ap (λ q. inode_place q c.in-Some.n) c.geometry-sizes.ensures.value

    theirs : g.S.Stake.held c.in_ok-part.part ≡ line_alone (inode_place (g.S.Stake.origin c.self.inside.stake).sizes c.in-Some.n) (g.S.Stake.held c.self.inside.stake)
    theirs = c.in_ok-part.ensures.theirs ∙ ap (λ (q : Place). line_alone q (g.S.Stake.held c.self.inside.stake)) place

pub returns-clause-chain : goal.returns-clause-chain
returns-clause-chain g c =
    (kept-line_less c.in-Some.n sizes c.self.invariant.blocks c.self.invariant.inodes c.in-Some.ensures.free c.cut_line.ensures.origin c.cut_line.ensures.lends mine).1 ∙ ap (λ v. v.chain) c.self.view_is
  where
    sizes : IsGeometry (g.S.Stake.origin c.self.inside.stake).sizes
    sizes = at-home {o = g.S.Stake.origin c.self.inside.stake} {o' = g.S.Stake.origin c.self.inside.stake} c.geometry-sizes.result c.geometry-sizes.ensures.value refl c.geometry-sizes.ensures.sizes

    mine : g.S.Stake.held c.cut_line.new.s ≡ line_less (inode_place (g.S.Stake.origin c.self.inside.stake).sizes c.in-Some.n) (g.S.Stake.held c.self.inside.stake)
    mine = c.in_ok-part.ensures.mine ∙ ap (λ (q : Place). line_less q (g.S.Stake.held c.self.inside.stake)) (c.inode_place.ensures ∙ ap (λ q. inode_place q c.in-Some.n) c.geometry-sizes.ensures.value)
