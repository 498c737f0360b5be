-- The block stands last among those set aside, and nowhere else.
use Rattle.std.proofs.Common.{◌≡◌, ◌+◌, ◌-◌, ◌<◌, ◌==◌, ◌++◌, ◌∷◌, [], inl, vec_capacity, length, ap, sym, ◌∙◌, arith, subst, refl}
use Rattle.sv_form.specs.Geometry.{IsGeometry}
use Rattle.sv_form.specs.declared.geometry.Geometry.{Geometry}
use Rattle.sv_super.specs.Calls.{Takes}
use Rattle.sv_super.specs.Core.{IsKept, alone, less}
use Rattle.sv_super.specs.Count.{one_if, times}
use Rattle.sv_super.specs.FreeList.{taken}
use Rattle.sv_super.proofs.Counts.{at-any}
use Rattle.sv_super.proofs.FirstLine.{first-less, names-home}
use Rattle.sv_super.proofs.InodeLines.{inodes-less}
use Rattle.sv_super.proofs.Sound.{data-same, holds-same, kept-aside, kept-last}
use Rattle.sv_super.proofs.Taken.{takes-each, takes-left}
use Rattle.sv_super.proofs.blocks.SuperCore.take_aside.Goals as goal

pub cut_block-requires-clause-block : goal.cut_block-requires-clause-block
cut_block-requires-clause-block g c κs within = (kept-last (c.len-last.result - 1) c.index-block.result.now c.self.invariant.blocks low (at-any c.self.inside.aside.items (c.len-last.result - 1) c.index-block.result.now low c.index-block.ensures)).0
  where
    low : c.len-last.result - 1 < length c.self.inside.aside.items
    low = omega (arith, c.len-last.ensures, c.self.inside.aside.ok.0, ap (λ v. length v.aside) c.self.view_is, c.requires)

pub cut_block-requires-clause-in_data : goal.cut_block-requires-clause-in_data
cut_block-requires-clause-in_data g c κs within = (kept-last (c.len-last.result - 1) c.index-block.result.now c.self.invariant.blocks low (at-any c.self.inside.aside.items (c.len-last.result - 1) c.index-block.result.now low c.index-block.ensures)).1
  where
    low : c.len-last.result - 1 < length c.self.inside.aside.items
    low = omega (arith, c.len-last.ensures, c.self.inside.aside.ok.0, ap (λ v. length v.aside) c.self.view_is, c.requires)

pub invariant_of-self-2 : goal.invariant_of-self-2
invariant_of-self-2 g c = record {
  blocks = (kept-aside (c.len-last.result - 1) c.index-block.result.now sizes c.self.invariant.blocks last (at-any c.self.inside.aside.items (c.len-last.result - 1) c.index-block.result.now (omega (arith, last)) c.index-block.ensures) c.truncate.ensures.items c.cut_block.ensures.origin c.in_ok-part.ensures.mine c.cut_block.ensures.lends c.truncate.ensures.capacity).0;
  inodes = inodes-less c.index-block.result.now sizes c.self.invariant.inodes c.cut_block.ensures.origin c.in_ok-part.ensures.mine (kept-last (c.len-last.result - 1) c.index-block.result.now c.self.invariant.blocks (omega (arith, last)) (at-any c.self.inside.aside.items (c.len-last.result - 1) c.index-block.result.now (omega (arith, last)) c.index-block.ensures)).1;
  first = first-less c.index-block.result.now sizes c.self.invariant.first c.cut_block.ensures.origin c.in_ok-part.ensures.mine (kept-last (c.len-last.result - 1) c.index-block.result.now c.self.invariant.blocks (omega (arith, last)) (at-any c.self.inside.aside.items (c.len-last.result - 1) c.index-block.result.now (omega (arith, last)) c.index-block.ensures)).1;
  names = names-home c.cut_block.ensures.origin c.self.invariant.names;
}
  where
    sizes : IsGeometry (g.S.Stake.origin c.self.inside.stake).sizes
    sizes = (let P : Geometry → Type 0 = IsGeometry in subst P c.geometry-sizes.ensures.value c.geometry-sizes.ensures.sizes)

    last : c.len-last.result - 1 + 1 ≡ length c.self.inside.aside.items
    last = omega (arith, c.len-last.ensures, c.self.inside.aside.ok.0, ap (λ v. length v.aside) c.self.view_is, c.requires)

pub returns-clause-block : goal.returns-clause-block
returns-clause-block g c =
    let last : c.len-last.result - 1 + 1 ≡ length c.self.inside.aside.items = omega (arith, c.len-last.ensures, c.self.inside.aside.ok.0, ap (λ v. length v.aside) c.self.view_is, c.requires) in
    let kept =
    kept-aside (c.len-last.result - 1) c.index-block.result.now
    (let P : Geometry → Type 0 = IsGeometry in subst P c.geometry-sizes.ensures.value c.geometry-sizes.ensures.sizes) c.self.invariant.blocks last
    (at-any c.self.inside.aside.items (c.len-last.result - 1) c.index-block.result.now (omega (arith, last)) c.index-block.ensures) c.truncate.ensures.items c.cut_block.ensures.origin c.in_ok-part.ensures.mine c.cut_block.ensures.lends c.truncate.ensures.capacity in
    record {
      aside = sym (ap (λ v. v.aside) c.self.view_is) ∙ kept.2;
      chain = kept.1 ∙ ap (λ v. v.chain) c.self.view_is;
    }

pub returns-clause-lines : goal.returns-clause-lines
returns-clause-lines g c =
    (let takes : Takes c.args.self.now (record c.args.self.now { stake = c.cut_block.new.s; aside = c.truncate.new.self.items }) c.index-block.result.now = inl (record { aside = sym (ap (λ v. v.aside) c.self.view_is) ∙ kept.2; chain = refl }) in
    record {
      in_data = data-same (sym (ap (λ v. g.S.Stake.origin v.stake) c.self.view_is)) refl
          (kept-last (c.len-last.result - 1) c.index-block.result.now c.self.invariant.blocks (omega (arith, last)) (at-any c.self.inside.aside.items (c.len-last.result - 1) c.index-block.result.now (omega (arith, last)) c.index-block.ensures)).1;
      each = λ k. takes-each takes k ∙ ap (λ q. one_if (c.index-block.result.now == k) + (times k q + times k c.truncate.new.self.items)) (sym (kept.1 ∙ ap (λ v. v.chain) c.self.view_is));
      count = (let n = takes-left takes in let e = ap length (kept.1 ∙ ap (λ v. v.chain) c.self.view_is) in omega (arith, n, e));
      mine = c.in_ok-part.ensures.mine ∙ ap (λ v. less c.index-block.result.now (g.S.Stake.held v.stake)) c.self.view_is;
      theirs = c.in_ok-part.ensures.theirs ∙ ap (λ v. alone c.index-block.result.now (g.S.Stake.held v.stake)) c.self.view_is;
      whole = holds-same (sym (ap (λ v. g.S.Stake.origin v.stake) c.self.view_is)) refl refl c.in_ok-part.ensures.whole;
    })
  where
    last : c.len-last.result - 1 + 1 ≡ length c.self.inside.aside.items
    last = omega (arith, c.len-last.ensures, c.self.inside.aside.ok.0, ap (λ v. length v.aside) c.self.view_is, c.requires)

    kept : IsKept (g.S.Stake.origin c.cut_block.new.s) (g.S.Stake.held c.cut_block.new.s) (g.S.Stake.lent c.cut_block.new.s) c.self.inside.list.numbers.items c.self.inside.chained c.truncate.new.self.items c.self.inside.spare (vec_capacity c.truncate.new.self)
        × (taken c.self.inside.chained (g.S.Stake.held c.cut_block.new.s) c.self.inside.list.numbers.items ≡ taken c.self.inside.chained (g.S.Stake.held c.self.inside.stake) c.self.inside.list.numbers.items)
        × (c.self.inside.aside.items ≡ c.truncate.new.self.items ++ c.index-block.result.now ∷ [])
    kept =
        kept-aside (c.len-last.result - 1) c.index-block.result.now
        (let P : Geometry → Type 0 = IsGeometry in subst P c.geometry-sizes.ensures.value c.geometry-sizes.ensures.sizes) c.self.invariant.blocks last
        (at-any c.self.inside.aside.items (c.len-last.result - 1) c.index-block.result.now (omega (arith, last)) c.index-block.ensures) c.truncate.ensures.items c.cut_block.ensures.origin c.in_ok-part.ensures.mine c.cut_block.ensures.lends c.truncate.ensures.capacity

pub returns-clause-part : goal.returns-clause-part
returns-clause-part g c = record {
  away = c.in_ok-part.ensures.part_lent;
  none = c.in_ok-part.ensures.part_faults;
  unforced = c.in_ok-part.ensures.part_forced;
  home = c.in_ok-part.ensures.part_origin ∙ ap (λ v. g.S.Stake.origin v.stake) c.self.view_is;
}
