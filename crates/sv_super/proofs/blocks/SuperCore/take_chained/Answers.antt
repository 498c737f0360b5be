-- The first block of the chain is the last number of the list.
use Rattle.std.proofs.Common.{◌≡◌, ◌≤◌, ◌+◌, ◌-◌, ◌∷◌, length, ap, sym, ◌∙◌, arith, subst, refl}
use Rattle.sv_form.specs.Geometry.{IsGeometry}
use Rattle.sv_form.specs.declared.geometry.Geometry.{Geometry}
use Rattle.sv_super.specs.Core.{alone, less}
use Rattle.sv_super.specs.FreeList.{taken}
use Rattle.sv_super.proofs.Chains.{length-taken}
use Rattle.sv_super.proofs.FirstLine.{first-less, names-home}
use Rattle.sv_super.proofs.InodeLines.{inodes-less}
use Rattle.sv_super.proofs.Sound.{data-same, holds-same, kept-chained, kept-link, kept-next}
use Rattle.sv_super.proofs.Taken.{chained-each}
use Rattle.sv_super.proofs.blocks.SuperCore.take_chained.Goals as goal

pub next_of-requires-clause-some : goal.next_of-requires-clause-some
next_of-requires-clause-some g c κs within = (kept-next c.self.inside.chained c.self.invariant.blocks some).0.some
  where
    some : 1 ≤ c.self.inside.chained
    some = omega (arith, c.requires, ap (λ v. length v.chain) c.self.view_is, length-taken c.self.inside.chained (g.S.Stake.held c.self.inside.stake) c.self.inside.list.numbers.items)

pub next_of-requires-clause-block : goal.next_of-requires-clause-block
next_of-requires-clause-block g c κs within = (kept-next c.self.inside.chained c.self.invariant.blocks some).1
  where
    some : 1 ≤ c.self.inside.chained
    some = omega (arith, c.requires, ap (λ v. length v.chain) c.self.view_is, length-taken c.self.inside.chained (g.S.Stake.held c.self.inside.stake) c.self.inside.list.numbers.items)

pub next_of-requires-clause-link : goal.next_of-requires-clause-link
next_of-requires-clause-link g c κs within = kept-link c.self.inside.chained c.self.invariant.blocks some
  where
    some : 1 ≤ c.self.inside.chained
    some = omega (arith, c.requires, ap (λ v. length v.chain) c.self.view_is, length-taken c.self.inside.chained (g.S.Stake.held c.self.inside.stake) c.self.inside.list.numbers.items)

pub cut_block-requires-clause-block : goal.cut_block-requires-clause-block
cut_block-requires-clause-block g c κs within = holds-same c.next_of.ensures.origin c.next_of.ensures.held c.in_ok-block.ensures.block (kept-next c.self.inside.chained c.self.invariant.blocks some).1
  where
    some : 1 ≤ c.self.inside.chained
    some = omega (arith, c.requires, ap (λ v. length v.chain) c.self.view_is, length-taken c.self.inside.chained (g.S.Stake.held c.self.inside.stake) c.self.inside.list.numbers.items)

pub cut_block-requires-clause-in_data : goal.cut_block-requires-clause-in_data
cut_block-requires-clause-in_data g c κs within = data-same c.next_of.ensures.origin c.in_ok-block.ensures.block (kept-next c.self.inside.chained c.self.invariant.blocks some).2
  where
    some : 1 ≤ c.self.inside.chained
    some = omega (arith, c.requires, ap (λ v. length v.chain) c.self.view_is, length-taken c.self.inside.chained (g.S.Stake.held c.self.inside.stake) c.self.inside.list.numbers.items)

pub overflow_sub-self : goal.overflow_sub-self
overflow_sub-self g c =
    omega (arith, c.requires, ap (λ v. length v.chain) c.self.view_is, length-taken c.self.inside.chained (g.S.Stake.held c.self.inside.stake) c.self.inside.list.numbers.items)

pub invariant_of-self-2 : goal.invariant_of-self-2
invariant_of-self-2 g c = record {
  blocks = (kept-chained c.in_ok-block.block sizes c.self.invariant.blocks some c.in_ok-block.ensures.block c.in_ok-block.ensures.list (c.cut_block.ensures.origin ∙ c.next_of.ensures.origin) (c.in_ok-part.ensures.mine ∙ ap (less c.in_ok-block.block) c.next_of.ensures.held) c.cut_block.ensures.lends).0;
  inodes = inodes-less c.in_ok-block.block sizes c.self.invariant.inodes (c.cut_block.ensures.origin ∙ c.next_of.ensures.origin) (c.in_ok-part.ensures.mine ∙ ap (less c.in_ok-block.block) c.next_of.ensures.held) (data-same {o = g.S.Stake.origin c.self.inside.stake} refl c.in_ok-block.ensures.block (kept-next c.self.inside.chained c.self.invariant.blocks (omega (arith, some))).2);
  first = first-less c.in_ok-block.block sizes c.self.invariant.first (c.cut_block.ensures.origin ∙ c.next_of.ensures.origin) (c.in_ok-part.ensures.mine ∙ ap (less c.in_ok-block.block) c.next_of.ensures.held) (data-same {o = g.S.Stake.origin c.self.inside.stake} refl c.in_ok-block.ensures.block (kept-next c.self.inside.chained c.self.invariant.blocks (omega (arith, some))).2);
  names = names-home (c.cut_block.ensures.origin ∙ c.next_of.ensures.origin) c.self.invariant.names;
}
  where
    sizes : IsGeometry (g.S.Stake.origin c.self.inside.stake).sizes
    sizes = (let P : Geometry → Type 0 = IsGeometry in subst P c.geometry-sizes.ensures.value c.geometry-sizes.ensures.sizes)

    some : c.self.inside.chained - 1 + 1 ≡ c.self.inside.chained
    some = omega (arith, c.requires, ap (λ v. length v.chain) c.self.view_is, length-taken c.self.inside.chained (g.S.Stake.held c.self.inside.stake) c.self.inside.list.numbers.items)

pub returns-clause-block : goal.returns-clause-block
returns-clause-block g c = split
  where
    some : c.self.inside.chained - 1 + 1 ≡ c.self.inside.chained
    some = omega (arith, c.requires, ap (λ v. length v.chain) c.self.view_is, length-taken c.self.inside.chained (g.S.Stake.held c.self.inside.stake) c.self.inside.list.numbers.items)

    split : c.args.self.now.chain ≡ c.in_ok-block.block ∷ taken (c.self.inside.chained - 1) (g.S.Stake.held c.cut_block.new.s) c.in_ok-block.after.numbers.items
    split =
        sym (ap (λ v. v.chain) c.self.view_is) ∙ (kept-chained c.in_ok-block.block
        (let P : Geometry → Type 0 = IsGeometry in subst P c.geometry-sizes.ensures.value c.geometry-sizes.ensures.sizes) c.self.invariant.blocks some c.in_ok-block.ensures.block c.in_ok-block.ensures.list (c.cut_block.ensures.origin ∙ c.next_of.ensures.origin) (c.in_ok-part.ensures.mine ∙ ap (less c.in_ok-block.block) c.next_of.ensures.held) c.cut_block.ensures.lends).1

pub returns-clause-lines : goal.returns-clause-lines
returns-clause-lines g c = record {
  in_data = data-same (sym (ap (λ v. g.S.Stake.origin v.stake) c.self.view_is)) c.in_ok-block.ensures.block (kept-next c.self.inside.chained c.self.invariant.blocks (omega (arith, some))).2;
  each = λ k. chained-each c.in_ok-block.block split (ap (λ v. v.aside) c.self.view_is) k;
  count = (let e = ap length split in let f = ap (λ v. length v.aside) c.self.view_is in omega (arith, e, f));
  mine = c.in_ok-part.ensures.mine ∙ (ap (less c.in_ok-block.block) c.next_of.ensures.held ∙ ap (λ v. less c.in_ok-block.block (g.S.Stake.held v.stake)) c.self.view_is);
  theirs = c.in_ok-part.ensures.theirs ∙ (ap (alone c.in_ok-block.block) c.next_of.ensures.held ∙ ap (λ v. alone c.in_ok-block.block (g.S.Stake.held v.stake)) c.self.view_is);
  whole = holds-same (sym (c.next_of.ensures.origin ∙ ap (λ v. g.S.Stake.origin v.stake) c.self.view_is)) refl refl c.in_ok-part.ensures.whole;
}
  where
    some : c.self.inside.chained - 1 + 1 ≡ c.self.inside.chained
    some = omega (arith, c.requires, ap (λ v. length v.chain) c.self.view_is, length-taken c.self.inside.chained (g.S.Stake.held c.self.inside.stake) c.self.inside.list.numbers.items)

    split : c.args.self.now.chain ≡ c.in_ok-block.block ∷ taken (c.self.inside.chained - 1) (g.S.Stake.held c.cut_block.new.s) c.in_ok-block.after.numbers.items
    split =
        sym (ap (λ v. v.chain) c.self.view_is) ∙ (kept-chained c.in_ok-block.block
        (let P : Geometry → Type 0 = IsGeometry in subst P c.geometry-sizes.ensures.value c.geometry-sizes.ensures.sizes) c.self.invariant.blocks some c.in_ok-block.ensures.block c.in_ok-block.ensures.list (c.cut_block.ensures.origin ∙ c.next_of.ensures.origin) (c.in_ok-part.ensures.mine ∙ ap (less c.in_ok-block.block) c.next_of.ensures.held) c.cut_block.ensures.lends).1

pub returns-clause-part : goal.returns-clause-part
returns-clause-part g c = record {
  away = c.in_ok-part.ensures.part_lent;
  none = c.in_ok-part.ensures.part_faults;
  unforced = c.in_ok-part.ensures.part_forced;
  home = c.in_ok-part.ensures.part_origin ∙ (c.next_of.ensures.origin ∙ ap (λ v. g.S.Stake.origin v.stake) c.self.view_is);
}
