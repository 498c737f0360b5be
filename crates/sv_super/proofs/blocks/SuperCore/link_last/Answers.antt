-- The last that was set aside becomes the first of the chain.
use Rattle.std.proofs.Common.{◌≡◌, ◌+◌, ◌-◌, ◌<◌, ◌++◌, length, ap, sym, ◌∙◌, arith, subst, refl}
use Rattle.sv_form.specs.Geometry.{IsGeometry}
use Rattle.sv_super.specs.Core.{Core, free_times}
use Rattle.sv_super.specs.Written.{Rewrites}
use Rattle.sv_super.proofs.Counts.{at-any}
use Rattle.sv_super.proofs.FirstLine.{first-linked, names-home}
use Rattle.sv_super.proofs.Flushes.{inodes-linked, moved, same-order}
use Rattle.sv_super.proofs.InodeLines.{at-home}
use Rattle.sv_super.proofs.Sound.{kept-few, kept-last, kept-spelled}
use Rattle.sv_super.proofs.blocks.SuperCore.link_last.Goals as goal

pub link-requires-clause-block : goal.link-requires-clause-block
link-requires-clause-block g c κs within = (kept-last (c.len-last.result - 1) c.index-block.result.now c.self.invariant.blocks low (at-any c.self.inside.aside.items (c.len-last.result - 1) c.index-block.result.now low c.index-block.ensures)).0
  where
    low : c.len-last.result - 1 < length c.self.inside.aside.items
    low = omega (arith, c.len-last.ensures, c.self.inside.aside.ok.0, ap (λ v. length v.aside) c.self.view_is, c.requires)

pub link-requires-clause-named : goal.link-requires-clause-named
link-requires-clause-named g c κs within = λ zeroth. absurd (omega (arith, zeroth, sizes.least_first, (kept-last (c.len-last.result - 1) c.index-block.result.now c.self.invariant.blocks low (at-any c.self.inside.aside.items (c.len-last.result - 1) c.index-block.result.now low c.index-block.ensures)).1.least))
  where
    low : c.len-last.result - 1 < length c.self.inside.aside.items
    low = omega (arith, c.len-last.ensures, c.self.inside.aside.ok.0, ap (λ v. length v.aside) c.self.view_is, c.requires)

    sizes : IsGeometry (g.S.Stake.origin c.self.inside.stake).sizes
    sizes = at-home {o = g.S.Stake.origin c.self.inside.stake} {o' = g.S.Stake.origin c.self.inside.stake} c.geometry-sizes.result c.geometry-sizes.ensures.value refl c.geometry-sizes.ensures.sizes

pub link-requires-clause-spelled : goal.link-requires-clause-spelled
link-requires-clause-spelled g c κs within = let spelled = kept-spelled c.self.invariant.blocks in record { some = spelled.some; blocks = spelled.blocks }

pub overflow_add-self : goal.overflow_add-self
overflow_add-self g c =
    let sizes = at-home {o = g.S.Stake.origin c.self.inside.stake} {o' = g.S.Stake.origin c.self.inside.stake} c.geometry-sizes.result c.geometry-sizes.ensures.value refl c.geometry-sizes.ensures.sizes in
    let few = kept-few sizes c.self.invariant.blocks in
    omega (arith, few, sizes.most_blocks)

pub invariant_of-self-2 : goal.invariant_of-self-2
invariant_of-self-2 g c =
    (let moves = moved (c.len-last.result - 1) c.index-block.result.now c.self.invariant.blocks last (at-any c.self.inside.aside.items (c.len-last.result - 1) c.index-block.result.now (omega (arith, last)) c.index-block.ensures) c.truncate.ensures.items c.in_ok-link.ensures.ok refl c.truncate.ensures.capacity c.link.ensures.origin c.link.ensures.lends in
    record {
      blocks = moves.kept;
      inodes = inodes-linked c.index-block.result.now sizes c.self.invariant.inodes c.link.ensures.origin c.in_ok-link.ensures.ok moves.in_data;
      first = first-linked c.index-block.result.now sizes c.self.invariant.first c.link.ensures.origin c.in_ok-link.ensures.ok moves.in_data;
      names = names-home c.link.ensures.origin c.self.invariant.names;
    })
  where
    last : c.len-last.result - 1 + 1 ≡ length c.self.inside.aside.items
    last = omega (arith, c.len-last.ensures, c.self.inside.aside.ok.0, ap (λ v. length v.aside) c.self.view_is, c.requires)

    sizes : IsGeometry (g.S.Stake.origin c.self.inside.stake).sizes
    sizes = at-home {o = g.S.Stake.origin c.self.inside.stake} {o' = g.S.Stake.origin c.self.inside.stake} c.geometry-sizes.result c.geometry-sizes.ensures.value refl c.geometry-sizes.ensures.sizes

pub returns-clause-order : goal.returns-clause-order
returns-clause-order g c =
    (let moves = moved (c.len-last.result - 1) c.index-block.result.now c.self.invariant.blocks last (at-any c.self.inside.aside.items (c.len-last.result - 1) c.index-block.result.now (omega (arith, last)) c.index-block.ensures) c.truncate.ensures.items c.in_ok-link.ensures.ok refl c.truncate.ensures.capacity c.link.ensures.origin c.link.ensures.lends in
    same-order c.truncate.new.self.items c.index-block.result.now moves.split moves.chain ∙ ap (λ v. v.aside ++ v.chain) c.self.view_is)
  where
    last : c.len-last.result - 1 + 1 ≡ length c.self.inside.aside.items
    last = omega (arith, c.len-last.ensures, c.self.inside.aside.ok.0, ap (λ v. length v.aside) c.self.view_is, c.requires)

pub returns-clause-held : goal.returns-clause-held
returns-clause-held g c =
    (let moves = moved (c.len-last.result - 1) c.index-block.result.now c.self.invariant.blocks last (at-any c.self.inside.aside.items (c.len-last.result - 1) c.index-block.result.now (omega (arith, last)) c.index-block.ensures) c.truncate.ensures.items c.in_ok-link.ensures.ok refl c.truncate.ensures.capacity c.link.ensures.origin c.link.ensures.lends in
    let P : Core g.row.S.Denot → Type 0 = λ v. Rewrites (g.S.Stake.origin v.stake).sizes (free_times v.chain v.aside) (g.S.Stake.held v.stake) (g.S.Stake.held c.link.new.s) in
    subst P c.self.view_is moves.rewrites)
  where
    last : c.len-last.result - 1 + 1 ≡ length c.self.inside.aside.items
    last = omega (arith, c.len-last.ensures, c.self.inside.aside.ok.0, ap (λ v. length v.aside) c.self.view_is, c.requires)
