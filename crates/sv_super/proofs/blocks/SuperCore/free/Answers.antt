-- The part comes in, and its block is added to the chain or set aside.
use Rattle.std.proofs.Common.{◌≡◌, ◌+◌, ◌-◌, ◌∷◌, [], ◌++◌, ℕ, ap, ◌∙◌, arith, refl, subst, inl, inr, is_ok}
use Rattle.sv_dev.specs.Causes.{Rose, counted}
use Rattle.sv_store.specs.Held.{Both}
use Rattle.sv_super.proofs.FirstLine.{first-joined, names-home}
use Rattle.sv_super.proofs.InodeLines.{inodes-joined}
use Rattle.sv_super.proofs.Sound.{IsReady, Joined, held-more, joined-linked, joined-same, kept-aside_more, kept-few, kept-linked, kept-spelled, pushed, ready}
use Rattle.sv_super.proofs.Taken.{frees-block}
use Rattle.sv_super.proofs.blocks.SuperCore.free.Goals as goal

pub link-requires-clause-block : goal.link-requires-clause-block
link-requires-clause-block g c κs within = held-more (g.S.Stake.held c.self.inside.stake) c.merge.ensures.origin c.merge.ensures.held is.block
  where
    is : IsReady (g.S.Stake.origin c.self.inside.stake) (g.S.Stake.held c.self.inside.stake) (g.S.Stake.held c.args.part) c.args.b
    is = ready g.S.Stake.origin g.S.Stake.held c.args.self.now.stake c.self.inside.stake c.args.part c.merge.new.self c.geometry-sizes.result c.args.b (ap (λ v. v.stake) c.self.view_is) c.requires.in_data c.requires.block c.requires.only c.requires.apart c.merge.ensures.held c.merge.ensures.origin c.geometry-sizes.ensures.value c.geometry-sizes.ensures.sizes c.geometry-sizes.ensures.range

pub link-requires-clause-spelled : goal.link-requires-clause-spelled
link-requires-clause-spelled g c κs within = let spelled = kept-spelled c.self.invariant.blocks in record { some = spelled.some; blocks = spelled.blocks }

pub overflow_add-self : goal.overflow_add-self
overflow_add-self g c = let few = kept-few is.sizes c.self.invariant.blocks in omega (arith, few, is.sizes.most_blocks)
  where
    is : IsReady (g.S.Stake.origin c.self.inside.stake) (g.S.Stake.held c.self.inside.stake) (g.S.Stake.held c.args.part) c.args.b
    is = ready g.S.Stake.origin g.S.Stake.held c.args.self.now.stake c.self.inside.stake c.args.part c.merge.new.self c.geometry-sizes.result c.args.b (ap (λ v. v.stake) c.self.view_is) c.requires.in_data c.requires.block c.requires.only c.requires.apart c.merge.ensures.held c.merge.ensures.origin c.geometry-sizes.ensures.value c.geometry-sizes.ensures.sizes c.geometry-sizes.ensures.range

pub invariant_of-self : goal.invariant_of-self
invariant_of-self g c = record {
  blocks = (kept-linked {spare' = c.self.inside.spare - 1} c.args.b is.sizes is.range c.self.invariant.blocks is.in_data is.block is.only is.away joined (g.S.Stake.held c.merge.new.self) c.in-Ok.ensures.ok refl (omega arith) (c.link.ensures.origin ∙ c.merge.ensures.origin) c.link.ensures.lends).0;
  inodes = inodes-joined c.args.b is.sizes c.self.invariant.inodes (c.link.ensures.origin ∙ c.merge.ensures.origin) joined is.in_data;
  first = first-joined c.args.b is.sizes c.self.invariant.first (c.link.ensures.origin ∙ c.merge.ensures.origin) joined is.in_data;
  names = names-home (c.link.ensures.origin ∙ c.merge.ensures.origin) c.self.invariant.names;
}
  where
    is : IsReady (g.S.Stake.origin c.self.inside.stake) (g.S.Stake.held c.self.inside.stake) (g.S.Stake.held c.args.part) c.args.b
    is = ready g.S.Stake.origin g.S.Stake.held c.args.self.now.stake c.self.inside.stake c.args.part c.merge.new.self c.geometry-sizes.result c.args.b (ap (λ v. v.stake) c.self.view_is) c.requires.in_data c.requires.block c.requires.only c.requires.apart c.merge.ensures.held c.merge.ensures.origin c.geometry-sizes.ensures.value c.geometry-sizes.ensures.sizes c.geometry-sizes.ensures.range

    joined : Joined (g.S.Stake.held c.self.inside.stake) (g.S.Stake.held c.args.part) (g.S.Stake.held c.link.new.s) c.args.b
    joined = joined-linked _ _ _ c.args.b c.merge.ensures.held c.in-Ok.ensures.ok

pub invariant_of-self-in-Err : goal.invariant_of-self-in-Err
invariant_of-self-in-Err g c = record {
  blocks = (kept-aside_more c.args.b is c.self.invariant.blocks (joined-same _ _ _ c.args.b c.merge.ensures.held c.in-Err.ensures.err) (ap (λ q. q.numbers.items) c.in-Err.ensures.list) added fewer c.push-pushed.ensures.capacity (c.link.ensures.origin ∙ c.merge.ensures.origin) c.link.ensures.lends).0;
  inodes = inodes-joined c.args.b is.sizes c.self.invariant.inodes (c.link.ensures.origin ∙ c.merge.ensures.origin) (joined-same (g.S.Stake.held c.self.inside.stake) (g.S.Stake.held c.args.part) (g.S.Stake.held c.link.new.s) c.args.b c.merge.ensures.held c.in-Err.ensures.err) is.in_data;
  first = first-joined c.args.b is.sizes c.self.invariant.first (c.link.ensures.origin ∙ c.merge.ensures.origin) (joined-same (g.S.Stake.held c.self.inside.stake) (g.S.Stake.held c.args.part) (g.S.Stake.held c.link.new.s) c.args.b c.merge.ensures.held c.in-Err.ensures.err) is.in_data;
  names = names-home (c.link.ensures.origin ∙ c.merge.ensures.origin) c.self.invariant.names;
}
  where
    is : IsReady (g.S.Stake.origin c.self.inside.stake) (g.S.Stake.held c.self.inside.stake) (g.S.Stake.held c.args.part) c.args.b
    is = ready g.S.Stake.origin g.S.Stake.held c.args.self.now.stake c.self.inside.stake c.args.part c.merge.new.self c.geometry-sizes.result c.args.b (ap (λ v. v.stake) c.self.view_is) c.requires.in_data c.requires.block c.requires.only c.requires.apart c.merge.ensures.held c.merge.ensures.origin c.geometry-sizes.ensures.value c.geometry-sizes.ensures.sizes c.geometry-sizes.ensures.range

    fewer : c.self.inside.spare - 1 + 1 ≡ c.self.inside.spare
    fewer = omega (arith, c.requires.spare, ap (λ v. v.spare) c.self.view_is)

    added : c.push-pushed.new.self.items ≡ c.self.inside.aside.items ++ c.args.b ∷ []
    added =
        pushed c.self.inside.aside.items c.args.b (is_ok c.push-pushed.result)
        (c.push-pushed.ensures.succeeds (omega (arith, c.self.invariant.blocks.fits, c.self.inside.aside.ok.0, c.requires.spare, ap (λ v. v.spare) c.self.view_is))) c.push-pushed.ensures.items

pub returns-in-Ok-clause-block : goal.returns-in-Ok-clause-block
returns-in-Ok-clause-block g c = inl (record {
  chain =
      (kept-linked {spare' = c.self.inside.spare - 1} c.args.b is.sizes is.range c.self.invariant.blocks is.in_data is.block is.only is.away joined (g.S.Stake.held c.merge.new.self) c.in-Ok.ensures.ok refl (omega arith) (c.link.ensures.origin ∙ c.merge.ensures.origin) c.link.ensures.lends).1
      ∙ ap (λ v. c.args.b ∷ v.chain) c.self.view_is;
  aside = ap (λ v. v.aside) c.self.view_is;
})
  where
    is : IsReady (g.S.Stake.origin c.self.inside.stake) (g.S.Stake.held c.self.inside.stake) (g.S.Stake.held c.args.part) c.args.b
    is = ready g.S.Stake.origin g.S.Stake.held c.args.self.now.stake c.self.inside.stake c.args.part c.merge.new.self c.geometry-sizes.result c.args.b (ap (λ v. v.stake) c.self.view_is) c.requires.in_data c.requires.block c.requires.only c.requires.apart c.merge.ensures.held c.merge.ensures.origin c.geometry-sizes.ensures.value c.geometry-sizes.ensures.sizes c.geometry-sizes.ensures.range

    joined : Joined (g.S.Stake.held c.self.inside.stake) (g.S.Stake.held c.args.part) (g.S.Stake.held c.link.new.s) c.args.b
    joined = joined-linked _ _ _ c.args.b c.merge.ensures.held c.in-Ok.ensures.ok

pub returns-in-Ok-clause-set : goal.returns-in-Ok-clause-set
returns-in-Ok-clause-set g c = frees-block (returns-in-Ok-clause-block g c)

pub returns-in-Ok-clause-lines : goal.returns-in-Ok-clause-lines
returns-in-Ok-clause-lines g c =
    (joined-linked _ _ _ c.args.b (c.merge.ensures.held ∙ ap (λ v. Both (g.S.Stake.held v.stake) (g.S.Stake.held c.args.part)) c.self.view_is) c.in-Ok.ensures.ok).lines

pub returns-in-Ok-clause-others : goal.returns-in-Ok-clause-others
returns-in-Ok-clause-others g c = λ b l ne.
    ap (λ q. q l) ((joined-linked _ _ _ c.args.b (c.merge.ensures.held ∙ ap (λ v. Both (g.S.Stake.held v.stake) (g.S.Stake.held c.args.part)) c.self.view_is) c.in-Ok.ensures.ok).others b ne)

pub returns-in-Err-clause-block : goal.returns-in-Err-clause-block
returns-in-Err-clause-block g c = inr (record {
  chain = (kept-aside_more c.args.b is c.self.invariant.blocks (joined-same _ _ _ c.args.b c.merge.ensures.held c.in-Err.ensures.err) (ap (λ q. q.numbers.items) c.in-Err.ensures.list) added fewer c.push-pushed.ensures.capacity (c.link.ensures.origin ∙ c.merge.ensures.origin) c.link.ensures.lends).1 ∙ ap (λ v. v.chain) c.self.view_is;
  aside = added ∙ ap (λ v. v.aside ++ c.args.b ∷ []) c.self.view_is;
  rose = (let P : ℕ → Type 0 = λ q. Rose q (g.S.Stake.faults c.link.new.s) in subst P (c.merge.ensures.faults ∙ ap (λ v. counted (g.S.Stake.faults v.stake) (g.S.Stake.faults c.args.part)) c.self.view_is) c.in-Err.ensures.cause.rose.1);
})
  where
    is : IsReady (g.S.Stake.origin c.self.inside.stake) (g.S.Stake.held c.self.inside.stake) (g.S.Stake.held c.args.part) c.args.b
    is = ready g.S.Stake.origin g.S.Stake.held c.args.self.now.stake c.self.inside.stake c.args.part c.merge.new.self c.geometry-sizes.result c.args.b (ap (λ v. v.stake) c.self.view_is) c.requires.in_data c.requires.block c.requires.only c.requires.apart c.merge.ensures.held c.merge.ensures.origin c.geometry-sizes.ensures.value c.geometry-sizes.ensures.sizes c.geometry-sizes.ensures.range

    fewer : c.self.inside.spare - 1 + 1 ≡ c.self.inside.spare
    fewer = omega (arith, c.requires.spare, ap (λ v. v.spare) c.self.view_is)

    added : c.push-pushed.new.self.items ≡ c.self.inside.aside.items ++ c.args.b ∷ []
    added =
        pushed c.self.inside.aside.items c.args.b (is_ok c.push-pushed.result)
        (c.push-pushed.ensures.succeeds (omega (arith, c.self.invariant.blocks.fits, c.self.inside.aside.ok.0, c.requires.spare, ap (λ v. v.spare) c.self.view_is))) c.push-pushed.ensures.items

pub returns-in-Err-clause-set : goal.returns-in-Err-clause-set
returns-in-Err-clause-set g c = frees-block (returns-in-Err-clause-block g c)
