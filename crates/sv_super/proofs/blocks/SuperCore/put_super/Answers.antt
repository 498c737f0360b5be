-- The superblock has the list with which the chain begins, and the cached inodes.
use Rattle.std.proofs.Common.{◌≡◌, ap, ◌∙◌, sym, subst, refl, length, take, arith}
use Rattle.sv_form.specs.Geometry.{IsGeometry}
use Rattle.sv_super.specs.Core.{Core, free_times}
use Rattle.sv_super.specs.FreeList.{taken}
use Rattle.sv_super.specs.Written.{IsWritten, Rewrites}
use Rattle.sv_super.proofs.Flushes.{core-put, put-rewrites, whole-list, written-put}
use Rattle.sv_super.proofs.InodeLines.{at-home}
use Rattle.sv_super.proofs.Sound.{kept-spelled}
use Rattle.sv_super.proofs.blocks.SuperCore.put_super.Goals as goal

pub put_head-requires-clause-spelled : goal.put_head-requires-clause-spelled
put_head-requires-clause-spelled g c κs within =
    (let spelled = kept-spelled c.self.invariant.blocks in
    omega (arith, spelled.some, ap length (whole-list (length c.as_slice-list.result.now) (c.first_of.ensures ∙ ap (take (length c.as_slice-list.result.now)) c.as_slice-list.ensures.value) (ap length c.as_slice-list.ensures.value))))

pub invariant_of-self-2 : goal.invariant_of-self-2
invariant_of-self-2 g c =
    (core-put (at-home {o = g.S.Stake.origin c.self.inside.stake} {o' = g.S.Stake.origin c.self.inside.stake} c.geometry-sizes.result c.geometry-sizes.ensures.value refl c.geometry-sizes.ensures.sizes) c.self.invariant c.in_ok-put_head.ensures.ok c.put_head.ensures.origin c.put_head.ensures.lends).0

pub returns-clause-chain : goal.returns-clause-chain
returns-clause-chain g c =
    (core-put (at-home {o = g.S.Stake.origin c.self.inside.stake} {o' = g.S.Stake.origin c.self.inside.stake} c.geometry-sizes.result c.geometry-sizes.ensures.value refl c.geometry-sizes.ensures.sizes) c.self.invariant c.in_ok-put_head.ensures.ok c.put_head.ensures.origin c.put_head.ensures.lends).1
    ∙ ap (λ v. v.chain) c.self.view_is

pub returns-clause-written : goal.returns-clause-written
returns-clause-written g c =
    (let P : Core g.row.S.Denot → Type 0 = λ v. IsWritten (g.S.Stake.origin v.stake).sizes (g.S.Stake.held c.put_head.new.s) v.head (taken c.self.inside.chained (g.S.Stake.held c.put_head.new.s) c.self.inside.list.numbers.items) v.inodes.cached in
    subst P c.self.view_is
    (written-put (record { block_type = c.self.inside.block_type; first_data = c.self.inside.first_data; blocks = c.self.inside.blocks }) c.self.inside.inodes.cached
    (at-home {o = g.S.Stake.origin c.self.inside.stake} {o' = g.S.Stake.origin c.self.inside.stake} c.geometry-sizes.result c.geometry-sizes.ensures.value refl c.geometry-sizes.ensures.sizes) c.self.invariant c.in_ok-put_head.ensures.ok c.put_head.ensures.origin c.put_head.ensures.lends refl refl refl
    (whole-list (length c.as_slice-list.result.now) (c.first_of.ensures ∙ ap (take (length c.as_slice-list.result.now)) c.as_slice-list.ensures.value) (ap length c.as_slice-list.ensures.value)) c.cache.ensures refl))

pub returns-clause-held : goal.returns-clause-held
returns-clause-held g c =
    (let P : Core g.row.S.Denot → Type 0 = λ v. Rewrites (g.S.Stake.origin v.stake).sizes (free_times v.chain v.aside) (g.S.Stake.held v.stake) (g.S.Stake.held c.put_head.new.s) in
    subst P c.self.view_is (put-rewrites (free_times (taken c.self.inside.chained (g.S.Stake.held c.self.inside.stake) c.self.inside.list.numbers.items) c.self.inside.aside.items) c.in_ok-put_head.ensures.ok))
