-- The need of all pages that the bytes lie in.
use Rattle.std.proofs.Common.{ap, arith, max, refl, ◌∙◌}
use Rattle.std.proofs.lemmas.Result.{IfOk-weaker}
use Rattle.sv_inode.proofs.PagesPut.{need-whole, rooms-whole}
use Rattle.sv_inode.proofs.TakenFirst.{err-weaker, room-since, supplied-since}
use Rattle.sv_inode.proofs.write.prepare.Goals as goal

pub gather-requires-clause-left : goal.gather-requires-clause-left
gather-requires-clause-left g c κs within =
    omega (
      arith,
      c.requires.left,
      c.in_ok-count.ensures.need,
      need-whole (g.S.Stake.origin c.args.inode.now.stake).sizes
          c.geometry-sizes.result.block_size c.args.at c.args.all (g.S.Stake.held c.args.inode.now.stake) c.args.inode.now.body.addresses
          (ap (λ q. q.block_size) c.geometry-sizes.ensures.value) c.requires.some,
    )

pub returns-clause-supplies : goal.returns-clause-supplies
returns-clause-supplies g c =
    IfOk-weaker c.gather.result _ _ (λ supplies is. supplied-since (c.in_ok-count.ensures.need
    ∙ need-whole (g.S.Stake.origin c.args.inode.now.stake).sizes c.geometry-sizes.result.block_size c.args.at c.args.all
    (g.S.Stake.held c.args.inode.now.stake) c.args.inode.now.body.addresses (ap (λ q. q.block_size) c.geometry-sizes.ensures.value)
    c.requires.some) is) c.gather.ensures.supplies

pub returns-clause-rooms : goal.returns-clause-rooms
returns-clause-rooms g c =
    IfOk-weaker c.gather.result _ _ (λ supplies has. record {
      enough = omega (
        arith,
        has.enough,
        rooms-whole (g.S.Stake.origin c.args.inode.now.stake).sizes.block_size c.geometry-sizes.result.block_size
            c.args.at c.args.all _ (ap (λ q. q.block_size) c.geometry-sizes.ensures.value) c.requires.some refl,
      );
      empty = has.empty;
      roomy = has.roomy;
      size = has.size ∙ ap (λ q. q.block_size) c.geometry-sizes.ensures.value;
    }) c.gather.ensures.rooms

pub returns-clause-spare : goal.returns-clause-spare
returns-clause-spare g c =
    IfOk-weaker c.gather.result _ _ (λ _ same. same ∙ ap (max c.args.core.now.spare) (c.in_ok-count.ensures.need
    ∙ need-whole (g.S.Stake.origin c.args.inode.now.stake).sizes c.geometry-sizes.result.block_size c.args.at c.args.all
    (g.S.Stake.held c.args.inode.now.stake) c.args.inode.now.body.addresses (ap (λ q. q.block_size) c.geometry-sizes.ensures.value)
    c.requires.some)) c.gather.ensures.spare

pub returns-clause-spare_kept : goal.returns-clause-spare_kept
returns-clause-spare_kept g c =
    err-weaker c.gather.result (λ kept. room-since (c.in_ok-count.ensures.need
    ∙ need-whole (g.S.Stake.origin c.args.inode.now.stake).sizes c.geometry-sizes.result.block_size c.args.at c.args.all
    (g.S.Stake.held c.args.inode.now.stake) c.args.inode.now.body.addresses (ap (λ q. q.block_size) c.geometry-sizes.ensures.value)
    c.requires.some) kept) c.gather.ensures.spare_kept
