-- All addresses are 0, and the pages are ones that a file may have.
use Rattle.std.proofs.Common.{◌+◌, ap, arith}
use Rattle.sv_bmap.proofs.Empty.{empty-tree, is-page, small, zeros}
use Rattle.sv_bmap.proofs.tests.need_of.Goals as goal

pub need-requires-clause-tree : goal.need-requires-clause-tree
need-requires-clause-tree g c _ _ = empty-tree _ _ _ zeros

pub need-requires-clause-pages : goal.need-requires-clause-pages
need-requires-clause-pages g c _ _ = λ k low.
    is-page _ (small _ (ap (λ q. q.sizes.block_size) c.in_ok-stake.ensures.sizes) (ap (λ q. q.sizes.blocks) c.in_ok-stake.ensures.sizes)
    (ap (λ q. q.sizes.first_data) c.in_ok-stake.ensures.sizes)) (c.min.result + k)
    (omega (arith, low, c.min.ensures, c.min-2.ensures))
