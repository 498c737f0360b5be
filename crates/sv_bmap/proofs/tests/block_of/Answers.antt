-- All addresses are 0, and the page is one that a file may have.
use Rattle.std.proofs.Common.{ap, arith}
use Rattle.sv_bmap.proofs.Empty.{empty-tree, is-page, small, zeros}
use Rattle.sv_bmap.proofs.tests.block_of.Goals as goal

pub lookup-requires-clause-tree : goal.lookup-requires-clause-tree
lookup-requires-clause-tree g c _ _ = empty-tree _ _ _ zeros

pub lookup-requires-clause-page : goal.lookup-requires-clause-page
lookup-requires-clause-page g c _ _ =
    is-page _ (small _ (ap (λ q. q.sizes.block_size) c.in_ok-stake.ensures.sizes) (ap (λ q. q.sizes.blocks) c.in_ok-stake.ensures.sizes)
    (ap (λ q. q.sizes.first_data) c.in_ok-stake.ensures.sizes)) c.min.result (omega (arith, c.min.ensures))
