-- The addresses are a tree of held blocks.
use Rattle.std.proofs.Common.{ap, arith}
use Rattle.sv_inode.proofs.FourPages.{four_tree, size_fits}
use Rattle.sv_inode.proofs.tests.read_of.Goals as goal

pub read_at-read-requires-clause-tree : goal.read_at-read-requires-clause-tree
read_at-read-requires-clause-tree g c _ _ =
    four_tree _ _ (λ b low.
    record {
      at = λ l line. c.in_ok-stake.ensures.held b l low
          (omega (arith, line, ap (λ q. q.sizes.block_size) c.in_ok-stake.ensures.sizes));
    })

pub read_at-read-requires-clause-size : goal.read_at-read-requires-clause-size
read_at-read-requires-clause-size g c _ _ = size_fits _ (ap (λ q. q.sizes.block_size) c.in_ok-stake.ensures.sizes)
    (ap (λ q. q.sizes.blocks) c.in_ok-stake.ensures.sizes) (ap (λ q. q.sizes.first_data) c.in_ok-stake.ensures.sizes)
