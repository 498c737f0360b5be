-- The directory's page is held.
use Rattle.std.proofs.Common.{ap, arith}
use Rattle.sv_inode.proofs.DirectorySample.{directory-size, directory-tree}
use Rattle.sv_inode.proofs.names_tests.looked.Goals as goal

pub look-found-requires-clause-tree : goal.look-found-requires-clause-tree
look-found-requires-clause-tree g c _ _ = directory-tree (ap (λ q. q.sizes.block_size) c.in_ok-stake.ensures.sizes)
    (λ l low. c.in_ok-stake.ensures.held 50 l (omega arith) low)

pub look-found-requires-clause-size : goal.look-found-requires-clause-size
look-found-requires-clause-size g c _ _ = directory-size _ (ap (λ q. q.sizes.block_size) c.in_ok-stake.ensures.sizes)
    (ap (λ q. q.sizes.blocks) c.in_ok-stake.ensures.sizes) (ap (λ q. q.sizes.first_data) c.in_ok-stake.ensures.sizes)
