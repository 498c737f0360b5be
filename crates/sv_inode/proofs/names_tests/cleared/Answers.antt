-- The directory's page is held, and yet held once a name was cleared.
use Rattle.std.proofs.Common.{ap, arith, ◌∙◌}
use Rattle.sv_inode.proofs.DirectorySample.{directory-data, directory-size, directory-tree, tree-after}
use Rattle.sv_inode.proofs.names_tests.cleared.Goals as goal

pub clear-done-requires-clause-tree : goal.clear-done-requires-clause-tree
clear-done-requires-clause-tree g c _ _ = record {
  tree = directory-tree (ap (λ q. q.sizes.block_size) c.in_ok-stake.ensures.sizes)
      (λ l low. c.in_ok-stake.ensures.held 50 l (omega arith) low);
  in_data = directory-data _ _ (ap (λ q. q.sizes.first_data) c.in_ok-stake.ensures.sizes)
      (ap (λ q. q.sizes.blocks) c.in_ok-stake.ensures.sizes);
}

pub clear-done-requires-clause-size : goal.clear-done-requires-clause-size
clear-done-requires-clause-size g c _ _ = directory-size _ (ap (λ q. q.sizes.block_size) c.in_ok-stake.ensures.sizes)
    (ap (λ q. q.sizes.blocks) c.in_ok-stake.ensures.sizes) (ap (λ q. q.sizes.first_data) c.in_ok-stake.ensures.sizes)

pub look-found-requires-clause-tree : goal.look-found-requires-clause-tree
look-found-requires-clause-tree g c κs within = tree-after (ap (λ q. q.addresses) c.clear-done.ensures.body)
    (ap (λ q. q.sizes.block_size) c.clear-done.ensures.front.stake.home ∙ ap (λ q. q.sizes.block_size) c.in_ok-stake.ensures.sizes)
    (λ l low. c.clear-done.ensures.lines.at 50 l ∙ c.in_ok-stake.ensures.held 50 l (omega arith) low)
