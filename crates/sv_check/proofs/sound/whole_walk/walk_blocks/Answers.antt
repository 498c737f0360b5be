use Rattle.std.proofs.Common.{refl}
use Rattle.sv_check.proofs.sound.whole_walk.walk_blocks.Goals as goal

pub walk_inodes-requires-clause-fresh : goal.walk_inodes-requires-clause-fresh
walk_inodes-requires-clause-fresh g c = λ _ _. record {
  owner = c.in_ok-no_owners.ensures.owners;
  walk_past = refl;
  walk_tail = refl;
  pages = c.new.ensures.items;
  bad = refl;
  past = refl;
  tail = refl;
  directories = c.new-2.ensures.items;
}
