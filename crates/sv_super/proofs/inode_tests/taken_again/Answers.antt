-- The inode that was taken is in use.
use Rattle.std.proofs.Common.{refl}
use Rattle.sv_super.proofs.Caches.{taken-used}
use Rattle.sv_super.proofs.FreeNumbers.{taken-not-free}
use Rattle.sv_super.proofs.inode_tests.taken_again.Goals as goal

pub give-requires-clause-least : goal.give-requires-clause-least
give-requires-clause-least c = (taken-not-free c.args.inodes.now.used c.in_ok-n.n c.in_ok-n.ensures.free (taken-used c.args.inodes.now c.in_ok-n.n c.take.ensures refl c.in_ok-n.ensures.some)).0

pub give-requires-clause-most : goal.give-requires-clause-most
give-requires-clause-most c = (taken-not-free c.args.inodes.now.used c.in_ok-n.n c.in_ok-n.ensures.free (taken-used c.args.inodes.now c.in_ok-n.n c.take.ensures refl c.in_ok-n.ensures.some)).1

pub give-requires-clause-used : goal.give-requires-clause-used
give-requires-clause-used c = (taken-not-free c.args.inodes.now.used c.in_ok-n.n c.in_ok-n.ensures.free (taken-used c.args.inodes.now c.in_ok-n.n c.take.ensures refl c.in_ok-n.ensures.some)).2
