-- Each cached number is free and stands there once, and no number below 2 is free.
use Rattle.sv_super.proofs.Caches.{first-cache-of}
use Rattle.sv_super.proofs.inodes.FreeInodes.new.Goals as goal

pub invariant_of-result : goal.invariant_of-result
invariant_of-result c = first-cache-of c.in_ok-from_slice.ensures.items c.copy_of.ensures c.requires.few c.requires.free c.requires.once c.count_free_inodes.ensures
