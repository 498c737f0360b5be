-- The file has no bytes and no blocks.
use Rattle.std.proofs.Common.{ap}
use Rattle.sv_inode.proofs.write_tests.writes_of.Goals as goal

pub free_and_write-seen-requires-clause-size : goal.free_and_write-seen-requires-clause-size
free_and_write-seen-requires-clause-size g c κs within = ap (λ q. q.size) c.in_ok-disk.ensures.body

pub free_and_write-seen-requires-clause-addresses : goal.free_and_write-seen-requires-clause-addresses
free_and_write-seen-requires-clause-addresses g c κs within = ap (λ q. q.addresses) c.in_ok-disk.ensures.body
