-- The file has no bytes and no blocks.
use Rattle.std.proofs.Common.{ap}
use Rattle.sv_inode.proofs.read_back_tests.read_of.Goals as goal

pub free_put_and_read-read-requires-clause-size : goal.free_put_and_read-read-requires-clause-size
free_put_and_read-read-requires-clause-size g c κs within = ap (λ q. q.size) c.in_ok-disk.ensures.body

pub free_put_and_read-read-requires-clause-addresses : goal.free_put_and_read-read-requires-clause-addresses
free_put_and_read-read-requires-clause-addresses g c κs within = ap (λ q. q.addresses) c.in_ok-disk.ensures.body
