-- The file is the one of eleven pages.
use Rattle.std.proofs.Common.{ap}
use Rattle.sv_inode.proofs.truncate_tests.run_truncate.Goals as goal

pub truncated-seen-requires-clause-addresses : goal.truncated-seen-requires-clause-addresses
truncated-seen-requires-clause-addresses g c κs within = ap (λ q. q.addresses) c.in_ok-disk.ensures.body
