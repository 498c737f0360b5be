-- The stake has 200 blocks.
use Rattle.std.proofs.Common.{ap, arith}
use Rattle.sv_store.proofs.tests.make_with_failing.Goals as goal

pub make_and_write-requires-clause-next : goal.make_and_write-requires-clause-next
make_and_write-requires-clause-next g c = omega (arith, ap (λ q. q.sizes.blocks) c.in_ok-stake.ensures.sizes)
