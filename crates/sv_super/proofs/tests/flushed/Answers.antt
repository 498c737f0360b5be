-- A flush leaves as many blocks.
use Rattle.std.proofs.Common.{arith}
use Rattle.sv_super.proofs.Samples.{order-left}
use Rattle.sv_super.proofs.tests.flushed.Goals as goal

pub take-requires-after_bounds : goal.take-requires-after_bounds
take-requires-after_bounds g c _ _ = omega (arith, c.free_all.ensures.left, order-left c.free_all.new.core c.flush.new.self c.flush.ensures.order)
