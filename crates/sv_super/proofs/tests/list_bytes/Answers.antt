-- The buffer goes back as it was got.
use Rattle.sv_store.proofs.Holding.{CanReturn-got}
use Rattle.sv_super.proofs.tests.list_bytes.Goals as goal

pub brelse-requires : goal.brelse-requires
brelse-requires g c = CanReturn-got c.in_ok-buf.ensures.ok _ _ c.in_ok-buf.ensures.lends
