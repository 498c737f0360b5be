use Rattle.sv_buf.specs.Ending.{HasAll}
use Rattle.sv_buf.proofs.tests.held_read.wait_until_out.Given as goal

abbrev pub invariant-loop : goal.invariant-loop
invariant-loop g l = HasAll l.cache.turn l.pass
