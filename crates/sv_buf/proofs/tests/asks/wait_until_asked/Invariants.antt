use Rattle.sv_buf.specs.Ending.{IsWorkers}
use Rattle.sv_buf.proofs.tests.asks.wait_until_asked.Given as goal

abbrev pub invariant-loop : goal.invariant-loop
invariant-loop g l = IsWorkers l.cache.turn l.worker
