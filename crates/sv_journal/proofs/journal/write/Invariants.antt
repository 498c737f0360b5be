use Rattle.std.proofs.Common.{◌≡◌, ◌≤◌}
use Rattle.sv_dev.specs.Told.{grown}
use Rattle.sv_journal.proofs.Written.{written_so_far}
use Rattle.sv_journal.proofs.journal.write.Given as goal

abbrev pub invariant-loop-entry : goal.invariant-loop-entry
invariant-loop-entry g l = record {
  written : g.O.Sink.written l.out ≡ grown (g.O.Sink.written l.fn.out) (written_so_far l.fn.processes l.fn.table l.fn.entries l.entry-index);
  no_less : g.O.Sink.faults l.fn.out ≤ g.O.Sink.faults l.out;
}
