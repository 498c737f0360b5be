use Rattle.std.proofs.Common.{◌≡◌, take}
use Rattle.sv_plain.specs.History.{IsLegal, after}
use Rattle.sv_plain.specs.Whole.{IsWhole}
use Rattle.sv_journal.proofs.history.replay.Given as goal

abbrev pub invariant-loop-i : goal.invariant-loop-i
invariant-loop-i l = record {
  legal : IsLegal (take l.i l.entries) l.fn.fs;
  after : l.fs ≡ after (take l.i l.entries) l.fn.fs;
  whole : IsWhole l.fs;
}
