use Rattle.std.proofs.Common.{◌≡◌, length}
use Rattle.sv_check.specs.Directories.{pieces}
use Rattle.sv_check.specs.Standings.{after, standing_of, told_from}
use Rattle.sv_check.proofs.sound.standings.Standings.tell_entries.Given as goal

abbrev pub invariant-loop-k : goal.invariant-loop-k
invariant-loop-k l = record {
  told : standing_of l.self ≡ after (standing_of l.fn.self) (told_from l.directory l.first (pieces l.k l.bytes));
  len : length l.self.of.items ≡ length l.fn.self.of.items;
}
