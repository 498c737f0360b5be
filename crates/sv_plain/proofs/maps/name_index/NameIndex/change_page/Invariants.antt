use Rattle.std.proofs.Common.{◌≡◌, Some, option_copied}
use Rattle.sv_plain.proofs.NameNotes.{PageNotes}
use Rattle.sv_plain.proofs.maps.name_index.NameIndex.change_page.Given as goal

abbrev pub invariant-loop-r : goal.invariant-loop-r
invariant-loop-r l = record {
  slots : l.self.slots ≡ l.initial.self.slots;
  notes : PageNotes l.initial.self l.self l.first l.slots l.r (option_copied l.before) (Some l.after);
}
