use Rattle.std.proofs.Common.{◌≡◌, ◌≤◌, length}
use Rattle.sv_check.specs.Standings.{standing_of}
use Rattle.sv_check.proofs.EntryFlaws.{IsAhead}
use Rattle.sv_check.proofs.ToldEntries.{IsToldAhead}
use Rattle.sv_check.proofs.sound.directories.first_disordered.Given as goal

abbrev pub invariant-loop-directory : goal.invariant-loop-directory
invariant-loop-directory g l = record {
  content : g.D.Disk.content l.disk ≡ g.D.Disk.content l.fn.disk;
  faults : g.D.Disk.faults l.fn.disk ≤ g.D.Disk.faults l.disk;
  size : length l.block ≡ l.fn.sizes.block_size;
  len : length l.standings.of.items ≡ length l.fn.standings.of.items;
  told : IsToldAhead l.fn.sizes (g.D.Disk.content l.fn.disk) l.kept (standing_of l.fn.standings) l.directory-index (standing_of l.standings);
  ahead : IsAhead l.fn.sizes (g.D.Disk.content l.fn.disk) l.kept l.directory-index;
}
