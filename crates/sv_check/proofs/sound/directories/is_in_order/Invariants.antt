use Rattle.std.proofs.Common.{◌≡◌, ◌≤◌, length}
use Rattle.sv_check.specs.Standings.{standing_of}
use Rattle.sv_check.proofs.DirectorySteps.{IsThrough}
use Rattle.sv_check.proofs.ToldEntries.{IsToldTo}
use Rattle.sv_check.proofs.sound.directories.is_in_order.Given as goal

abbrev pub invariant-loop-k : goal.invariant-loop-k
invariant-loop-k g l = record {
  content : g.D.Disk.content l.disk ≡ g.D.Disk.content l.fn.disk;
  faults : g.D.Disk.faults l.fn.disk ≤ g.D.Disk.faults l.disk;
  size : length l.block ≡ l.fn.sizes.block_size;
  len : length l.standings.of.items ≡ length l.fn.standings.of.items;
  told : IsToldTo l.fn.sizes (g.D.Disk.content l.fn.disk) l.fn.directory.inode (standing_of l.fn.standings) (standing_of l.standings) l.k;
  through : IsThrough l.fn.sizes (g.D.Disk.content l.fn.disk) l.fn.directory.inode l.fn.directory.pages.items l.names l.k;
}
