use Rattle.std.proofs.Common.{◌≡◌, ◌≤◌, ◌*◌, ◌++◌, drop, length}
use Rattle.sv_check.specs.MadeBlocks.{made_blocks}
use Rattle.sv_check.specs.MadeWrites.{HasCounted, unlike_blocks}
use Rattle.sv_check.proofs.make.image.write_blocks.Given as goal

abbrev pub invariant-loop-number : goal.invariant-loop-number
invariant-loop-number g l = record {
  content : g.D.Disk.content l.disk ≡ made_blocks l.sizes l.number ++ drop (l.number * 1024) (g.D.Disk.content l.fn.disk);
  front : length (made_blocks l.sizes l.number) ≡ l.number * 1024;
  length : length (g.D.Disk.content l.disk) ≡ length (g.D.Disk.content l.fn.disk);
  writes : HasCounted (g.D.Disk.writes l.fn.disk) (unlike_blocks l.sizes (g.D.Disk.content l.fn.disk) l.number) (g.D.Disk.writes l.disk);
  reads : HasCounted (g.D.Disk.reads l.fn.disk) l.number (g.D.Disk.reads l.disk);
  faults : g.D.Disk.faults l.fn.disk ≤ g.D.Disk.faults l.disk;
}
