use Rattle.std.proofs.Common.{◌≡◌, ◌*◌, ◌≤◌, length, take}
use Rattle.sv_check.specs.FilePages.{IsAtBlock, block_at}
use Rattle.sv_session.proofs.PageSteps.{IsUnderWay}
use Rattle.sv_session.proofs.pages.write_file.Given as goal

abbrev pub invariant-loop-page : goal.invariant-loop-page
invariant-loop-page g l = record {
  way : IsUnderWay l.fn.sizes (g.D.Disk.content l.fn.disk) (block_at l.fn.pages) l.fn.size l.page (g.O.Sink.written l.fn.out) (g.O.Sink.written l.out) (take l.filled l.piece);
  at : IsAtBlock l.fn.pages l.at l.page;
  content : g.D.Disk.content l.disk ≡ g.D.Disk.content l.fn.disk;
  disk_faults : g.D.Disk.faults l.fn.disk ≤ g.D.Disk.faults l.disk;
  sink_faults : g.O.Sink.faults l.fn.out ≤ g.O.Sink.faults l.out;
  piece : length l.piece ≡ 64 * l.fn.sizes.block_size;
  filled : l.filled ≤ length l.piece;
}
