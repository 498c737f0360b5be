use Rattle.std.proofs.Common.{◌≡◌, ◌≤◌, length}
use Rattle.sv_plain.specs.Front.{size_of}
use Rattle.sv_check.specs.Progress.{progress_of}
use Rattle.sv_check.specs.Walk.{reached}
use Rattle.sv_check.proofs.AddressSteps.{under_from}
use Rattle.sv_check.proofs.WalkSteps.{LeadsTo}
use Rattle.sv_check.proofs.walk.Walk.walk_inode.Given as goal

abbrev pub invariant-loop-k : goal.invariant-loop-k
invariant-loop-k g l = record {
  content : g.D.Disk.content l.disk ≡ g.D.Disk.content l.fn.disk;
  faults : g.D.Disk.faults l.fn.disk ≤ g.D.Disk.faults l.disk;
  owners : length l.self.owner.items ≡ l.fn.sizes.blocks;
  leads : LeadsTo l.fn.sizes (g.D.Disk.content l.fn.disk) l.fn.n (size_of l.fn.inode) (progress_of l.fn.self)
      (reached l.fn.sizes (g.D.Disk.content l.fn.disk) l.fn.inode) (progress_of l.self)
      (under_from l.fn.sizes (g.D.Disk.content l.fn.disk) l.fn.inode l.k);
}
