use Rattle.std.proofs.Common.{◌≡◌, ◌≤◌}
use Rattle.sv_check.specs.Loaded.{with_all_reached}
use Rattle.sv_check.specs.Walk.{reached}
use Rattle.sv_check.proofs.AddressSteps.{under_from}
use Rattle.sv_check.proofs.LoadsLeft.{IsLeft}
use Rattle.sv_check.proofs.PageOrder.{start}
use Rattle.sv_check.proofs.loading.tree.load_pages.Given as goal

abbrev pub invariant-loop-k : goal.invariant-loop-k
invariant-loop-k g l = record {
  content : g.D.Disk.content l.disk ≡ g.D.Disk.content l.fn.disk;
  faults : g.D.Disk.faults l.fn.disk ≤ g.D.Disk.faults l.disk;
  left : IsLeft l.fn.sizes (g.D.Disk.content l.fn.disk) l.fn.n
      (with_all_reached l.fn.sizes (g.D.Disk.content l.fn.disk) l.fn.n l.fn.fs (reached l.fn.sizes (g.D.Disk.content l.fn.disk) l.fn.inode)) l.fs
      (under_from l.fn.sizes (g.D.Disk.content l.fn.disk) l.fn.inode l.k) (start l.fn.sizes (g.D.Disk.content l.fn.disk) l.k);
}
