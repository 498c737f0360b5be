use Rattle.std.proofs.Common.{◌≡◌, ◌≤◌, ◌-◌, length}
use Rattle.sv_check.specs.Progress.{progress_of}
use Rattle.sv_check.specs.Walk.{reached_under}
use Rattle.sv_check.proofs.WalkSteps.{LeadsTo, below_from}
use Rattle.sv_check.proofs.walk.Walk.+walk_under.Given as goal

abbrev pub decreases-walk_under : goal.decreases-walk_under
decreases-walk_under g l = l.height

abbrev pub invariant-loop-k : goal.invariant-loop-k
invariant-loop-k g l = record {
  content : g.D.Disk.content l.disk ≡ g.D.Disk.content l.fn.disk;
  faults : g.D.Disk.faults l.fn.disk ≤ g.D.Disk.faults l.disk;
  owners : length l.self.owner.items ≡ l.fn.sizes.blocks;
  leads : LeadsTo l.fn.sizes (g.D.Disk.content l.fn.disk) l.fn.n l.fn.size (progress_of l.fn.self)
      (reached_under l.fn.sizes (g.D.Disk.content l.fn.disk) l.fn.height l.fn.page l.fn.b) (progress_of l.self)
      (below_from l.fn.sizes (g.D.Disk.content l.fn.disk) l.fn.page l.fn.b (l.fn.height - 1) l.k);
}
