use Rattle.std.proofs.Common.{◌≡◌, ◌≤◌, ◌-◌, ◌+◌, ◌*◌, ◌^◌}
use Rattle.sv_form.specs.PagePath.{block_numbers}
use Rattle.sv_check.specs.Loaded.{with_all_reached}
use Rattle.sv_check.specs.Walk.{reached_under}
use Rattle.sv_check.proofs.LoadsLeft.{IsLeft}
use Rattle.sv_check.proofs.WalkSteps.{below_from}
use Rattle.sv_check.proofs.loading.tree.+load_under.Given as goal

abbrev pub decreases-load_under : goal.decreases-load_under
decreases-load_under g l = l.height

abbrev pub invariant-loop-k : goal.invariant-loop-k
invariant-loop-k g l = record {
  content : g.D.Disk.content l.disk ≡ g.D.Disk.content l.fn.disk;
  faults : g.D.Disk.faults l.fn.disk ≤ g.D.Disk.faults l.disk;
  left : IsLeft l.fn.sizes (g.D.Disk.content l.fn.disk) l.fn.n
      (with_all_reached l.fn.sizes (g.D.Disk.content l.fn.disk) l.fn.n l.fn.fs (reached_under l.fn.sizes (g.D.Disk.content l.fn.disk) l.fn.height l.fn.page l.fn.b)) l.fs
      (below_from l.fn.sizes (g.D.Disk.content l.fn.disk) l.fn.page l.fn.b (l.fn.height - 1) l.k) (l.fn.page + l.k * block_numbers l.fn.sizes ^ (l.fn.height - 1));
}
