use Rattle.std.proofs.Common.{◌≡◌, ◌≤◌, ◌-◌, ◌*◌}
use Rattle.sv_store.specs.Held.{nothing_lent}
use Rattle.sv_bmap.specs.Need.{need_of}
use Rattle.sv_bmap.proofs.pages.need.Given as goal

abbrev pub invariant-loop-done : goal.invariant-loop-done
invariant-loop-done g l = record {
  missing : l.missing ≡ need_of (g.S.Stake.origin l.fn.s).sizes (g.S.Stake.held l.fn.s) l.a l.first l.done;
  few : l.missing ≤ 4 * l.done;
  within : l.done ≤ l.count;
  held : g.S.Stake.held l.s ≡ g.S.Stake.held l.fn.s;
  lends : g.S.Stake.lent l.s ≡ nothing_lent;
  forced : g.S.Stake.forced l.s ≡ g.S.Stake.forced l.fn.s;
  origin : g.S.Stake.origin l.s ≡ g.S.Stake.origin l.fn.s;
  faults : g.S.Stake.faults l.fn.s ≤ g.S.Stake.faults l.s;
}

abbrev pub decreases-loop-done : goal.decreases-loop-done
decreases-loop-done g l = l.count - l.done
