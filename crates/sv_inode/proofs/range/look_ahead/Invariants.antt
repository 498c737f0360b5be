use Rattle.std.proofs.Common.{◌≡◌, ◌≤◌}
use Rattle.sv_store.specs.Held.{nothing_lent}
use Rattle.sv_inode.specs.Contents.{present_before}
use Rattle.sv_inode.proofs.range.look_ahead.Given as goal

abbrev pub invariant-loop-page : goal.invariant-loop-page
invariant-loop-page g l = record {
  ahead : present_before (g.S.Stake.origin l.fn.s).sizes (g.S.Stake.held l.fn.s) l.a l.first l.end ≡ present_before
      (g.S.Stake.origin l.fn.s).sizes (g.S.Stake.held l.fn.s) l.a l.page l.end;
  held : g.S.Stake.held l.s ≡ g.S.Stake.held l.fn.s;
  lends : g.S.Stake.lent l.s ≡ nothing_lent;
  forced : g.S.Stake.forced l.s ≡ g.S.Stake.forced l.fn.s;
  origin : g.S.Stake.origin l.s ≡ g.S.Stake.origin l.fn.s;
  faults : g.S.Stake.faults l.fn.s ≤ g.S.Stake.faults l.s;
}
