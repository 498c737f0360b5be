use Rattle.std.proofs.Common.{◌≤◌, ◌+◌, ◌-◌, IsSome}
use Rattle.sv_super.specs.Sample.{IsSource}
use Rattle.sv_inode.proofs.write_tests.free_each.Given as goal

abbrev pub invariant-loop-k : goal.invariant-loop-k
invariant-loop-k g l = record {
  source : IsSource (g.S.Stake.origin l.core.stake) (g.S.Stake.held l.core.stake) (g.S.Stake.origin l.source) (g.S.Stake.held l.source)
      (g.S.Stake.lent l.source) (64 - l.k);
  spare : 59 ≤ l.core.spare + l.k;
  line : IsSome (g.S.Stake.held l.source 2 2);
}
