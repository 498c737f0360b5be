use Rattle.std.proofs.Common.{◌≡◌, ◌≤◌, ◌+◌, ◌-◌}
use Rattle.sv_super.specs.Core.{left_of}
use Rattle.sv_super.specs.Sample.{IsSource}
use Rattle.sv_super.proofs.tests.free_all.Given as goal

abbrev pub invariant-loop-k : goal.invariant-loop-k
invariant-loop-k g l = record {
  source : IsSource (g.S.Stake.origin l.core.stake) (g.S.Stake.held l.core.stake) (g.S.Stake.origin l.source) (g.S.Stake.held l.source) (g.S.Stake.lent l.source) (64 - l.k);
  spare : 59 ≤ l.core.spare + l.k;
  left : left_of l.core ≡ left_of l.fn.core + l.k;
}
