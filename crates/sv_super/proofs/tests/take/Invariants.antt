use Rattle.std.proofs.Common.{◌≡◌, ◌+◌, ℕ, None}
use Rattle.sv_super.specs.Core.{left_of}
use Rattle.sv_super.proofs.tests.take.Given as goal

abbrev pub invariant-loop-taken : goal.invariant-loop-taken
invariant-loop-taken g l = record {
  left : left_of l.core + l._taken ≡ left_of l.fn.core;
  spare : l.core.spare ≡ l.fn.core.spare;
  kept : (b k : ℕ) → g.S.Stake.held l.fn.core.stake b k ≡ None → g.S.Stake.held l.core.stake b k ≡ None;
  origin : g.S.Stake.origin l.core.stake ≡ g.S.Stake.origin l.fn.core.stake;
}
