use Rattle.std.proofs.Common.{◌≡◌, ◌≤◌, ◌+◌, ℕ, length}
use Rattle.sv_store.specs.Held.{nothing_lent}
use Rattle.sv_super.specs.Core.{free_times, left_of}
use Rattle.sv_super.specs.Count.{times}
use Rattle.sv_inode.specs.Truncate.{IsCutFrom, names_of}
use Rattle.sv_inode.proofs.supplies.take_each.Given as goal

abbrev pub invariant-loop-block : goal.invariant-loop-block
invariant-loop-block g l = record {
  cuts : IsCutFrom g.S.Stake.held g.S.Stake.lent g.S.Stake.origin g.S.Stake.forced g.S.Stake.faults (g.S.Stake.origin l.fn.core.stake)
      (g.S.Stake.held l.fn.core.stake) (g.S.Stake.held l.core.stake) l.cuts.items;
  taken : (b : ℕ) → free_times l.core.chain l.core.aside b + times b (names_of l.cuts.items) ≡ free_times l.fn.core.chain l.fn.core.aside b;
  count : length l.cuts.items ≡ l._block;
  left : left_of l.core + l._block ≡ left_of l.fn.core;
  spare : l.core.spare ≡ l.fn.core.spare;
  inodes : l.core.inodes ≡ l.fn.core.inodes;
  head : l.core.head ≡ l.fn.core.head;
  lends : g.S.Stake.lent l.core.stake ≡ nothing_lent;
  forced : g.S.Stake.forced l.core.stake ≡ g.S.Stake.forced l.fn.core.stake;
  origin : g.S.Stake.origin l.core.stake ≡ g.S.Stake.origin l.fn.core.stake;
  faults : g.S.Stake.faults l.fn.core.stake ≤ g.S.Stake.faults l.core.stake;
}
