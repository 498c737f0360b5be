use Rattle.std.proofs.Common.{◌≡◌, ◌≤◌, ◌+◌, ◌++◌, length}
use Rattle.sv_store.specs.Held.{nothing_lent}
use Rattle.sv_super.specs.Core.{free_times}
use Rattle.sv_super.specs.Written.{Rewrites}
use Rattle.sv_super.proofs.blocks.SuperCore.link_all.Given as goal

abbrev pub invariant-loop-block : goal.invariant-loop-block
invariant-loop-block g l = record {
  left : length l.self.aside + l._block ≡ length l.fn.self.aside;
  order : l.self.aside ++ l.self.chain ≡ l.fn.self.aside ++ l.fn.self.chain;
  held : Rewrites (g.S.Stake.origin l.fn.self.stake).sizes (free_times l.fn.self.chain l.fn.self.aside) (g.S.Stake.held l.fn.self.stake) (g.S.Stake.held l.self.stake);
  spare : l.self.spare ≡ l.fn.self.spare;
  inodes : l.self.inodes ≡ l.fn.self.inodes;
  head : l.self.head ≡ l.fn.self.head;
  lends : g.S.Stake.lent l.self.stake ≡ nothing_lent;
  forced : g.S.Stake.forced l.self.stake ≡ g.S.Stake.forced l.fn.self.stake;
  origin : g.S.Stake.origin l.self.stake ≡ g.S.Stake.origin l.fn.self.stake;
  faults : g.S.Stake.faults l.fn.self.stake ≤ g.S.Stake.faults l.self.stake;
}
