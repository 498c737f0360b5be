use Rattle.std.proofs.Common.{◌≡◌, ◌≤◌, ◌+◌, ◌-◌, ℕ, length, take}
use Rattle.std.specs.List.{sum_by}
use Rattle.sv_store.specs.Held.{Apart, Both, Held, SameLines, nothing_lent}
use Rattle.sv_dev.specs.Causes.{counted}
use Rattle.sv_super.specs.Count.{times}
use Rattle.sv_inode.specs.Truncate.{CanFreeAll, names_of, only}
use Rattle.sv_inode.proofs.GivenBack.{FreesUpTo}
use Rattle.sv_inode.proofs.cuts.free_all.Given as goal

abbrev pub invariant-loop-cut : goal.invariant-loop-cut
invariant-loop-cut g l = record {
  count : l.count ≡ length l.fn.cuts.items;
  items : l.cuts.items ≡ take (l.count - l._cut) l.fn.cuts.items;
  spare : l.core.spare + l._cut ≡ l.fn.core.spare;
  freed : FreesUpTo (g.S.Stake.faults l.fn.core.stake) (g.S.Stake.faults l.core.stake) l.fn.core l.core (names_of l.fn.cuts.items)
      (names_of l.cuts.items);
  apart : (h : Held) → CanFreeAll g.S.Stake.held g.S.Stake.lent g.S.Stake.origin g.S.Stake.forced (g.S.Stake.origin l.fn.core.stake) h
      (g.S.Stake.held l.fn.core.stake) l.fn.cuts.items → Apart (g.S.Stake.held l.core.stake) (only (names_of l.cuts.items) h);
  lines : (h : Held) → CanFreeAll g.S.Stake.held g.S.Stake.lent g.S.Stake.origin g.S.Stake.forced (g.S.Stake.origin l.fn.core.stake) h
      (g.S.Stake.held l.fn.core.stake) l.fn.cuts.items
      → SameLines (Both (g.S.Stake.held l.core.stake) (only (names_of l.cuts.items) h))
      (Both (g.S.Stake.held l.fn.core.stake) (only (names_of l.fn.cuts.items) h));
  others : (b k : ℕ) → times b (names_of l.fn.cuts.items) ≡ 0 → g.S.Stake.held l.core.stake b k ≡ g.S.Stake.held l.fn.core.stake b k;
  inodes : l.core.inodes ≡ l.fn.core.inodes;
  head : l.core.head ≡ l.fn.core.head;
  lends : g.S.Stake.lent l.core.stake ≡ nothing_lent;
  forced : g.S.Stake.forced l.core.stake ≡ g.S.Stake.forced l.fn.core.stake;
  origin : g.S.Stake.origin l.core.stake ≡ g.S.Stake.origin l.fn.core.stake;
  faults : counted (g.S.Stake.faults l.fn.core.stake) 0 ≤ g.S.Stake.faults l.core.stake;
  counts : counted (g.S.Stake.faults l.fn.core.stake) (sum_by (λ cut. g.S.Stake.faults cut.1) l.fn.cuts.items) ≤ counted
      (g.S.Stake.faults l.core.stake) (sum_by (λ cut. g.S.Stake.faults cut.1) l.cuts.items);
}
