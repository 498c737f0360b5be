use Rattle.std.proofs.Common.{◌≡◌, ◌-◌, length, take}
use Rattle.sv_store.specs.Held.{Held, nothing_lent}
use Rattle.sv_inode.specs.Truncate.{IsCutFrom, less_all, names_of}
use Rattle.sv_inode.proofs.cuts.merge_back.Given as goal

abbrev pub invariant-loop-cut : goal.invariant-loop-cut
invariant-loop-cut g l = record {
  count : l.count ≡ length l.fn.cuts.items;
  items : l.cuts.items ≡ take (l.count - l._cut) l.fn.cuts.items;
  held : (h : Held) → IsCutFrom g.S.Stake.held g.S.Stake.lent g.S.Stake.origin g.S.Stake.forced g.S.Stake.faults
      (g.S.Stake.origin l.fn.s) h (g.S.Stake.held l.fn.s) l.fn.cuts.items → g.S.Stake.held l.s ≡ less_all (names_of l.cuts.items) h;
  lends : g.S.Stake.lent l.s ≡ nothing_lent;
  faults : g.S.Stake.faults l.s ≡ g.S.Stake.faults l.fn.s;
  forced : g.S.Stake.forced l.s ≡ g.S.Stake.forced l.fn.s;
  origin : g.S.Stake.origin l.s ≡ g.S.Stake.origin l.fn.s;
}
