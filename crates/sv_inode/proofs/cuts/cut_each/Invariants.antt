use Rattle.std.proofs.Common.{◌≡◌, take}
use Rattle.sv_store.specs.Held.{nothing_lent}
use Rattle.sv_inode.specs.Truncate.{IsCutFrom, names_of}
use Rattle.sv_inode.proofs.cuts.cut_each.Given as goal

abbrev pub invariant-loop-b : goal.invariant-loop-b
invariant-loop-b g l = record {
  cuts : IsCutFrom g.S.Stake.held g.S.Stake.lent g.S.Stake.origin g.S.Stake.forced g.S.Stake.faults (g.S.Stake.origin l.fn.s)
      (g.S.Stake.held l.fn.s) (g.S.Stake.held l.s) l.cuts.items;
  names : names_of l.cuts.items ≡ take l.b-index l.blocks;
  lends : g.S.Stake.lent l.s ≡ nothing_lent;
  faults : g.S.Stake.faults l.s ≡ g.S.Stake.faults l.fn.s;
  forced : g.S.Stake.forced l.s ≡ g.S.Stake.forced l.fn.s;
  origin : g.S.Stake.origin l.s ≡ g.S.Stake.origin l.fn.s;
}
