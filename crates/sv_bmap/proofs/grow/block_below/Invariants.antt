use Rattle.std.proofs.Common.{◌≡◌, ◌≤◌, take}
use Rattle.sv_store.specs.Held.{nothing_lent}
use Rattle.sv_bmap.specs.Tree.{down}
use Rattle.sv_bmap.proofs.grow.block_below.Given as goal

abbrev pub invariant-loop-place : goal.invariant-loop-place
invariant-loop-place g l = record {
  block : l.block ≡ down (g.S.Stake.held l.fn.s) l.fn.top (take l.place-index l.places);
  held : g.S.Stake.held l.s ≡ g.S.Stake.held l.fn.s;
  lends : g.S.Stake.lent l.s ≡ nothing_lent;
  forced : g.S.Stake.forced l.s ≡ g.S.Stake.forced l.fn.s;
  origin : g.S.Stake.origin l.s ≡ g.S.Stake.origin l.fn.s;
  faults : g.S.Stake.faults l.fn.s ≤ g.S.Stake.faults l.s;
}
