use Rattle.std.proofs.Common.{◌≡◌, ◌-◌, ◌||◌, drop, length, map, take}
use Rattle.std.specs.List.{list_any, sum_by}
use Rattle.sv_dev.specs.Causes.{counted}
use Rattle.sv_bmap.specs.Parts.{JoinsFrom}
use Rattle.sv_bmap.proofs.grow.merge_all.Given as goal

abbrev pub invariant-loop-part : goal.invariant-loop-part
invariant-loop-part g l = record {
  count : l.count ≡ length l.fn.parts.items;
  items : l.parts.items ≡ take (l.count - l._part) l.fn.parts.items;
  held : JoinsFrom (l.count - l._part) (g.S.Stake.held l.fn.s) (map g.S.Stake.held l.fn.parts.items) (g.S.Stake.held l.s);
  lends : g.S.Stake.lent l.s ≡ g.S.Stake.lent l.fn.s;
  origin : g.S.Stake.origin l.s ≡ g.S.Stake.origin l.fn.s;
  forced : g.S.Stake.forced l.s ≡ (g.S.Stake.forced l.fn.s || list_any g.S.Stake.forced (drop (l.count - l._part) l.fn.parts.items));
  faults : g.S.Stake.faults l.s ≡ counted (g.S.Stake.faults l.fn.s) (sum_by g.S.Stake.faults (drop (l.count - l._part) l.fn.parts.items));
}
