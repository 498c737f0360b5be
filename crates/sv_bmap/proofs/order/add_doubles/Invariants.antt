use Rattle.std.proofs.Common.{◌≡◌, ◌≤◌, ◌++◌, take}
use Rattle.std.specs.List.{flat_map}
use Rattle.sv_form.specs.PagePath.{block_numbers}
use Rattle.sv_store.specs.Held.{nothing_lent}
use Rattle.sv_bmap.specs.Order.{blocks_below}
use Rattle.sv_bmap.proofs.order.add_doubles.Given as goal

abbrev pub invariant-loop-b : goal.invariant-loop-b
invariant-loop-b g l = record {
  blocks : l.blocks.items ≡ l.fn.blocks.items ++ flat_map
      (blocks_below (block_numbers (g.S.Stake.origin l.fn.s).sizes) (g.S.Stake.held l.fn.s) 2) (take l.b-index l.numbers);
  held : g.S.Stake.held l.s ≡ g.S.Stake.held l.fn.s;
  lends : g.S.Stake.lent l.s ≡ nothing_lent;
  forced : g.S.Stake.forced l.s ≡ g.S.Stake.forced l.fn.s;
  origin : g.S.Stake.origin l.s ≡ g.S.Stake.origin l.fn.s;
  faults : g.S.Stake.faults l.fn.s ≤ g.S.Stake.faults l.s;
}
