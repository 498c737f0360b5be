use Rattle.std.proofs.Common.{◌≡◌, ◌≤◌, ◌+◌, ◌++◌, reverse, length, vec_capacity}
use Rattle.std.specs.List.{All, sum_by}
use Rattle.sv_store.specs.Held.{Held, Origin}
use Rattle.sv_inode.specs.Truncate.{IsPart, names_of}
use Rattle.sv_inode.specs.Write.{ArePaired}
use Rattle.sv_inode.proofs.fill.put_back.Given as goal

abbrev pub invariant-loop-block : goal.invariant-loop-block
invariant-loop-block g l = record {
  names : names_of l.cuts.items ++ reverse l.names.items ≡ names_of l.fn.cuts.items ++ reverse l.fn.names.items;
  count : length l.names.items + l._block ≡ l.count;
  parts : length l.parts.items ≡ length l.names.items;
  room : length l.cuts.items + length l.names.items ≤ vec_capacity l.cuts;
  each : (o : Origin) (h : Held) → All (IsPart g.S.Stake.held g.S.Stake.lent g.S.Stake.origin g.S.Stake.forced o h) l.fn.cuts.items
      → ArePaired g.S.Stake.held g.S.Stake.lent g.S.Stake.origin g.S.Stake.forced o h l.fn.names.items l.fn.parts.items
      → All (IsPart g.S.Stake.held g.S.Stake.lent g.S.Stake.origin g.S.Stake.forced o h) l.cuts.items;
  pairs : (o : Origin) (h : Held)
      → ArePaired g.S.Stake.held g.S.Stake.lent g.S.Stake.origin g.S.Stake.forced o h l.fn.names.items l.fn.parts.items
      → ArePaired g.S.Stake.held g.S.Stake.lent g.S.Stake.origin g.S.Stake.forced o h l.names.items l.parts.items;
  faults : sum_by (λ cut. g.S.Stake.faults cut.1) l.cuts.items + sum_by g.S.Stake.faults l.parts.items ≡ sum_by
      (λ cut. g.S.Stake.faults cut.1) l.fn.cuts.items + sum_by g.S.Stake.faults l.fn.parts.items;
}
