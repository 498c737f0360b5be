use Rattle.std.proofs.Common.{◌≡◌, ◌≤◌, ◌++◌, reverse, length, vec_capacity}
use Rattle.std.specs.List.{All}
use Rattle.sv_store.specs.Held.{Held, Origin}
use Rattle.sv_inode.specs.Truncate.{IsPart, names_of}
use Rattle.sv_inode.specs.Write.{ArePaired}
use Rattle.sv_inode.proofs.fill.take_out.Given as goal

abbrev pub invariant-loop-block : goal.invariant-loop-block
invariant-loop-block g l = record {
  names : names_of l.cuts.items ++ reverse l.names.items ≡ names_of l.fn.cuts.items;
  count : length l.names.items ≡ l._block;
  parts : length l.parts.items ≡ l._block;
  room : 4 ≤ vec_capacity l.parts;
  capacity : vec_capacity l.cuts ≡ vec_capacity l.fn.cuts;
  left : (o : Origin) (h : Held) → All (IsPart g.S.Stake.held g.S.Stake.lent g.S.Stake.origin g.S.Stake.forced o h) l.fn.cuts.items
      → All (IsPart g.S.Stake.held g.S.Stake.lent g.S.Stake.origin g.S.Stake.forced o h) l.cuts.items;
  pairs : (o : Origin) (h : Held) → All (IsPart g.S.Stake.held g.S.Stake.lent g.S.Stake.origin g.S.Stake.forced o h) l.fn.cuts.items
      → ArePaired g.S.Stake.held g.S.Stake.lent g.S.Stake.origin g.S.Stake.forced o h l.names.items l.parts.items;
}
