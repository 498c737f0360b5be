use Rattle.std.proofs.Common.{◌≡◌, ◌++◌, take, drop, length, map}
use Rattle.sv_store.specs.OwnBlock.{filled}
use Rattle.sv_store.proofs.own_block.fill.Given as goal

abbrev pub invariant-loop-turned : goal.invariant-loop-turned
invariant-loop-turned l = record {
  blocks : l.blocks ≡ drop l._turned l.initial.blocks ++ map (filled l.b l.bytes) (take l._turned l.initial.blocks);
  last : l._turned-end ≡ length l.initial.blocks;
}
