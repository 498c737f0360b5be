use Rattle.std.proofs.Common.{◌≡◌, ◌++◌, false, take, drop, length}
use Rattle.sv_store.specs.Held.{in_ranges}
use Rattle.sv_store.specs.OwnBlock.{copied, left}
use Rattle.sv_store.proofs.own_block.copies_of.Given as goal

abbrev pub invariant-loop-turned : goal.invariant-loop-turned
invariant-loop-turned l = record {
  blocks : l.blocks ≡ drop l._turned l.initial.blocks ++ take l._turned l.initial.blocks;
  last : l._turned-end ≡ length l.initial.blocks;
  made : l.failed ≡ false → l.copies ≡ left (copied (in_ranges l.lines)) (take l._turned l.initial.blocks);
}
