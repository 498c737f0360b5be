use Rattle.std.proofs.Common.{◌≡◌, ◌++◌, not, take, drop, length}
use Rattle.sv_store.specs.Held.{in_ranges}
use Rattle.sv_store.specs.OwnBlock.{masked, left}
use Rattle.sv_store.proofs.own_block.lose_all.Given as goal

abbrev pub invariant-loop-turned : goal.invariant-loop-turned
invariant-loop-turned l = record {
  blocks : l.blocks ≡ drop l._turned l.initial.blocks ++ left (masked (λ b k. not (in_ranges l.lines b k))) (take l._turned l.initial.blocks);
  last : l._turned-end ≡ length l.initial.blocks;
}
