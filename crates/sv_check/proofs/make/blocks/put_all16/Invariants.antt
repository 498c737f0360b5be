use Rattle.std.proofs.Common.{◌≡◌, ◌+◌, ◌*◌, ◌++◌, length, take}
use Rattle.std.specs.List.{flat_map}
use Rattle.sv_check.specs.MadeBlocks.{little16}
use Rattle.sv_check.proofs.make.blocks.put_all16.Given as goal

abbrev pub invariant-loop-number : goal.invariant-loop-number
invariant-loop-number l = record {
  bytes : l.block.items ≡ l.fn.block.items ++ flat_map little16 (take l.number-index l.numbers);
  count : length l.block.items ≡ length l.fn.block.items + 2 * l.number-index;
}
