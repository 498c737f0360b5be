use Rattle.std.proofs.Common.{◌≡◌, ◌+◌, ◌*◌, ◌++◌, length, take}
use Rattle.std.specs.List.{flat_map}
use Rattle.sv_check.specs.MadeBlocks.{little32}
use Rattle.sv_check.proofs.make.blocks.put_all32.Given as goal

abbrev pub invariant-loop-number : goal.invariant-loop-number
invariant-loop-number l = record {
  bytes : l.block.items ≡ l.fn.block.items ++ flat_map little32 (take l.number-index l.numbers);
  count : length l.block.items ≡ length l.fn.block.items + 4 * l.number-index;
}
