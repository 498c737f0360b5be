use Rattle.std.proofs.Common.{◌≡◌, length}
use Rattle.std.specs.List.{All}
use Rattle.sv_inode.proofs.names_tests.blocks.Given as goal

abbrev pub invariant-loop-number : goal.invariant-loop-number
invariant-loop-number l = record {
  count : length l.blocks.items ≡ l.number;
  bytes : All (λ bytes. length bytes.items ≡ 1024) l.blocks.items;
}
