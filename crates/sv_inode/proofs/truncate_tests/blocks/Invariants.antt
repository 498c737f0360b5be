use Rattle.std.proofs.Common.{◌≡◌, length, replicate, set}
use Rattle.std.specs.List.{All}
use Rattle.sv_inode.proofs.truncate_tests.blocks.Given as goal

abbrev pub invariant-loop-block : goal.invariant-loop-block
invariant-loop-block l = record {
  count : length l.blocks.items ≡ l._block;
  bytes : All (λ bytes. length bytes.items ≡ 1024) l.blocks.items;
  row : All (λ bytes. bytes.items ≡ set (replicate 1024 0) 0 61) l.blocks.items;
}
