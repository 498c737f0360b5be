use Rattle.std.proofs.Common.{◌≡◌, length, replicate}
use Rattle.std.specs.List.{All}
use Rattle.sv_super.proofs.tests.zero_blocks.Given as goal

abbrev pub invariant-loop-block : goal.invariant-loop-block
invariant-loop-block l = record {
  count : length l.blocks.items ≡ l._block;
  bytes : All (λ bytes. length bytes.items ≡ 1024) l.blocks.items;
  zeros : All (λ bytes. bytes.items ≡ replicate 1024 0) l.blocks.items;
}
