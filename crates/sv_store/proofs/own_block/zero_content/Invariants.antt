use Rattle.std.proofs.Common.{◌≡◌, length}
use Rattle.std.specs.List.{All}
use Rattle.sv_store.proofs.own_block.zero_content.Given as goal

abbrev pub invariant-loop-block : goal.invariant-loop-block
invariant-loop-block l = record {
  count : length l.content.items ≡ l._block;
  bytes : All (λ bytes. length bytes.items ≡ l.sizes.block_size) l.content.items;
}
