use Rattle.std.proofs.Common.{◌≡◌, ◌<◌, ℕ, ◌++◌, IfSome, take, drop, length}
use Rattle.sv_store.specs.Held.{line_of}
use Rattle.sv_store.specs.Content.{block_bytes}
use Rattle.sv_store.specs.OwnBlock.{held_of}
use Rattle.sv_store.proofs.own_block.copy_all.Given as goal

abbrev pub invariant-loop-turned : goal.invariant-loop-turned
invariant-loop-turned l = record {
  blocks : l.blocks ≡ drop l._turned l.initial.blocks ++ take l._turned l.initial.blocks;
  last : l._turned-end ≡ length l.initial.blocks;
  count : length l.content ≡ l.fn.sizes.blocks;
  bytes : (b : ℕ) → b < l.fn.sizes.blocks → length (block_bytes l.content b) ≡ l.fn.sizes.block_size;
  lines : (b m : ℕ) → IfSome (held_of (take l._turned l.initial.blocks) b m) (λ bytes. line_of (block_bytes l.content b) m ≡ bytes);
}
