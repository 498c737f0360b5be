use Rattle.std.proofs.Common.{◌≡◌, ℕ, ◌++◌, IfSome, take, drop, length}
use Rattle.sv_store.specs.Held.{line_of}
use Rattle.sv_store.specs.OwnBlock.{held_of}
use Rattle.sv_store.proofs.own_block.gather.Given as goal

abbrev pub invariant-loop-turned : goal.invariant-loop-turned
invariant-loop-turned l = record {
  blocks : l.blocks ≡ drop l._turned l.initial.blocks ++ take l._turned l.initial.blocks;
  last : l._turned-end ≡ length l.initial.blocks;
  lines : (m : ℕ) → IfSome (held_of (take l._turned l.initial.blocks) l.b m) (λ bytes. line_of l.into m ≡ bytes);
}
