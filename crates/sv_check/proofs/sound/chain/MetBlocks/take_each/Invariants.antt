use Rattle.std.proofs.Common.{◌≡◌, ◌<◌, ℕ, List, drop, length, slice_index}
use Rattle.sv_check.specs.ChainSteps.{met_in, with_each}
use Rattle.sv_check.proofs.ChainWalk.{Meets}
use Rattle.sv_check.proofs.sound.chain.MetBlocks.take_each.Given as goal

abbrev pub invariant-loop-number : goal.invariant-loop-number
invariant-loop-number l = record {
  blocks : length l.self.met.items ≡ l.fn.sizes.blocks;
  inside : (k : ℕ) → k < l.number-index → slice_index l.numbers k < l.fn.sizes.blocks;
  each : (b : ℕ) → with_each (met_in l.self.met.items) (drop l.number-index l.numbers) b ≡ with_each (met_in l.fn.self.met.items) l.numbers b;
  meets : (image : List ℕ) → Meets l.fn.sizes image (met_in l.fn.self.met.items) l.numbers (met_in l.self.met.items) (drop l.number-index l.numbers);
}
