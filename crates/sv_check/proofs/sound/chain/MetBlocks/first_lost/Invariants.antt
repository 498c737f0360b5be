use Rattle.std.proofs.Common.{◌≡◌, ◌-◌, not, find}
use Rattle.std.specs.List.{range_with_len}
use Rattle.sv_check.specs.ChainSteps.{met_in}
use Rattle.sv_check.proofs.sound.chain.MetBlocks.first_lost.Given as goal

abbrev pub invariant-loop-b : goal.invariant-loop-b
invariant-loop-b l =
    find (λ b. not (met_in l.self.met.items b)) (range_with_len l.sizes.first_data (l.sizes.blocks - l.sizes.first_data))
    ≡ find (λ b. not (met_in l.self.met.items b)) (range_with_len l.b (l.sizes.blocks - l.b))
