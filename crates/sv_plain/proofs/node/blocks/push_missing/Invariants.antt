use Rattle.std.proofs.Common.{◌≡◌, ◌++◌, not, drop}
use Rattle.std.specs.List.{filter}
use Rattle.std.specs.FinSet as set
use Rattle.sv_plain.proofs.node.blocks.push_missing.Given as goal

abbrev pub invariant-loop-block : goal.invariant-loop-block
invariant-loop-block l =
    l.missing.items ++ filter (λ b. not (set.contains l.blocks b)) (drop l.block-index l.new) ≡ l.initial.missing.items ++ filter (λ b. not (set.contains l.blocks b)) l.new
