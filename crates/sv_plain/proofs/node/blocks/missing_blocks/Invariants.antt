use Rattle.std.proofs.Common.{◌≡◌}
use Rattle.std.specs.List.{range_with_len}
use Rattle.sv_plain.specs.Missing.{missing}
use Rattle.sv_plain.proofs.node.blocks.missing_blocks.Given as goal

abbrev pub invariant-loop-k : goal.invariant-loop-k
invariant-loop-k l = l.missing.items ≡ missing l.blocks l.per (range_with_len l.first l.k)
