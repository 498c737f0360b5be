use Rattle.std.proofs.Common.{◌≡◌, drop}
use Rattle.sv_plain.specs.Written.{without_blocks}
use Rattle.sv_plain.proofs.node.blocks.remove_blocks.Given as goal

abbrev pub invariant-loop-block : goal.invariant-loop-block
invariant-loop-block l = without_blocks l.blocks (drop l.block-index l.gone) ≡ without_blocks l.initial.blocks l.gone
