use Rattle.std.proofs.Common.{◌≡◌}
use Rattle.sv_form.specs.PagePath.{block_numbers}
use Rattle.sv_check.specs.Walk.{filled}
use Rattle.sv_check.proofs.WalkSteps.{from_on, holds_number}
use Rattle.sv_check.proofs.walk.is_empty_indirect.Given as goal

abbrev pub invariant-loop-k : goal.invariant-loop-k
invariant-loop-k l = filled l.sizes l.block ≡ from_on (holds_number l.block) (block_numbers l.sizes) l.k
