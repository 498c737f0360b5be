use Rattle.std.proofs.Common.{◌≡◌}
use Rattle.sv_super.specs.Calls.{is_free}
use Rattle.sv_super.specs.Count.{one_if, sum_below}
use Rattle.sv_super.proofs.mounted.count_free.Given as goal

abbrev pub invariant-loop-b : goal.invariant-loop-b
invariant-loop-b l = l.count ≡ sum_below l.b (λ b. one_if (is_free l.owners b))
