use Rattle.std.proofs.Common.{◌≡◌, nat_lt}
use Rattle.sv_form.specs.Owners.{owner_of}
use Rattle.sv_super.specs.Count.{one_if, sum_below}
use Rattle.sv_super.proofs.mounted.count_owned.Given as goal

abbrev pub invariant-loop-line : goal.invariant-loop-line
invariant-loop-line l = l.count ≡ sum_below l.line (λ k. one_if (nat_lt 0 (owner_of l.owners (record { block = l.block; line = k }))))
