use Rattle.std.proofs.Common.{◌≡◌, ◌==◌, ◌-◌, ◌≤◌}
use Rattle.sv_form.specs.Owners.{owner_of}
use Rattle.sv_check.proofs.FreeBlocks.{passing}
use Rattle.sv_check.proofs.counts.free_count.Given as goal

abbrev pub invariant-loop-block : goal.invariant-loop-block
invariant-loop-block l = record {
  counted : l.free ≡ passing (λ b. owner_of l.fn.mounted.owners (record { block = b; line = 0 }) == 0) l.fn.mounted.geometry.first_data (l.block - l.fn.mounted.geometry.first_data);
  few : l.free ≤ l.block;
}
