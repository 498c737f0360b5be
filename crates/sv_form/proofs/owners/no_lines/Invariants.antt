use Rattle.std.proofs.Common.{◌≡◌, [], ℕ, length}
use Rattle.sv_form.specs.Owners.{ranges_at}
use Rattle.sv_form.proofs.owners.no_lines.Given as goal

abbrev pub invariant-loop-place : goal.invariant-loop-place
invariant-loop-place l = record {
  count : length l.all.items ≡ l._place;
  none : (n : ℕ) → ranges_at l.all.items n ≡ [];
}
