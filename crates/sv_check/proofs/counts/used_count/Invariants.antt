use Rattle.std.proofs.Common.{◌≡◌, ◌≤◌, Bool, filter, length, take}
use Rattle.sv_check.proofs.counts.used_count.Given as goal

abbrev pub invariant-loop-place : goal.invariant-loop-place
invariant-loop-place l = record {
  counted : l.count ≡ length (filter (λ (t : Bool). t) (take l.place l.fn.mounted.used.items));
  few : l.count ≤ l.place;
}
