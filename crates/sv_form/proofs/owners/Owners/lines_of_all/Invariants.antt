use Rattle.std.proofs.Common.{◌≡◌, ◌<◌, ◌+◌, ◌==◌, ℕ, All, filter, get_or, length}
use Rattle.std.specs.List.{flat_map, range_with_len}
use Rattle.sv_form.specs.Owners.{IsRange, range_lines, ranges_at}
use Rattle.sv_form.proofs.owners.Owners.lines_of_all.Given as goal

abbrev pub invariant-loop-line : goal.invariant-loop-line
invariant-loop-line l = record {
  count : length l.all.items ≡ l.last + 1;
  lines : (n : ℕ) → n < l.last + 1 → flat_map (range_lines l.self.geometry) (ranges_at l.all.items n) ≡ filter (λ k. get_or l.self.owners k 0 == n) (range_with_len 0 l.line);
  each : (n : ℕ) → n < l.last + 1 → All (IsRange l.self.geometry) (ranges_at l.all.items n);
}
