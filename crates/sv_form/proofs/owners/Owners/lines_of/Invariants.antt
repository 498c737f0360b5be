use Rattle.std.proofs.Common.{◌≡◌, ◌==◌, ℕ, All, filter, get_or}
use Rattle.std.specs.List.{flat_map, range_with_len}
use Rattle.sv_form.specs.Owners.{IsRange, range_lines}
use Rattle.sv_form.proofs.owners.Owners.lines_of.Given as goal

abbrev pub invariant-loop-line : goal.invariant-loop-line
invariant-loop-line l = record {
  lines : flat_map (range_lines l.self.geometry) l.ranges.items ≡ filter (λ k. get_or l.self.owners k 0 == l.n) (range_with_len 0 l.line);
  each : All (IsRange l.self.geometry) l.ranges.items;
}
