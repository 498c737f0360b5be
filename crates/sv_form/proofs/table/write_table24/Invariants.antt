use Rattle.std.proofs.Common.{◌≡◌, ◌+◌, ◌*◌, ◌<◌, ℕ, get_or}
use Rattle.sv_form.specs.Number.{number24, ChangesOnly}
use Rattle.sv_form.proofs.table.write_table24.Given as goal

abbrev pub invariant-loop-place : goal.invariant-loop-place
invariant-loop-place l = record {
  written : (k : ℕ) → k < l.place → number24 l.into (l.at + 3 * k) ≡ get_or l.numbers k 0;
  others : ChangesOnly l.initial.into l.into l.at (l.at + 3 * l.place);
}
