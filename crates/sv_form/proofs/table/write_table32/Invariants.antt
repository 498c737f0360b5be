use Rattle.std.proofs.Common.{◌≡◌, ◌+◌, ◌*◌, ◌<◌, ℕ, get_or}
use Rattle.sv_form.specs.Number.{number32, ChangesOnly}
use Rattle.sv_form.proofs.table.write_table32.Given as goal

abbrev pub invariant-loop-place : goal.invariant-loop-place
invariant-loop-place l = record {
  written : (k : ℕ) → k < l.place → number32 l.into (l.at + 4 * k) ≡ get_or l.numbers k 0;
  others : ChangesOnly l.initial.into l.into l.at (l.at + 4 * l.place);
}
