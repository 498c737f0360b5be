use Rattle.std.proofs.Common.{◌≡◌, ◌≤◌, ◌*◌, ◌==◌}
use Rattle.std.specs.List.{count_by, range_with_len}
use Rattle.sv_form.specs.Number.{number32}
use Rattle.sv_bmap.proofs.numbers.zeros_in.Given as goal

abbrev pub invariant-loop-k : goal.invariant-loop-k
invariant-loop-k l = record {
  zeros : l.zeros ≡ count_by (λ k. number32 l.bytes (k * 4) == 0) (range_with_len l.from l.k);
  few : l.zeros ≤ l.k;
}
