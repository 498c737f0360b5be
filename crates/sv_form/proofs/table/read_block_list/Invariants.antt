use Rattle.std.proofs.Common.{◌≡◌, ◌+◌, ◌*◌, ◌<◌, ℕ, length, get_or}
use Rattle.sv_form.specs.Number.{number32}
use Rattle.sv_form.proofs.table.read_block_list.Given as goal

abbrev pub invariant-loop-place : goal.invariant-loop-place
invariant-loop-place l = record {
  taken : length l.list.items ≡ l.place;
  numbers : (k : ℕ) → k < l.place → number32 l.from (l.at + 4 * k) ≡ get_or l.list.items k 0;
}
