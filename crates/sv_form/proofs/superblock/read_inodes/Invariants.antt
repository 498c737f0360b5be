use Rattle.std.proofs.Common.{◌≡◌, ◌+◌, ◌*◌, ◌<◌, ℕ, length, get_or}
use Rattle.sv_form.specs.Number.{number16}
use Rattle.sv_form.proofs.superblock.read_inodes.Given as goal

abbrev pub invariant-loop-place : goal.invariant-loop-place
invariant-loop-place l = record {
  taken : length l.inodes.items ≡ l.place;
  numbers : (k : ℕ) → k < l.place → number16 l.from (216 + 2 * k) ≡ get_or l.inodes.items k 0;
}
