use Rattle.std.proofs.Common.{◌≡◌, ◌+◌, ◌*◌, ◌<◌, ◌^◌, ℕ, length, get_or}
use Rattle.sv_form.specs.Number.{number24}
use Rattle.sv_form.proofs.inode.read_addresses.Given as goal

abbrev pub invariant-loop-k : goal.invariant-loop-k
invariant-loop-k l = record {
  read : (k : ℕ) → k < l.k → number24 l.from (12 + 3 * k) ≡ get_or l.address-items k 0;
  fits : (k : ℕ) → get_or l.address-items k 0 < 2 ^ 24;
}
