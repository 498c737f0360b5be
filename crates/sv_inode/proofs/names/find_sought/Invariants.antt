use Rattle.std.proofs.Common.{◌≡◌, ◌<◌, ◌*◌, ℕ, false}
use Rattle.sv_inode.specs.Names.{is_sought}
use Rattle.sv_inode.proofs.names.find_sought.Given as goal

abbrev pub invariant-loop-place : goal.invariant-loop-place
invariant-loop-place l = (k : ℕ) → k < l.place → is_sought l.page l.name (16 * k) ≡ false
