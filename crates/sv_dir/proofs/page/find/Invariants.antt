use Rattle.std.proofs.Common.{◌<◌, ℕ}
use Rattle.sv_dir.specs.Page.{HasNamed}
use Rattle.sv_dir.proofs.page.find.Given as goal

abbrev pub invariant-loop-place : goal.invariant-loop-place
invariant-loop-place l = (k i : ℕ) → k < l.place → HasNamed l.page l.name k i → ⊥
