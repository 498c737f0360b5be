use Rattle.std.proofs.Common.{◌<◌, ℕ}
use Rattle.sv_dir.specs.Page.{HasEmpty}
use Rattle.sv_dir.proofs.page.empty_place.Given as goal

abbrev pub invariant-loop-place : goal.invariant-loop-place
invariant-loop-place l = (k : ℕ) → k < l.place → HasEmpty l.page k → ⊥
