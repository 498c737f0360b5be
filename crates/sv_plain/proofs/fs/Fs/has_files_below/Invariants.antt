use Rattle.std.proofs.Common.{◌≡◌, ℕ, ◌<◌, true}
use Rattle.std.specs.FinMap as map
use Rattle.sv_plain.proofs.fs.Fs.has_files_below.Given as goal

abbrev pub invariant-loop-lower : goal.invariant-loop-lower
invariant-loop-lower l = (k : ℕ) → k < l.lower → map.contains_key l.self.files k ≡ true
