use Rattle.std.proofs.Common.{◌≡◌, drop}
use Rattle.sv_dir.specs.Path.{pieces}
use Rattle.sv_dir.proofs.path.after_slashes.Given as goal

abbrev pub invariant-loop-i : goal.invariant-loop-i
invariant-loop-i l = pieces (drop l.i l.path) ≡ pieces l.path
