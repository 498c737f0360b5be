use Rattle.std.proofs.Common.{◌≡◌, ◌≤◌, ◌+◌, ◌++◌, length, All}
use Rattle.sv_form.specs.Name.{IsName}
use Rattle.sv_dir.specs.Path.{pieces}
use Rattle.sv_dir.proofs.path.names_of.Given as goal

abbrev pub invariant-loop-piece : goal.invariant-loop-piece
invariant-loop-piece l = record {
  cut : pieces l.path ≡ l.names.items ++ pieces l.rest;
  each : All IsName l.names.items;
  room : length l.names.items + length l.rest ≤ length l.path;
}

abbrev pub decreases-loop-piece : goal.decreases-loop-piece
decreases-loop-piece l = length l.rest
