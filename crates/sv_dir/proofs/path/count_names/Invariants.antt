use Rattle.std.proofs.Common.{◌≡◌, ◌≤◌, ◌+◌, length}
use Rattle.std.specs.List.{list_all}
use Rattle.sv_dir.specs.Path.{is_name, pieces}
use Rattle.sv_dir.proofs.path.count_names.Given as goal

abbrev pub invariant-loop-piece : goal.invariant-loop-piece
invariant-loop-piece l = record {
  same : list_all is_name (pieces l.path) ≡ list_all is_name (pieces l.rest);
  number : length (pieces l.path) ≡ l.count + length (pieces l.rest);
  room : l.count + length l.rest ≤ length l.path;
}

abbrev pub decreases-loop-piece : goal.decreases-loop-piece
decreases-loop-piece l = length l.rest
