use Rattle.std.proofs.Common.{◌≡◌, ◌+◌, [], length}
use Rattle.std.specs.List.{All}
use Rattle.sv_inode.proofs.supplies.drop_rooms.Given as goal

abbrev pub invariant-loop-room : goal.invariant-loop-room
invariant-loop-room g l = record {
  empty : All (λ room. room.items ≡ []) l.rooms.items;
  count : length l.rooms.items + l._room ≡ l.count;
}
