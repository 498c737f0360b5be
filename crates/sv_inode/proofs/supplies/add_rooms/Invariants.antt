use Rattle.std.proofs.Common.{◌≡◌, ◌≤◌, [], length, vec_capacity}
use Rattle.std.specs.List.{All}
use Rattle.sv_inode.proofs.supplies.add_rooms.Given as goal

abbrev pub invariant-loop-page : goal.invariant-loop-page
invariant-loop-page g l = record {
  empty : All (λ room. room.items ≡ []) l.rooms.items;
  roomy : All (λ room. 4 ≤ vec_capacity room) l.rooms.items;
  count : length l.rooms.items ≡ l._page;
}
