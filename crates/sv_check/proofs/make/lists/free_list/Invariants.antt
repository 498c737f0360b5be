use Rattle.std.proofs.Common.{◌≡◌, ◌+◌, ◌-◌, ◌++◌, length}
use Rattle.sv_check.specs.Mkfs.{down_to, free_list}
use Rattle.sv_check.proofs.make.lists.free_list.Given as goal

abbrev pub invariant-loop-i : goal.invariant-loop-i
invariant-loop-i l = record {
  left : l.list.items ++ down_to l.from (l.upto - l.from - l.i) ≡ free_list l.blocks l.from l.upto;
  count : length l.list.items ≡ l.i + 1;
}
