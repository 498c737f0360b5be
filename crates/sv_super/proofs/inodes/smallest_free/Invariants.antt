use Rattle.std.proofs.Common.{◌≡◌, ◌≤◌, ◌+◌, ◌-◌, ◌++◌, length}
use Rattle.sv_super.specs.Inodes.{is_free_inode, smallest}
use Rattle.sv_super.proofs.FreeNumbers.{frees}
use Rattle.sv_super.proofs.inodes.smallest_free.Given as goal

abbrev pub invariant-loop-n : goal.invariant-loop-n
invariant-loop-n l = record {
  found : smallest l.used 100 l.from ≡ l.found.items ++ frees (is_free_inode l.used) (100 - length l.found.items) l.n (length l.used + 1 - l.n);
  fits : length l.found.items ≤ 100;
}
