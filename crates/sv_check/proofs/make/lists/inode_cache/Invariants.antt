use Rattle.std.proofs.Common.{◌≡◌, ◌-◌, ◌++◌, length}
use Rattle.sv_check.specs.Mkfs.{down_to, inode_cache}
use Rattle.sv_check.proofs.make.lists.inode_cache.Given as goal

abbrev pub invariant-loop-i : goal.invariant-loop-i
invariant-loop-i l = record {
  left : l.cache.items ++ down_to 3 (l.cached - l.i) ≡ inode_cache l.count;
  count : length l.cache.items ≡ l.i;
}
