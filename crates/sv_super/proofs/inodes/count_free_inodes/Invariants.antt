use Rattle.std.proofs.Common.{◌≡◌}
use Rattle.sv_super.specs.Count.{one_if, sum_below}
use Rattle.sv_super.specs.Inodes.{is_free_inode}
use Rattle.sv_super.proofs.inodes.count_free_inodes.Given as goal

abbrev pub invariant-loop-n : goal.invariant-loop-n
invariant-loop-n l = l.count ≡ sum_below l.n (λ k. one_if (is_free_inode l.used k))
