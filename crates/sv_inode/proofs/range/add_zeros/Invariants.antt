use Rattle.std.proofs.Common.{◌≡◌, ◌++◌, replicate}
use Rattle.sv_inode.proofs.range.add_zeros.Given as goal

abbrev pub invariant-loop-byte : goal.invariant-loop-byte
invariant-loop-byte l = l.bytes.items ≡ l.fn.bytes.items ++ replicate l._byte 0
