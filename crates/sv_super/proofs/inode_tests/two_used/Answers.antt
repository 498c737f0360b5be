-- The cache is empty.
use Rattle.std.proofs.Common.{◌≡◌, true}
use Rattle.sv_super.specs.Inodes.{is_free_inode}
use Rattle.sv_super.proofs.FreeNumbers.{times-few, times-none}
use Rattle.sv_super.proofs.inode_tests.two_used.Goals as goal

pub new-requires-clause-free : goal.new-requires-clause-free
new-requires-clause-free c = times-none (λ n. is_free_inode c.as_slice.result.now n ≡ true)

pub new-requires-clause-once : goal.new-requires-clause-once
new-requires-clause-once c = times-few
