use Rattle.std.proofs.Common.{arith}
use Rattle.std.proofs.lemmas.Bool.{iff_false}
use Rattle.sv_session.proofs.CommandLines.{mkfs_numbers}
use Rattle.sv_session.proofs.words.sizes_of.Goals as goal

pub returns-else-can_be_made-clause-none : goal.returns-else-can_be_made-clause-none
returns-else-can_be_made-clause-none c m n can is_blocks is_inodes =
    iff_false c.can_be_made.ensures c.if-can_be_made.false
    (mkfs_numbers _ _ _ _ m n (omega arith) (omega arith) c.in_ok-blocks.ensures.some c.in_ok-inodes.ensures.some can is_blocks is_inodes)
