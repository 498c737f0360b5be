-- All bytes but the first are 0.
use Rattle.std.proofs.Common.{ap, set}
use Rattle.sv_inode.proofs.truncate_tests.block.Goals as goal

pub returns-clause-row : goal.returns-clause-row
returns-clause-row c = ap (λ q. set q 0 61) (c.in_ok-bytes.ensures.items_if_clones_equal (λ y e. e))
