-- The file is empty.
use Rattle.sv_inode.proofs.ReadyFiles.{ready-after}
use Rattle.sv_inode.proofs.write_tests.free_and_write.Goals as goal

pub two_writes-requires-clause-ready : goal.two_writes-requires-clause-ready
two_writes-requires-clause-ready g c κs within =
    ready-after c.in_ok-free_each.ensures.source c.in_ok-free_each.ensures.line c.requires.number c.requires.size c.requires.addresses
