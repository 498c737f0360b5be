-- The file is empty.
use Rattle.sv_inode.proofs.ReadyFiles.{ready-after}
use Rattle.sv_inode.proofs.read_back_tests.free_put_and_read.Goals as goal

pub put_and_read-requires-clause-ready : goal.put_and_read-requires-clause-ready
put_and_read-requires-clause-ready g c κs within =
    ready-after c.in_ok-free_each.ensures.source c.in_ok-free_each.ensures.line c.requires.number c.requires.size c.requires.addresses
