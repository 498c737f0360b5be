-- The directory is empty.
use Rattle.sv_inode.proofs.ReadyFiles.{ready-after}
use Rattle.sv_inode.proofs.enter_tests.free_and_enter.Goals as goal

pub entered-requires-clause-ready : goal.entered-requires-clause-ready
entered-requires-clause-ready g c κs within =
    ready-after c.in_ok-free_each.ensures.source c.in_ok-free_each.ensures.line c.requires.number c.requires.size c.requires.addresses
