use Rattle.std.proofs.Common.{None}
use Rattle.sv_buf.specs.Changes.{moving_view}
use Rattle.sv_buf.proofs.read.wait_for_device.Given as goal

abbrev pub ghosts-sleep_with : goal.ghosts-sleep_with
ghosts-sleep_with g a = record { next = λ v. moving_view a.buffer a.block None v }
