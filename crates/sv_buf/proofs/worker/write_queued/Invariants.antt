use Rattle.std.proofs.Common.{Some}
use Rattle.sv_buf.specs.Changes.{moving_view, calm_view}
use Rattle.sv_buf.proofs.worker.write_queued.Given as goal

abbrev pub ghosts-leave_with : goal.ghosts-leave_with
ghosts-leave_with g a = record { next = λ v. moving_view a.buffer a.block (Some a.bytes.now) v }

abbrev pub ghosts-bring_home : goal.ghosts-bring_home
ghosts-bring_home g a = record { next = λ v. calm_view v }
