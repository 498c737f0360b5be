use Rattle.std.proofs.Common.{Some}
use Rattle.sv_buf.specs.Changes.{moving_view, forced_view}
use Rattle.sv_buf.proofs.flush.take_unwritten.Given as goal

abbrev pub ghosts-leave : goal.ghosts-leave
ghosts-leave g a = record { next = λ v. forced_view v }

abbrev pub ghosts-leave_with : goal.ghosts-leave_with
ghosts-leave_with g a = record { next = λ v. moving_view a.buffer a.block (Some a.bytes.now) (forced_view v) }
