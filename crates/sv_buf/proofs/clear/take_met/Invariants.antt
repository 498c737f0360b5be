use Rattle.std.proofs.Common.{Some}
use Rattle.sv_buf.specs.Changes.{calm_view, moving_view}
use Rattle.sv_buf.proofs.clear.take_met.Given as goal

abbrev pub ghosts-leave_with : goal.ghosts-leave_with
ghosts-leave_with g a = record { next = λ v. moving_view a.buffer a.block (Some a.bytes.now) (calm_view v) }
