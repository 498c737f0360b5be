use Rattle.std.proofs.Common.{Some}
use Rattle.sv_buf.specs.Changes.{moving_view, written_view}
use Rattle.sv_buf.proofs.write.take_written.Given as goal

abbrev pub ghosts-leave_with : goal.ghosts-leave_with
ghosts-leave_with g a = record { next = λ v. moving_view a.buffer a.block (Some a.bytes.now) (written_view a.block a.bytes.now v) }
