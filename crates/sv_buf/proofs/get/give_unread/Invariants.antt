use Rattle.sv_buf.specs.Changes.{failed_view, calm_view}
use Rattle.sv_buf.proofs.get.give_unread.Given as goal

abbrev pub ghosts-leave_with : goal.ghosts-leave_with
ghosts-leave_with g a = record { next = λ v. failed_view (calm_view v) }
