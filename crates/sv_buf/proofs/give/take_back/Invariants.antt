use Rattle.sv_buf.specs.Changes.{back_view}
use Rattle.sv_buf.proofs.give.take_back.Given as goal

abbrev pub ghosts-leave_with : goal.ghosts-leave_with
ghosts-leave_with g a = record { next = λ v. back_view a.block v }
