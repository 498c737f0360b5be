use Rattle.sv_buf.specs.Changes.{calm_view, failed_view}
use Rattle.sv_buf.proofs.write.write_home.Given as goal

abbrev pub ghosts-bring_home : goal.ghosts-bring_home
ghosts-bring_home g a = record { next = λ v. failed_view (calm_view v) }
