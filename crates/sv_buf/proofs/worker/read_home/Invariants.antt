use Rattle.sv_buf.specs.Changes.{calm_view}
use Rattle.sv_buf.proofs.worker.read_home.Given as goal

abbrev pub ghosts-give_home : goal.ghosts-give_home
ghosts-give_home g a = record { next = λ v. calm_view v }
