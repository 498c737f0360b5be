use Rattle.sv_buf.specs.Changes.{calm_view, lent_view, filled_view}
use Rattle.sv_buf.proofs.fresh.lend_zeros.Given as goal

abbrev pub ghosts-leave_with : goal.ghosts-leave_with
ghosts-leave_with g a = record { next = λ v. lent_view a.buffer a.block a.bytes.now (filled_view a.block a.bytes.now (calm_view v)) }
