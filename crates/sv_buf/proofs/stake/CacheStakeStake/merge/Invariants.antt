use Rattle.sv_buf.specs.Changes.{merged_view}
use Rattle.sv_buf.proofs.stake.CacheStakeStake.merge.Given as goal

abbrev pub ghosts-join : goal.ghosts-join
ghosts-join g a = record { whole = λ v w. merged_view v w }
