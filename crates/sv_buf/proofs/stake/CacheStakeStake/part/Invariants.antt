use Rattle.sv_buf.specs.Changes.{kept_view, parted_view}
use Rattle.sv_buf.proofs.stake.CacheStakeStake.part.Given as goal

abbrev pub ghosts-split_lines : goal.ghosts-split_lines
ghosts-split_lines g a = record { left = λ v. kept_view a.lines.now v; right = λ v. parted_view a.lines.now v }
