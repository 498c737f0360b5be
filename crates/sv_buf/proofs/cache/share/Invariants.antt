use Rattle.std.specs.Prelude.{[]}
use Rattle.sv_buf.proofs.cache.share.Given as goal

abbrev pub ghosts-split : goal.ghosts-split
ghosts-split g a = record { left = λ v. record v { workers = 0 }; right = λ v. record v { lines = [] } }
