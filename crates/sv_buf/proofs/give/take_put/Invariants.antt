use Rattle.std.proofs.Common.{[], unwrap_or}
use Rattle.sv_cache.specs.Cache.{buffer_at}
use Rattle.sv_buf.specs.Changes.{put_view}
use Rattle.sv_buf.proofs.give.take_put.Given as goal

abbrev pub ghosts-leave_with : goal.ghosts-leave_with
ghosts-leave_with g a = record { next = λ v. put_view a.block (unwrap_or (buffer_at a.state.core a.buffer).bytes []) v }
