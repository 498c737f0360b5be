use Rattle.std.proofs.Common.{true}
use Rattle.sv_turn.specs.Passes.{pass_view}
use Rattle.sv_buf.proofs.Serving.{stops}
use Rattle.sv_buf.proofs.cache.Cache.stop.Goals as goal

pub leave-requires-clause-rule : goal.leave-requires-clause-rule
leave-requires-clause-rule g c = (
  c.enter-state.result,
  c.enter-state.ensures.inside,
  λ others h. stops _ c.enter-state.result (pass_view c.enter-state.new.pass) others true h,
)
