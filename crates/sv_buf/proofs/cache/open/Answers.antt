use Rattle.sv_buf.proofs.Start.{begins, begins-weight}
use Rattle.sv_buf.proofs.cache.open.Goals as goal

pub new-requires-2-clause-rule : goal.new-requires-2-clause-rule
new-requires-2-clause-rule g c = begins _ c.args.core c.args.buffers c.args.sizes c.in-Ok.requests c.requires c.in-Ok.ensures

pub new-requires-2-clause-weight : goal.new-requires-2-clause-weight
new-requires-2-clause-weight g c = begins-weight _ c.args.core c.args.buffers c.args.sizes c.requires
