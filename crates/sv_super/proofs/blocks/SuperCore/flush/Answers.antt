-- The blocks are linked, and then the superblock is put.
use Rattle.std.proofs.Common.{ap}
use Rattle.sv_super.proofs.Flushes.{rewrites-then}
use Rattle.sv_super.proofs.blocks.SuperCore.flush.Goals as goal

pub returns-clause-held : goal.returns-clause-held
returns-clause-held g c =
    rewrites-then c.args.self.now.aside c.link_all.new.self.aside c.args.self.now.chain c.link_all.new.self.chain c.link_all.ensures.held c.put_super.ensures.held (ap (λ q. q.sizes) c.link_all.ensures.origin) c.link_all.ensures.order
