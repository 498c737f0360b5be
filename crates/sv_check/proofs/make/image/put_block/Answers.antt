use Rattle.std.proofs.Common.{◌∙◌, sym}
use Rattle.sv_check.proofs.MakingSteps.{read_there}
use Rattle.sv_check.proofs.make.image.put_block.Goals as goal

pub returns-then-eq-clause-written : goal.returns-then-eq-clause-written
returns-then-eq-clause-written g c =
    c.read.ensures.content
    ∙ read_there (g.D.Disk.content c.args.disk.now) c.as_slice.result.now c.args.block.now c.args.at 1024
    (c.as_slice.ensures ∙ c.in_ok-read.ensures.bytes) c.requires.size (sym c.eq.ensures ∙ c.if-eq.true)
