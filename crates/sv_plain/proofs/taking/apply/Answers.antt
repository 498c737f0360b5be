use Rattle.sv_plain.proofs.Applied.{taken-step}
use Rattle.sv_plain.proofs.KeptByAll.{keeps-step}
use Rattle.sv_plain.proofs.taking.apply.Goals as goal

pub returns-clause-step : goal.returns-clause-step
returns-clause-step c = taken-step c.args.fs.now c.take.new.self c.args.process c.args.op.now c.args.reply.now c.in_ok-take.ensures.taken

pub returns-clause-whole : goal.returns-clause-whole
returns-clause-whole c =
    keeps-step c.args.op.now c.has_name.ensures c.args.fs.now c.take.new.self c.args.process c.args.reply.now c.requires
    (taken-step c.args.fs.now c.take.new.self c.args.process c.args.op.now c.args.reply.now c.in_ok-take.ensures.taken)
