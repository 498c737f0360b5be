use Rattle.sv_buf.proofs.Closing.{taken-busy}
use Rattle.sv_buf.proofs.take.take_out.Goals as goal

pub returns-in-Busy-clause-after : goal.returns-in-Busy-clause-after
returns-in-Busy-clause-after g c = taken-busy c.args.core.now c.attempt.new.self c.lend-in-Busy.new.self c.args.buffer c.in-Busy.found
    c.args.block c.requires.lawful c.requires.named c.in-Busy.ensures.cause.0 c.in-Busy.ensures.cause.1 c.in-Busy.ensures.after
    c.lend-in-Busy.ensures.after
