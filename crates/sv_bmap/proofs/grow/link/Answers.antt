-- Each number but the one that is written stays.
use Rattle.std.proofs.Common.{arith}
use Rattle.sv_form.specs.PagePath.{block_numbers}
use Rattle.sv_bmap.proofs.Writes.{sets-number}
use Rattle.sv_bmap.proofs.grow.link.Goals as goal

pub returns-clause-ok : goal.returns-clause-ok
returns-clause-ok g c = sets-number c.in_ok-buf.ensures.ok c.bread.ensures.held c.put_number.ensures.number c.requires.block
    (block_numbers (g.S.Stake.origin c.args.s.now).sizes) (omega arith) c.requires.place
