-- The block has zero bytes before the number is put.
use Rattle.sv_store.proofs.Puts.{holds-put}
use Rattle.sv_bmap.proofs.Writes.{made-anew}
use Rattle.sv_bmap.proofs.grow.put_indirect.Goals as goal

pub put_number-requires-clause-block : goal.put_number-requires-clause-block
put_number-requires-clause-block g c κs within = holds-put c.args.b c.in_ok-buf.buf.bytes c.fresh.ensures.origin c.in_ok-buf.ensures.puts
    c.in_ok-buf.ensures.ok.block c.requires.block

pub returns-clause-ok : goal.returns-clause-ok
returns-clause-ok g c = made-anew c.put_number.ensures.number c.in_ok-buf.ensures.ok.block c.in_ok-buf.ensures.ok.zeros
    c.in_ok-buf.buf.bytes c.in_ok-buf.ensures.puts
