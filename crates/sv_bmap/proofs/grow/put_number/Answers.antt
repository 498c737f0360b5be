-- All lines of the block are held, so that it can be put back with any bytes.
use Rattle.std.proofs.Common.{length, ap, ◌∙◌, refl}
use Rattle.sv_store.proofs.Puts.{CanPut-whole, back, lent-at, refilled}
use Rattle.sv_store.specs.Held.{nothing_lent}
use Rattle.sv_bmap.proofs.grow.put_number.Goals as goal

pub bdwrite-requires : goal.bdwrite-requires
bdwrite-requires g c =
    CanPut-whole _ c.args.buf.bytes c.requires.block (lent-at nothing_lent c.requires.lent) c.requires.size
    (ap length (refilled c.args.buf.bytes c.write_number32.new.bytes c.bytes_mut-bytes.result.now c.bytes_mut-bytes.ensures.now
    c.write_number32.ensures.others.len) ∙ (c.write_number32.ensures.others.len ∙ ap length c.bytes_mut-bytes.ensures.now))

pub returns-clause-lends : goal.returns-clause-lends
returns-clause-lends g c = back c.args.buf.bytes c.requires.lent refl c.bdwrite.ensures.lends
