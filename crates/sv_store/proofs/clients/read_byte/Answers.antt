-- The line that is got is the one that is held.
use Rattle.std.proofs.Common.{◌∙◌, ap, get_or}
use Rattle.sv_store.proofs.Bytes.{byte-got}
use Rattle.sv_store.proofs.Holding.{CanReturn-got}
use Rattle.sv_store.proofs.Puts.{returned}
use Rattle.sv_store.proofs.clients.read_byte.Goals as goal

pub brelse-requires : goal.brelse-requires
brelse-requires g c = CanReturn-got c.in_ok-buf.ensures.ok _ _ c.in_ok-buf.ensures.lends

pub returns-clause-value : goal.returns-clause-value
returns-clause-value g c =
    ap (λ q. get_or q c.args.place 0) c.bytes.ensures ∙ byte-got c.in_ok-buf.ensures.ok c.args.place c.requires.line

pub returns-clause-lends : goal.returns-clause-lends
returns-clause-lends g c = returned c.in_ok-buf.buf.bytes c.in_ok-buf.ensures.lends c.in_ok-buf.ensures.ok.block c.requires.block.away c.brelse.ensures.lends
