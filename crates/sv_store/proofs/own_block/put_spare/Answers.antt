-- The list is split before the entry, the entry is changed, and the two parts are put together.
use Rattle.std.proofs.Common.{◌∙◌, Some}
use Rattle.sv_store.proofs.OwnLaws.{edited-front}
use Rattle.sv_store.proofs.own_block.put_spare.Goals as goal

pub returns : goal.returns
returns c =
    c.in-Ok-append.ensures.items
    ∙ edited-front c.args.blocks.now c.split_off.new.self c.in-Ok.others c.args.at c.in-Some.own.now c.put_spare.new.self (λ e. record e { spare = Some c.args.bytes.items }) c.requires c.in-Ok.ensures.items c.in-Ok.ensures.tail c.in-Some.ensures.value c.put_spare.ensures
