use Rattle.std.proofs.Common.{◌∙◌, ℕ, List, length, ap}
use Rattle.sv_check.specs.Mkfs.{list_in}
use Rattle.sv_check.proofs.BlockBytes.{link_block_spelled}
use Rattle.sv_check.proofs.make.blocks.link_block.Goals as goal

pub returns : goal.returns
returns c =
    link_block_spelled (list_in c.args.blocks c.args.number) c.new-block.ensures c.put16.ensures.bytes c.put16-2.ensures.bytes c.put_all32.ensures.bytes
    (c.len.ensures.value ∙ ap (λ (xs : List ℕ). length xs) c.free_list-list.ensures) (c.as_slice.ensures.value ∙ c.free_list-list.ensures)
