-- What is under each number comes first, and the block itself last.
use Rattle.std.proofs.Common.{◌∙◌}
use Rattle.sv_form.specs.PagePath.{block_numbers}
use Rattle.sv_bmap.proofs.Orders.{nothing-added, all-listed, children-below, held-top}
use Rattle.sv_bmap.proofs.order.add_triple.Goals as goal

pub returns-then-b-eq0-clause-blocks : goal.returns-then-b-eq0-clause-blocks
returns-then-b-eq0-clause-blocks g c = nothing-added (block_numbers (g.S.Stake.origin c.args.s.now).sizes)
    (g.S.Stake.held c.args.s.now) 2 c.args.b c.args.blocks.now.items c.if-b-eq0.true

pub numbers_of-requires-clause-block : goal.numbers_of-requires-clause-block
numbers_of-requires-clause-block g c _ _ = held-top c.requires.below c.if-b-eq0.false

pub add_doubles-requires-clause-below : goal.add_doubles-requires-clause-below
add_doubles-requires-clause-below g c _ _ = children-below c.as_slice.result.now c.numbers_of.ensures.stake.home
    c.numbers_of.ensures.stake.lines c.requires.below (c.as_slice.ensures.value ∙ c.in_ok-numbers.ensures.numbers)

pub returns-clause-blocks : goal.returns-clause-blocks
returns-clause-blocks g c =
    all-listed (g.S.Stake.origin c.args.s.now) (g.S.Stake.origin c.numbers_of.new.s) (g.S.Stake.held c.args.s.now)
    (g.S.Stake.held c.numbers_of.new.s) 2 c.args.b c.as_slice.result.now c.args.blocks.now.items c.add_doubles.new.blocks.items
    c.add.new.blocks.items c.numbers_of.ensures.stake.home c.numbers_of.ensures.stake.lines c.if-b-eq0.false
    (c.as_slice.ensures.value ∙ c.in_ok-numbers.ensures.numbers) c.in_ok-add_doubles.ensures.blocks c.in_ok-add.ensures
