use Rattle.std.proofs.Common.{◌∙◌, arith}
use Rattle.sv_form.specs.PagePath.{block_numbers}
use Rattle.sv_check.proofs.WalkSteps.{from_on-all, from_on-skip, from_on-take, from_on-end, holds_number, number-there, number-hole, some_left, none_left}
use Rattle.sv_check.proofs.walk.is_empty_indirect.Goals as goal

pub loop-k-init : goal.loop-k-init
loop-k-init c = from_on-all (holds_number c.args.block.now) (block_numbers c.args.sizes.now)

pub loop-k-preserved : goal.loop-k-preserved
loop-k-preserved c =
    c.loop-k.invariant
    ∙ from_on-skip (holds_number c.args.block.now) _ c.loop-k.k (omega (arith, c.loop-k-test.true, c.block_numbers-k-end.ensures)) (number-hole c.args.block.now c.loop-k.k _ c.number32.ensures c.if-number32-ne0.false)

pub returns-then-number32-ne0 : goal.returns-then-number32-ne0
returns-then-number32-ne0 c =
    some_left c.loop-k.k _ _ (c.loop-k.invariant
    ∙ from_on-take (holds_number c.args.block.now) _ c.loop-k.k (omega (arith, c.loop-k-test.true, c.block_numbers-k-end.ensures)) (number-there c.args.block.now c.loop-k.k _ c.number32.ensures c.if-number32-ne0.true))

pub returns : goal.returns
returns c = none_left _ (c.loop-k.invariant ∙ from_on-end (holds_number c.args.block.now) _ c.loop-k.k (omega (arith, c.loop-k-test.false, c.block_numbers-k-end.ensures)))
