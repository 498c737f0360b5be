-- Which kind of block it is.
use Rattle.std.proofs.Common.{◌∙◌, sym}
use Rattle.sv_check.proofs.BlockBytes.{before_is, first_is, free_is, inodes_are, link_is, root_is}
use Rattle.sv_check.proofs.make.blocks.content.Goals as goal

pub returns-then-number-eq0 : goal.returns-then-number-eq0
returns-then-number-eq0 c = c.superblock.ensures ∙ sym (first_is c.args.sizes.now c.args.number c.if-number-eq0.true)

pub returns-then-number-eq2 : goal.returns-then-number-eq2
returns-then-number-eq2 c = c.root_inode.ensures ∙ sym (inodes_are c.args.sizes.now c.args.number c.if-number-eq0.false c.if-number-eq2.true)

pub returns-then-number-sizes : goal.returns-then-number-sizes
returns-then-number-sizes c = c.root_page.ensures ∙ sym (root_is c.args.sizes.now c.args.number c.if-number-eq0.false c.if-number-eq2.false c.if-number-sizes.true)

pub returns-then-number-sizes-2 : goal.returns-then-number-sizes-2
returns-then-number-sizes-2 c = c.new.ensures ∙ sym (before_is c.args.sizes.now c.args.number c.if-number-eq0.false c.if-number-eq2.false c.if-number-sizes.false c.if-number-sizes-2.true)

pub returns-then-sizes-number-eq0 : goal.returns-then-sizes-number-eq0
returns-then-sizes-number-eq0 c =
    c.link_block.ensures ∙ sym (link_is c.args.sizes.now c.args.number c.if-number-eq0.false c.if-number-eq2.false c.if-number-sizes.false c.if-number-sizes-2.false c.if-sizes-number-eq0.true)

pub returns : goal.returns
returns c =
    c.new-2.ensures ∙ sym (free_is c.args.sizes.now c.args.number c.if-number-eq0.false c.if-number-eq2.false c.if-number-sizes.false c.if-number-sizes-2.false c.if-sizes-number-eq0.false)
