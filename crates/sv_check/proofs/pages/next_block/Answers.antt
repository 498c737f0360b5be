use Rattle.std.proofs.Common.{arith}
use Rattle.sv_check.proofs.FileBlocks.{at_next, block_here, hole_here, no_more}
use Rattle.sv_check.proofs.pages.next_block.Goals as goal

pub returns-then-at-pages-clause-block : goal.returns-then-at-pages-clause-block
returns-then-at-pages-clause-block c = λ is. (no_more c.args.pages.now c.args.at.now c.args.k is (omega (arith, c.if-at-pages.true))).0

pub returns-then-at-pages-clause-next : goal.returns-then-at-pages-clause-next
returns-then-at-pages-clause-next c = λ is. (no_more c.args.pages.now c.args.at.now c.args.k is (omega (arith, c.if-at-pages.true))).1

pub returns-then-next-k-clause-block : goal.returns-then-next-k-clause-block
returns-then-next-k-clause-block c = λ is. (hole_here c.args.pages.now c.args.at.now c.args.k is (record { page = 0; block = 0 }) c.if-at-pages.false c.if-next-k.true).0

pub returns-then-next-k-clause-next : goal.returns-then-next-k-clause-next
returns-then-next-k-clause-next c = λ is. (hole_here c.args.pages.now c.args.at.now c.args.k is (record { page = 0; block = 0 }) c.if-at-pages.false c.if-next-k.true).1

pub returns-clause-block : goal.returns-clause-block
returns-clause-block c = λ is. block_here c.args.pages.now c.args.at.now c.args.k is (record { page = 0; block = 0 }) c.if-at-pages.false c.if-next-k.false

pub returns-clause-next : goal.returns-clause-next
returns-clause-next c = λ is. at_next c.args.pages.now c.args.at.now c.args.k is (record { page = 0; block = 0 }) c.if-at-pages.false c.if-next-k.false
