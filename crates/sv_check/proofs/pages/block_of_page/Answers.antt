use Rattle.std.proofs.Common.{arith}
use Rattle.sv_check.proofs.PageFinds.{at_next, no_page, page_here, page_past}
use Rattle.sv_check.proofs.pages.block_of_page.Goals as goal

pub returns-then-place-pages-clause-absent : goal.returns-then-place-pages-clause-absent
returns-then-place-pages-clause-absent c = λ high at. no_page c.args.pages.now c.args.k high at (omega (arith, c.if-place-pages.true))

pub returns-then-here-k-clause-absent : goal.returns-then-here-k-clause-absent
returns-then-here-k-clause-absent c = λ high at. page_past c.args.pages.now c.args.k high at (record { page = 0; block = 0 }) c.if-place-pages.false c.if-here-k.true

pub returns-clause-found : goal.returns-clause-found
returns-clause-found c = λ high at. page_here c.args.pages.now c.args.k high at (record { page = 0; block = 0 }) c.if-place-pages.false c.if-here-k.false

pub returns-clause-next : goal.returns-clause-next
returns-clause-next c = λ high at. at_next c.args.pages.now c.args.k high at (record { page = 0; block = 0 }) c.if-place-pages.false c.if-here-k.false

pub returns-clause-inside : goal.returns-clause-inside
returns-clause-inside c = λ blocks inside. inside c.args.k (record { page = 0; block = 0 }) c.if-place-pages.false
