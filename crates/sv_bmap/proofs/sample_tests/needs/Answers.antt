-- The file is a tree, also after its need was asked.
use Rattle.std.proofs.Common.{ap, ◌∙◌, ◌+◌, arith}
use Rattle.sv_bmap.proofs.Empty.{is-page, small}
use Rattle.sv_bmap.proofs.Needs.{tree-after}
use Rattle.sv_bmap.proofs.sample_tests.needs.Goals as goal

pub need-once-requires-clause-pages : goal.need-once-requires-clause-pages
need-once-requires-clause-pages g c _ _ = λ k low.
    is-page _ (small _ (ap (λ q. q.sizes.block_size) c.in_ok-stake.ensures.sizes) (ap (λ q. q.sizes.blocks) c.in_ok-stake.ensures.sizes)
    (ap (λ q. q.sizes.first_data) c.in_ok-stake.ensures.sizes)) (c.min-first.result + k)
    (omega (arith, low, c.min-first.ensures, c.min-count.ensures))

pub need-again-requires-clause-tree : goal.need-again-requires-clause-tree
need-again-requires-clause-tree g c _ _ = tree-after c.need-once.ensures.stake.home c.need-once.ensures.stake.lines
    c.in_ok-stake.ensures.tree

pub need-again-requires-clause-pages : goal.need-again-requires-clause-pages
need-again-requires-clause-pages g c _ _ = λ k low.
    is-page _ (small _ (ap (λ q. q.sizes.block_size) (c.need-once.ensures.stake.home ∙ c.in_ok-stake.ensures.sizes))
    (ap (λ q. q.sizes.blocks) (c.need-once.ensures.stake.home ∙ c.in_ok-stake.ensures.sizes))
    (ap (λ q. q.sizes.first_data) (c.need-once.ensures.stake.home ∙ c.in_ok-stake.ensures.sizes))) (c.min-first.result + k)
    (omega (arith, low, c.min-first.ensures, c.min-count.ensures))
