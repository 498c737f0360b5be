-- The file is a tree, also after it was looked up.
use Rattle.std.proofs.Common.{ap, ◌∙◌, arith}
use Rattle.sv_bmap.proofs.Empty.{is-page, small}
use Rattle.sv_bmap.proofs.Needs.{tree-after}
use Rattle.sv_bmap.proofs.sample_tests.lookups.Goals as goal

pub lookup-first-requires-clause-page : goal.lookup-first-requires-clause-page
lookup-first-requires-clause-page g c _ _ =
    is-page _ (small _ (ap (λ q. q.sizes.block_size) c.in_ok-stake.ensures.sizes) (ap (λ q. q.sizes.blocks) c.in_ok-stake.ensures.sizes)
    (ap (λ q. q.sizes.first_data) c.in_ok-stake.ensures.sizes)) c.min-page.result (omega (arith, c.min-page.ensures))

pub lookup-second-requires-clause-tree : goal.lookup-second-requires-clause-tree
lookup-second-requires-clause-tree g c _ _ = tree-after c.lookup-first.ensures.stake.home c.lookup-first.ensures.stake.lines
    c.in_ok-stake.ensures.tree

pub lookup-second-requires-clause-page : goal.lookup-second-requires-clause-page
lookup-second-requires-clause-page g c _ _ =
    is-page _ (small _ (ap (λ q. q.sizes.block_size) (c.lookup-first.ensures.stake.home ∙ c.in_ok-stake.ensures.sizes))
    (ap (λ q. q.sizes.blocks) (c.lookup-first.ensures.stake.home ∙ c.in_ok-stake.ensures.sizes))
    (ap (λ q. q.sizes.first_data) (c.lookup-first.ensures.stake.home ∙ c.in_ok-stake.ensures.sizes))) c.min-page.result
    (omega (arith, c.min-page.ensures))
