-- Block 50 is the one block of the tree, also after it was looked up.
use Rattle.std.proofs.Common.{◌+◌, ap, ◌∙◌, arith}
use Rattle.sv_bmap.proofs.Empty.{first-tree, is-page, small}
use Rattle.sv_bmap.proofs.Needs.{tree-after}
use Rattle.sv_bmap.proofs.tests.pages_of_one.Goals as goal

pub lookup-requires-clause-tree : goal.lookup-requires-clause-tree
lookup-requires-clause-tree g c _ _ = first-tree _ _ 50
    (record {
      at = λ l line. c.in_ok-stake.ensures.held 50 l (omega arith)
          (omega (arith, line, ap (λ q. q.sizes.block_size) c.in_ok-stake.ensures.sizes));
    })

pub lookup-requires-clause-page : goal.lookup-requires-clause-page
lookup-requires-clause-page g c _ _ =
    is-page _ (small _ (ap (λ q. q.sizes.block_size) c.in_ok-stake.ensures.sizes) (ap (λ q. q.sizes.blocks) c.in_ok-stake.ensures.sizes)
    (ap (λ q. q.sizes.first_data) c.in_ok-stake.ensures.sizes)) 0 (omega arith)

pub lookup-requires-2-clause-tree : goal.lookup-requires-2-clause-tree
lookup-requires-2-clause-tree g c _ _ = tree-after c.lookup.ensures.stake.home c.lookup.ensures.stake.lines
    (first-tree _ _ 50 (record {
      at = λ l line. c.in_ok-stake.ensures.held 50 l (omega arith)
          (omega (arith, line, ap (λ q. q.sizes.block_size) c.in_ok-stake.ensures.sizes));
    }))

pub lookup-requires-2-clause-page : goal.lookup-requires-2-clause-page
lookup-requires-2-clause-page g c _ _ =
    is-page _ (small _ (ap (λ q. q.sizes.block_size) (c.lookup.ensures.stake.home ∙ c.in_ok-stake.ensures.sizes))
    (ap (λ q. q.sizes.blocks) (c.lookup.ensures.stake.home ∙ c.in_ok-stake.ensures.sizes))
    (ap (λ q. q.sizes.first_data) (c.lookup.ensures.stake.home ∙ c.in_ok-stake.ensures.sizes))) 1 (omega arith)

pub need-requires-clause-tree : goal.need-requires-clause-tree
need-requires-clause-tree g c _ _ =
    tree-after (c.lookup-2.ensures.stake.home ∙ c.lookup.ensures.stake.home) (c.lookup-2.ensures.stake.lines ∙ c.lookup.ensures.stake.lines)
    (first-tree _ _ 50 (record {
      at = λ l line. c.in_ok-stake.ensures.held 50 l (omega arith)
          (omega (arith, line, ap (λ q. q.sizes.block_size) c.in_ok-stake.ensures.sizes));
    }))

pub need-requires-clause-pages : goal.need-requires-clause-pages
need-requires-clause-pages g c _ _ = λ k low. is-page _
    (small _ (ap (λ q. q.sizes.block_size) (c.lookup-2.ensures.stake.home ∙ (c.lookup.ensures.stake.home ∙ c.in_ok-stake.ensures.sizes)))
    (ap (λ q. q.sizes.blocks) (c.lookup-2.ensures.stake.home ∙ (c.lookup.ensures.stake.home ∙ c.in_ok-stake.ensures.sizes)))
    (ap (λ q. q.sizes.first_data) (c.lookup-2.ensures.stake.home ∙ (c.lookup.ensures.stake.home ∙ c.in_ok-stake.ensures.sizes)))) (0 + k)
    (omega (arith, low))
