-- The four parts of the tree, one after another.
use Rattle.std.proofs.Common.{◌++◌, refl, ap, ◌∙◌, get_or, arith}
use Rattle.sv_bmap.proofs.Orders.{tree-below, below-after, blocks-after, joined}
use Rattle.sv_bmap.proofs.order.collect.Goals as goal

pub add_single-requires-clause-below : goal.add_single-requires-clause-below
add_single-requires-clause-below g c _ _ = tree-below c.requires.tree 10 1 (omega arith) (omega arith)

pub add_double-requires-clause-below : goal.add_double-requires-clause-below
add_double-requires-clause-below g c _ _ = below-after c.add_single.ensures.stake.home c.add_single.ensures.stake.lines refl
    (tree-below c.requires.tree 11 2 (omega arith) (omega arith))

pub add_triple-requires-clause-below : goal.add_triple-requires-clause-below
add_triple-requires-clause-below g c _ _ =
    below-after (c.add_double.ensures.stake.home ∙ c.add_single.ensures.stake.home)
    (c.add_double.ensures.stake.lines ∙ c.add_single.ensures.stake.lines) refl
    (tree-below c.requires.tree 12 3 (omega arith) (omega arith))

pub returns-clause-blocks : goal.returns-clause-blocks
returns-clause-blocks g c =
    joined (g.S.Stake.origin c.args.s.now).sizes (g.S.Stake.held c.args.s.now) c.args.a.now c.new-blocks.ensures.items
    c.in_ok-add_pages.ensures c.in_ok-add_single.ensures.blocks
    (c.in_ok-add_double.ensures.blocks
    ∙ ap (λ q. c.add_single.new.blocks.items ++ q)
    (blocks-after (g.S.Stake.origin c.args.s.now) (g.S.Stake.origin c.add_single.new.s) (g.S.Stake.held c.args.s.now)
    (g.S.Stake.held c.add_single.new.s) 2 (get_or c.args.a.now 11 0) (get_or c.args.a.now 11 0) c.add_single.ensures.stake.home
    c.add_single.ensures.stake.lines refl))
    (c.in_ok-add_triple.ensures.blocks
    ∙ ap (λ q. c.add_double.new.blocks.items ++ q)
    (blocks-after (g.S.Stake.origin c.args.s.now) (g.S.Stake.origin c.add_double.new.s) (g.S.Stake.held c.args.s.now)
    (g.S.Stake.held c.add_double.new.s) 3 (get_or c.args.a.now 12 0) (get_or c.args.a.now 12 0)
    (c.add_double.ensures.stake.home ∙ c.add_single.ensures.stake.home)
    (c.add_double.ensures.stake.lines ∙ c.add_single.ensures.stake.lines) refl))
