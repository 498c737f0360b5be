-- The blocks on the way are held, and each missing one is counted at its first page.
use Rattle.std.proofs.Common.{◌+◌, get_or, ap, ◌∙◌, arith}
use Rattle.std.proofs.lemmas.Result.{IfOk-weaker}
use Rattle.sv_bmap.proofs.Paths.{index-in, top-held, one-held, two-held, held-after, one-along, two-along}
use Rattle.sv_bmap.proofs.Needs.{plus}
use Rattle.sv_bmap.proofs.Runs.{counts-direct, counts-single, counts-double, counts-triple, run-since}
use Rattle.sv_bmap.proofs.pages.need_of_run.Goals as goal

pub run_below-requires-clause-block : goal.run_below-requires-clause-block
run_below-requires-clause-block g c _ _ = λ some. top-held c.requires.tree 10 (omega arith) some

pub child_of-requires-clause-block : goal.child_of-requires-clause-block
child_of-requires-clause-block g c _ _ = λ some. top-held c.requires.tree 11 (omega arith) some

pub run_below-requires-in-Double-clause-block : goal.run_below-requires-in-Double-clause-block
run_below-requires-in-Double-clause-block g c _ _ =
    held-after c.child_of.ensures.stake.home c.child_of.ensures.stake.lines c.in_ok-middle-in-Double.ensures.block
    (λ some. one-held c.requires.tree 11 _ (omega arith) (omega arith)
    (index-in _ _ _ _ c.geometry-sizes.ensures.value c.in-Double.ensures.path.0 c.from-in-Double.ensures) some)

pub two_below-requires-clause-top : goal.two_below-requires-clause-top
two_below-requires-clause-top g c _ _ = λ some. top-held c.requires.tree 12 (omega arith) some

pub two_below-requires-clause-below : goal.two_below-requires-clause-below
two_below-requires-clause-below g c _ _ = λ some.
    one-held c.requires.tree 12 _ (omega arith) (omega arith)
    (index-in _ _ _ _ c.geometry-sizes.ensures.value c.in-Triple.ensures.path.0 c.from-in-Triple.ensures) some

pub run_below-requires-in-Triple-clause-block : goal.run_below-requires-in-Triple-clause-block
run_below-requires-in-Triple-clause-block g c _ _ =
    held-after c.two_below.ensures.stake.home c.two_below.ensures.stake.lines c.in_ok-upper-in-Triple.ensures.second
    (λ some. two-held c.requires.tree 12 _ _ (omega arith) (omega arith)
    (index-in _ _ _ _ c.geometry-sizes.ensures.value c.in-Triple.ensures.path.0 c.from-in-Triple.ensures)
    (index-in _ _ _ _ c.geometry-sizes.ensures.value c.in-Triple.ensures.path.1 c.from-in-Triple-2.ensures) some)

pub returns-in-Direct-clause-run : goal.returns-in-Direct-clause-run
returns-in-Direct-clause-run g c =
    counts-direct (g.S.Stake.origin c.args.s.now).sizes c.geometry-sizes.result (g.S.Stake.held c.args.s.now) c.args.a.now c.args.first
    c.args.page c.args.left c.in-Direct.i (get_or c.args.a.now c.from.result 0) c.missing.result c.geometry-sizes.ensures.value
    c.in-Direct.ensures.path c.in-Direct.ensures.page c.requires.order c.requires.some (ap (λ q. get_or c.args.a.now q 0) c.from.ensures)
    c.missing.ensures.missing c.missing.ensures.few

pub returns-in-Single-clause-run : goal.returns-in-Single-clause-run
returns-in-Single-clause-run g c =
    IfOk-weaker c.run_below.result _ _
    (λ run is.
    counts-single (g.S.Stake.origin c.args.s.now).sizes c.geometry-sizes.result (g.S.Stake.held c.args.s.now) c.args.a.now c.args.first
    c.args.page c.args.left c.in-Single.i c.missing-above.result run.pages run.missing c.geometry-sizes.ensures.value
    c.in-Single.ensures.path c.in-Single.ensures.page c.requires.order (omega (arith, c.missing-above.ensures.few))
    c.missing-above.ensures.missing is) c.run_below.ensures.run

pub returns-in_ok-middle-in-Double-clause-run : goal.returns-in_ok-middle-in-Double-clause-run
returns-in_ok-middle-in-Double-clause-run g c =
    IfOk-weaker c.run_below-in-Double.result _ _
    (λ run is.
    counts-double (g.S.Stake.origin c.args.s.now).sizes c.geometry-sizes.result (g.S.Stake.held c.args.s.now) c.args.a.now c.args.first
    c.args.page c.args.left c.in-Double.i c.in-Double.j c.in_ok-middle-in-Double.middle
    (c.missing-in-Double.result + c.missing-in-Double-2.result) run.pages run.missing c.geometry-sizes.ensures.value
    c.in-Double.ensures.path c.in-Double.ensures.page c.requires.order
    (omega (arith, c.missing-in-Double.ensures.few, c.missing-in-Double-2.ensures.few))
    (c.in_ok-middle-in-Double.ensures.block
    ∙ one-along (g.S.Stake.held c.args.s.now) (get_or c.args.a.now 11 0) c.from-in-Double.ensures)
    (plus c.missing-in-Double.ensures.missing c.missing-in-Double-2.ensures.missing)
    (run-since c.child_of.ensures.stake.home c.child_of.ensures.stake.lines is)) c.run_below-in-Double.ensures.run

pub returns-in_ok-upper-in-Triple-clause-run : goal.returns-in_ok-upper-in-Triple-clause-run
returns-in_ok-upper-in-Triple-clause-run g c =
    IfOk-weaker c.run_below-in-Triple.result _ _
    (λ run is.
    counts-triple (g.S.Stake.origin c.args.s.now).sizes c.geometry-sizes.result (g.S.Stake.held c.args.s.now) c.args.a.now c.args.first
    c.args.page c.args.left c.in-Triple.i c.in-Triple.j c.in-Triple.k c.in_ok-upper-in-Triple.upper c.in_ok-upper-in-Triple.lower
    (c.missing-in-Triple.result + c.missing-in-Triple-2.result + c.missing-in-Triple-3.result) run.pages run.missing
    c.geometry-sizes.ensures.value c.in-Triple.ensures.path c.in-Triple.ensures.page c.requires.order
    (omega (arith, c.missing-in-Triple.ensures.few, c.missing-in-Triple-2.ensures.few, c.missing-in-Triple-3.ensures.few))
    (c.in_ok-upper-in-Triple.ensures.first
    ∙ one-along (g.S.Stake.held c.args.s.now) (get_or c.args.a.now 12 0) c.from-in-Triple.ensures)
    (c.in_ok-upper-in-Triple.ensures.second
    ∙ two-along (g.S.Stake.held c.args.s.now) (get_or c.args.a.now 12 0) c.from-in-Triple.ensures c.from-in-Triple-2.ensures)
    (plus (plus c.missing-in-Triple.ensures.missing c.missing-in-Triple-2.ensures.missing) c.missing-in-Triple-3.ensures.missing)
    (run-since c.two_below.ensures.stake.home c.two_below.ensures.stake.lines is)) c.run_below-in-Triple.ensures.run
