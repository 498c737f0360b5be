-- Each path leads to the block of its page, and the blocks on the way are held.
use Rattle.std.proofs.Common.{◌≡◌, Result, IfOk, get_or, sym, ap, ◌∙◌, subst, arith}
use Rattle.sv_form.specs.declared.page_path.PagePath.TheVariants.{Direct, Single, Double, Triple}
use Rattle.sv_bmap.specs.Tree.{child}
use Rattle.sv_bmap.proofs.Paths.{index-in, page-block-is, top-held, one-held, two-held, three-along}
use Rattle.sv_bmap.proofs.pages.block_of.Goals as goal

along : {T E : Type 0} (r : Result T E) (P : T → T → Type 0) (x y : T) → x ≡ y → IfOk r (λ b. P b x) → IfOk r (λ b. P b y)
along {T} r P x y e h = let Q : T → Type 0 = λ q. IfOk r (λ b. P b q) in subst Q e h

pub child_of-requires-clause-block : goal.child_of-requires-clause-block
child_of-requires-clause-block g c _ _ = λ some. top-held c.requires.tree 10 (omega arith) some

pub child_of-requires-clause-place : goal.child_of-requires-clause-place
child_of-requires-clause-place g c _ _ = index-in _ _ _ _ c.geometry-sizes.ensures.value c.in-Single.ensures.path c.from-in-Single.ensures

pub two_below-requires-clause-top : goal.two_below-requires-clause-top
two_below-requires-clause-top g c _ _ = λ some. top-held c.requires.tree 11 (omega arith) some

pub two_below-requires-clause-below : goal.two_below-requires-clause-below
two_below-requires-clause-below g c _ _ = λ some.
    one-held c.requires.tree 11 _ (omega arith) (omega arith)
    (index-in _ _ _ _ c.geometry-sizes.ensures.value c.in-Double.ensures.path.0 c.from-in-Double.ensures) some

pub three_below-requires-clause-top : goal.three_below-requires-clause-top
three_below-requires-clause-top g c _ _ = λ some. top-held c.requires.tree 12 (omega arith) some

pub three_below-requires-clause-middle : goal.three_below-requires-clause-middle
three_below-requires-clause-middle g c _ _ = λ some.
    one-held c.requires.tree 12 _ (omega arith) (omega arith)
    (index-in _ _ _ _ c.geometry-sizes.ensures.value c.in-Triple.ensures.path.0 c.from-i.ensures) some

pub three_below-requires-clause-below : goal.three_below-requires-clause-below
three_below-requires-clause-below g c _ _ = λ some.
    two-held c.requires.tree 12 _ _ (omega arith) (omega arith)
    (index-in _ _ _ _ c.geometry-sizes.ensures.value c.in-Triple.ensures.path.0 c.from-i.ensures)
    (index-in _ _ _ _ c.geometry-sizes.ensures.value c.in-Triple.ensures.path.1 c.from-j.ensures) some

pub returns-in-Direct-clause-block : goal.returns-in-Direct-clause-block
returns-in-Direct-clause-block g c =
    ap (λ q. get_or c.args.a.now q 0) c.from.ensures
    ∙ sym (page-block-is _ _ (g.S.Stake.held c.args.s.now) c.args.a.now (Direct c.in-Direct.i) c.args.page c.geometry-sizes.ensures.value
    c.in-Direct.ensures.path c.in-Direct.ensures.page)

pub returns-in-Single-clause-block : goal.returns-in-Single-clause-block
returns-in-Single-clause-block g c =
    along c.child_of.result (λ x y. x ≡ y) _ _
    (ap (child (g.S.Stake.held c.args.s.now) (get_or c.args.a.now 10 0)) c.from-in-Single.ensures
    ∙ sym (page-block-is _ _ (g.S.Stake.held c.args.s.now) c.args.a.now (Single c.in-Single.i) c.args.page c.geometry-sizes.ensures.value
    c.in-Single.ensures.path c.in-Single.ensures.page))
    c.child_of.ensures.block

pub returns-in_ok-block-in-Double-clause-block : goal.returns-in_ok-block-in-Double-clause-block
returns-in_ok-block-in-Double-clause-block g c =
    c.in_ok-block-in-Double.ensures.second
    ∙ (ap (λ q. child (g.S.Stake.held c.args.s.now) (child (g.S.Stake.held c.args.s.now) (get_or c.args.a.now 11 0) q)
    c.from-in-Double-2.result) c.from-in-Double.ensures
    ∙ (ap (child (g.S.Stake.held c.args.s.now) (child (g.S.Stake.held c.args.s.now) (get_or c.args.a.now 11 0) c.in-Double.i))
    c.from-in-Double-2.ensures
    ∙ sym (page-block-is _ _ (g.S.Stake.held c.args.s.now) c.args.a.now (Double c.in-Double.i c.in-Double.j) c.args.page
    c.geometry-sizes.ensures.value c.in-Double.ensures.path c.in-Double.ensures.page)))

pub returns-in_ok-block-in-Triple-clause-block : goal.returns-in_ok-block-in-Triple-clause-block
returns-in_ok-block-in-Triple-clause-block g c =
    c.in_ok-block-in-Triple.ensures.third
    ∙ (three-along (g.S.Stake.held c.args.s.now) (get_or c.args.a.now 12 0) c.from-i.ensures c.from-j.ensures c.from-k.ensures
    ∙ sym (page-block-is _ _ (g.S.Stake.held c.args.s.now) c.args.a.now (Triple c.in-Triple.i c.in-Triple.j c.in-Triple.k) c.args.page
    c.geometry-sizes.ensures.value c.in-Triple.ensures.path c.in-Triple.ensures.page))
