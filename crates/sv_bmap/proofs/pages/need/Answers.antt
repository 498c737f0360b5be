-- Each run adds what its pages count.
use Rattle.std.proofs.Common.{◌+◌, ◌-◌, ◌<◌, ◌^◌, sym, ◌∙◌, ap, refl, subst, arith}
use Rattle.sv_form.specs.Geometry.{IsGeometry}
use Rattle.sv_form.specs.PagePath.{IsPage}
use Rattle.sv_form.specs.declared.geometry.Geometry.{Geometry}
use Rattle.sv_store.specs.Held.{Origin}
use Rattle.sv_bmap.specs.Need.{need_of}
use Rattle.sv_bmap.proofs.Needs.{plus, need-none, tree-after}
use Rattle.sv_bmap.proofs.Runs.{counts-since, need-run, sum-fits}
use Rattle.sv_bmap.proofs.pages.need.Goals as goal

pub loop-done-init : goal.loop-done-init
loop-done-init g c = record {
  missing = need-none (g.S.Stake.origin c.args.s.now).sizes (g.S.Stake.held c.args.s.now) c.args.a.now c.args.first;
  few = omega arith;
  within = omega arith;
  held = refl;
  lends = c.requires.lent;
  forced = refl;
  origin = refl;
  faults = omega arith;
}

pub need_of_run-requires-clause-tree : goal.need_of_run-requires-clause-tree
need_of_run-requires-clause-tree g c _ _ = tree-after c.loop-done.invariant.origin c.loop-done.invariant.held c.requires.tree

pub need_of_run-requires-clause-page : goal.need_of_run-requires-clause-page
need_of_run-requires-clause-page g c _ _ =
    let P : Origin → Type 0 = λ o. IsPage o.sizes (c.args.first + c.loop-done.done) in
    subst P (sym c.loop-done.invariant.origin) (c.requires.pages c.loop-done.done c.loop-done-test.true)

pub overflow_add-missing : goal.overflow_add-missing
overflow_add-missing g c =
    let fits : c.loop-done.missing + c.in_ok-run.run'.missing < 2 ^ 32 =
    sum-fits (g.S.Stake.origin c.args.s.now).sizes
    (let P : Geometry → Type 0 = IsGeometry in subst P c.geometry-sizes.ensures.value c.geometry-sizes.ensures.sizes) c.args.first
    c.loop-done.done c.in_ok-run.run'.pages c.loop-done.missing c.in_ok-run.run'.missing
    (c.requires.pages (c.loop-done.done + c.in_ok-run.run'.pages - 1)
    (omega (arith, c.in_ok-run.ensures.run.some, c.in_ok-run.ensures.run.most, c.loop-done-test.true))) c.in_ok-run.ensures.run.some
    c.loop-done.invariant.few c.in_ok-run.ensures.run.few in
    omega (arith, fits)

pub loop-done-preserved : goal.loop-done-preserved
loop-done-preserved g c = record {
  missing =
      plus c.loop-done.invariant.missing
      (counts-since c.loop-done.invariant.origin c.loop-done.invariant.held c.in_ok-run.ensures.run).counted
      ∙ sym (need-run (g.S.Stake.origin c.args.s.now).sizes (g.S.Stake.held c.args.s.now) c.args.a.now c.args.first c.loop-done.done
      c.in_ok-run.run'.pages);
  few = omega (arith, c.loop-done.invariant.few, c.in_ok-run.ensures.run.few);
  within = omega (arith, c.in_ok-run.ensures.run.most, c.loop-done-test.true);
  held = c.need_of_run.ensures.stake.lines ∙ c.loop-done.invariant.held;
  lends = c.need_of_run.ensures.stake.away;
  forced = c.need_of_run.ensures.stake.as_forced ∙ c.loop-done.invariant.forced;
  origin = c.need_of_run.ensures.stake.home ∙ c.loop-done.invariant.origin;
  faults = omega (arith, c.loop-done.invariant.faults, c.need_of_run.ensures.cause.no_less);
}

pub loop-done-smaller : goal.loop-done-smaller
loop-done-smaller g c = omega (arith, c.in_ok-run.ensures.run.some, c.in_ok-run.ensures.run.most, c.loop-done-test.true)

pub returns-clause-need : goal.returns-clause-need
returns-clause-need g c =
    c.loop-done.invariant.missing
    ∙ ap (need_of (g.S.Stake.origin c.args.s.now).sizes (g.S.Stake.held c.args.s.now) c.args.a.now c.args.first)
    (omega (arith, c.loop-done.invariant.within, c.loop-done-test.false))
