use Rattle.std.proofs.Common.{◌≤◌, ◌∙◌, ◌+◌, ◌^◌, sym, arith, refl, subst, ℕ}
use Rattle.sv_form.specs.PagePath.{block_numbers}
use Rattle.sv_check.proofs.AddressSteps.{under-all, under-skip, under-take, under-end, walks_address}
use Rattle.sv_check.proofs.WalkSteps.{leads_all, leads_same, leads_on, leads_stop, leads_end, went, stopped}
use Rattle.sv_check.proofs.walk.Walk.walk_inode.Goals as goal

pub loop-k-init : goal.loop-k-init
loop-k-init g c = record {
  content = refl;
  faults = omega arith;
  owners = c.requires.owners;
  leads = leads_same _ _ _ _ _ _ _ _ _ (under-all c.args.sizes.now (g.D.Disk.content c.args.disk.now) c.args.inode.now) (leads_all _ _ _ _ _ _);
}

pub loop-k-preserved-then-address-eq0 : goal.loop-k-preserved-then-address-eq0
loop-k-preserved-then-address-eq0 g c = record {
  content = c.loop-k.invariant.content;
  faults = c.loop-k.invariant.faults;
  owners = c.loop-k.invariant.owners;
  leads = leads_same _ _ _ _ _ _ _ _ _ (under-skip _ _ _ c.loop-k.k c.loop-k-test.true (sym c.number24-address.ensures.value ∙ c.if-address-eq0.true)) c.loop-k.invariant.leads;
}

pub walk_under-requires-clause-pages : goal.walk_under-requires-clause-pages
walk_under-requires-clause-pages g c = λ _ _.
    subst (λ (h : ℕ). c.first_page-page.result + block_numbers c.args.sizes.now ^ h ≤ 2 ^ 25) (sym c.height_of.ensures.height) c.first_page-page.ensures.pages

pub returns-then-not-branch-clause-walks : goal.returns-then-not-branch-clause-walks
returns-then-not-branch-clause-walks g c =
    let walks = walks_address _ _ _ c.args.inode.now _ _ _ _ _ c.loop-k.k _ _ _ _ _ c.loop-k.invariant.content c.number24-address.ensures.value c.first_page-page.ensures.page c.height_of.ensures.height c.number32-size.ensures c.in_ok-walk_under.ensures.walks in
    leads_stop _ _ _ _ _ _ _ _ _ _ _ (under-take _ _ c.args.inode.now c.loop-k.k c.loop-k-test.true (λ e. c.if-address-eq0.false (c.number24-address.ensures.value ∙ e)))
    (stopped _ _ _ _ _ _ _ _ _ c.if-not-branch.true walks) c.loop-k.invariant.leads

pub loop-k-preserved : goal.loop-k-preserved
loop-k-preserved g c =
    let walks = walks_address _ _ _ c.args.inode.now _ _ _ _ _ c.loop-k.k _ _ _ _ _ c.loop-k.invariant.content c.number24-address.ensures.value c.first_page-page.ensures.page c.height_of.ensures.height c.number32-size.ensures c.in_ok-walk_under.ensures.walks in
    record {
      content = c.in_ok-walk_under.ensures.content ∙ c.loop-k.invariant.content;
      faults = omega (arith, c.in_ok-walk_under.ensures.faults, c.loop-k.invariant.faults);
      owners = c.in_ok-walk_under.ensures.owners;
      leads = leads_on _ _ _ _ _ _ _ _ _ _ _ (under-take _ _ c.args.inode.now c.loop-k.k c.loop-k-test.true (λ e. c.if-address-eq0.false (c.number24-address.ensures.value ∙ e)))
          (went _ _ _ _ _ _ _ _ _ c.if-not-branch.false walks) c.loop-k.invariant.leads;
    }

pub returns-clause-walks : goal.returns-clause-walks
returns-clause-walks g c = leads_end _ _ _ _ _ _ _ _ (under-end _ _ _ c.loop-k.k c.loop-k-test.false) c.loop-k.invariant.leads
