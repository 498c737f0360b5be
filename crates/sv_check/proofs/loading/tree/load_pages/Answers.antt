use Rattle.std.proofs.Common.{◌≤◌, ◌∙◌, ◌+◌, ◌^◌, sym, ap, arith, refl, subst, ℕ, List}
use Rattle.std.specs.List.{list_all}
use Rattle.sv_form.specs.PagePath.{block_numbers}
use Rattle.sv_check.specs.Loaded.{is_inside, with_all_reached}
use Rattle.sv_check.specs.Walk.{Reached}
use Rattle.sv_check.proofs.AddressSteps.{under-all, under-skip, under-take, under-end}
use Rattle.sv_check.proofs.LoadsLeft.{address-ascends, calls_same, left_end, left_inside, left_on, left_same, start-is, start-later, under_is}
use Rattle.sv_check.proofs.loading.tree.load_pages.Goals as goal

pub loop-k-init : goal.loop-k-init
loop-k-init g c =
    let whole = under-all c.args.sizes.now (g.D.Disk.content c.args.disk.now) c.args.inode.now in
    record {
      content = refl;
      faults = omega arith;
      left = record {
        there = c.requires.there;
        block = c.requires.block;
        absent = λ j high. c.requires.absent j;
        inside = ap (λ (list : List Reached). list_all (is_inside c.args.sizes.now) list) (sym whole) ∙ c.requires.inside;
        leads = ap (with_all_reached c.args.sizes.now (g.D.Disk.content c.args.disk.now) c.args.n c.args.fs.now) (sym whole);
      };
    }

pub loop-k-preserved-then-address-eq0 : goal.loop-k-preserved-then-address-eq0
loop-k-preserved-then-address-eq0 g c = record {
  content = c.loop-k.invariant.content;
  faults = c.loop-k.invariant.faults;
  left = left_same _ _ _ _ _ _ _ c.loop-k.invariant.left _ _ (under-skip _ _ _ c.loop-k.k c.loop-k-test.true (sym c.number24-address.ensures.value ∙ c.if-address-eq0.true))
      (start-later c.args.sizes.now (g.D.Disk.content c.args.disk.now) c.args.inode.now c.loop-k.k c.loop-k-test.true);
}

pub load_under-requires-clause-inside : goal.load_under-requires-clause-inside
load_under-requires-clause-inside g c = λ _ _.
    ap (λ (list : List Reached). list_all (is_inside c.args.sizes.now) list)
    (under_is c.args.sizes.now (g.D.Disk.content c.args.disk.now) c.args.inode.now _ c.loop-k.k _ _ _ c.loop-k.invariant.content c.number24-address.ensures.value c.first_page-page.ensures.page c.height_of.ensures.height)
    ∙ left_inside _ _ _ _ _ _ _ c.loop-k.invariant.left _ _ (under-take _ _ c.args.inode.now c.loop-k.k c.loop-k-test.true (λ e. c.if-address-eq0.false (c.number24-address.ensures.value ∙ e)))

pub load_under-requires-clause-pages : goal.load_under-requires-clause-pages
load_under-requires-clause-pages g c = λ _ _.
    subst (λ (h : ℕ). c.first_page-page.result + block_numbers c.args.sizes.now ^ h ≤ 2 ^ 25) (sym c.height_of.ensures.height) c.first_page-page.ensures.pages

pub load_under-requires-clause-absent : goal.load_under-requires-clause-absent
load_under-requires-clause-absent g c = λ _ _ j high.
    let is = start-is c.args.sizes.now (g.D.Disk.content c.args.disk.now) c.args.inode.now c.loop-k.k c.loop-k-test.true in
    c.loop-k.invariant.left.absent j (omega (arith, is, c.first_page-page.ensures.page, high))

pub loop-k-preserved : goal.loop-k-preserved
loop-k-preserved g c = record {
  content = c.in_ok-load_under.ensures.content ∙ c.loop-k.invariant.content;
  faults = omega (arith, c.in_ok-load_under.ensures.faults, c.loop-k.invariant.faults);
  left = left_on _ _ _ _ _ _ _ c.loop-k.invariant.left _ _ _ _ (under-take _ _ c.args.inode.now c.loop-k.k c.loop-k-test.true (λ e. c.if-address-eq0.false (c.number24-address.ensures.value ∙ e)))
      (address-ascends c.args.sizes.now (g.D.Disk.content c.args.disk.now) c.args.inode.now c.loop-k.k c.loop-k-test.true)
      (start-later c.args.sizes.now (g.D.Disk.content c.args.disk.now) c.args.inode.now c.loop-k.k c.loop-k-test.true)
      (calls_same _ _ _ _ _ _ _ _ c.loop-k.invariant.content
      (under_is c.args.sizes.now (g.D.Disk.content c.args.disk.now) c.args.inode.now _ c.loop-k.k _ _ _ c.loop-k.invariant.content c.number24-address.ensures.value c.first_page-page.ensures.page c.height_of.ensures.height)
      c.in_ok-load_under.ensures.pages);
}

pub returns-clause-pages : goal.returns-clause-pages
returns-clause-pages g c = left_end _ _ _ _ _ _ _ c.loop-k.invariant.left (under-end _ _ _ c.loop-k.k c.loop-k-test.false)
