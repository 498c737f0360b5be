use Rattle.std.proofs.Common.{◌≡◌, ◌≤◌, ◌<◌, ◌∙◌, ◌+◌, ◌*◌, ◌^◌, ◌-◌, sym, ap, arith, refl, subst, ℕ, List}
use Rattle.std.specs.List.{list_all}
use Rattle.sv_form.specs.PagePath.{block_numbers}
use Rattle.sv_check.specs.Loaded.{is_inside}
use Rattle.sv_check.specs.Walk.{Reached}
use Rattle.sv_check.proofs.LoadsLeft.{below-ascends, below-later, below_is, calls_same, first_inside, left_end, left_first, left_inside, left_on, left_same, one_page}
use Rattle.sv_check.proofs.WalkSteps.{below-skip, below-take, below-end, child_pages, number_at}
use Rattle.sv_check.proofs.loading.tree.+load_under.Goals as goal

pub block_of_disk-requires-clause-number : goal.block_of_disk-requires-clause-number
block_of_disk-requires-clause-number g t c = λ _ _. first_inside c.args.sizes.now (g.D.Disk.content c.args.disk.now) c.args.page c.args.b c.args.height c.requires.inside

pub returns-then-height-eq0-clause-pages : goal.returns-then-height-eq0-clause-pages
returns-then-height-eq0-clause-pages g t c =
    one_page c.args.sizes.now (g.D.Disk.content c.args.disk.now) c.args.page c.args.b c.args.n c.args.fs.now _ _ c.args.height c.if-height-eq0.true
    (c.from_vec.ensures ∙ c.in_ok-block.ensures.bytes) c.in_ok-put_page.ensures.added

pub loop-k-init : goal.loop-k-init
loop-k-init g t c = record {
  content = c.in_ok-block.ensures.content;
  faults = c.in_ok-block.ensures.faults;
  left = left_first c.args.sizes.now (g.D.Disk.content c.args.disk.now) c.args.page c.args.b c.args.n c.args.fs.now c.args.height c.if-height-eq0.false c.requires.there c.requires.block c.requires.absent
      c.requires.inside;
}

pub loop-k-preserved-then-number-eq0 : goal.loop-k-preserved-then-number-eq0
loop-k-preserved-then-number-eq0 g t c =
    let inside : c.loop-k.k < block_numbers c.args.sizes.now = omega (arith, c.loop-k-test.true, c.block_numbers-k-end.ensures) in
    let number = number_at _ _ _ c.loop-k.k _ c.number32-number.ensures c.deref.ensures.value c.in_ok-block.ensures.bytes in
    record {
      content = c.loop-k.invariant.content;
      faults = c.loop-k.invariant.faults;
      left = left_same _ _ _ _ _ _ _ c.loop-k.invariant.left _ _ (below-skip _ _ c.args.page c.args.b (c.args.height - 1) c.loop-k.k inside (sym number ∙ c.if-number-eq0.true))
          (below-later c.args.sizes.now (g.D.Disk.content c.args.disk.now) c.args.page c.args.b (c.args.height - 1) c.loop-k.k);
    }

pub overflow_mul-first : goal.overflow_mul-first
overflow_mul-first g t c =
    let inside : c.loop-k.k < block_numbers c.args.sizes.now = omega (arith, c.loop-k-test.true, c.block_numbers-k-end.ensures) in
    let fits : c.args.page + c.loop-k.k * c.span-span.result + c.span-span.result ≤ 2 ^ 25 =
    child_pages _ c.args.height _ _ _ c.if-height-eq0.false c.span-span.ensures.span inside c.requires.pages in
    omega (arith, fits)

pub overflow_add-first : goal.overflow_add-first
overflow_add-first g t c =
    let inside : c.loop-k.k < block_numbers c.args.sizes.now = omega (arith, c.loop-k-test.true, c.block_numbers-k-end.ensures) in
    let fits : c.args.page + c.loop-k.k * c.span-span.result + c.span-span.result ≤ 2 ^ 25 =
    child_pages _ c.args.height _ _ _ c.if-height-eq0.false c.span-span.ensures.span inside c.requires.pages in
    omega (arith, fits)

pub load_under-requires-clause-inside : goal.load_under-requires-clause-inside
load_under-requires-clause-inside g t c = λ _ _.
    let inside : c.loop-k.k < block_numbers c.args.sizes.now = omega (arith, c.loop-k-test.true, c.block_numbers-k-end.ensures) in
    let number = number_at _ _ _ c.loop-k.k _ c.number32-number.ensures c.deref.ensures.value c.in_ok-block.ensures.bytes in
    ap (λ (list : List Reached). list_all (is_inside c.args.sizes.now) list)
    (below_is c.args.sizes.now (g.D.Disk.content c.args.disk.now) c.args.page c.args.b _ (c.args.height - 1) c.loop-k.k _ _ _ c.loop-k.invariant.content number refl c.span-span.ensures.span)
    ∙ left_inside _ _ _ _ _ _ _ c.loop-k.invariant.left _ _ (below-take _ _ c.args.page c.args.b (c.args.height - 1) c.loop-k.k inside (λ e. c.if-number-eq0.false (number ∙ e)))

pub load_under-requires-clause-pages : goal.load_under-requires-clause-pages
load_under-requires-clause-pages g t c = λ _ _.
    let inside : c.loop-k.k < block_numbers c.args.sizes.now = omega (arith, c.loop-k-test.true, c.block_numbers-k-end.ensures) in
    let fits : c.args.page + c.loop-k.k * c.span-span.result + c.span-span.result ≤ 2 ^ 25 =
    child_pages _ c.args.height _ _ _ c.if-height-eq0.false c.span-span.ensures.span inside c.requires.pages in
    subst (λ (s : ℕ). c.args.page + c.loop-k.k * c.span-span.result + s ≤ 2 ^ 25) c.span-span.ensures.span fits

pub load_under-requires-clause-absent : goal.load_under-requires-clause-absent
load_under-requires-clause-absent g t c = λ _ _ j high.
    let first : c.args.page + c.loop-k.k * c.span-span.result ≡ c.args.page + c.loop-k.k * block_numbers c.args.sizes.now ^ (c.args.height - 1) =
    ap (λ (s : ℕ). c.args.page + c.loop-k.k * s) c.span-span.ensures.span in
    c.loop-k.invariant.left.absent j (omega (arith, first, high))

pub loop-k-preserved : goal.loop-k-preserved
loop-k-preserved g t c =
    let inside : c.loop-k.k < block_numbers c.args.sizes.now = omega (arith, c.loop-k-test.true, c.block_numbers-k-end.ensures) in
    let number = number_at _ _ _ c.loop-k.k _ c.number32-number.ensures c.deref.ensures.value c.in_ok-block.ensures.bytes in
    record {
      content = c.in_ok-load_under.ensures.content ∙ c.loop-k.invariant.content;
      faults = omega (arith, c.in_ok-load_under.ensures.faults, c.loop-k.invariant.faults);
      left = left_on _ _ _ _ _ _ _ c.loop-k.invariant.left _ _ _ _ (below-take _ _ c.args.page c.args.b (c.args.height - 1) c.loop-k.k inside (λ e. c.if-number-eq0.false (number ∙ e)))
          (below-ascends c.args.sizes.now (g.D.Disk.content c.args.disk.now) c.args.page c.args.b (c.args.height - 1) c.loop-k.k)
          (below-later c.args.sizes.now (g.D.Disk.content c.args.disk.now) c.args.page c.args.b (c.args.height - 1) c.loop-k.k)
          (calls_same _ _ _ _ _ _ _ _ c.loop-k.invariant.content
          (below_is c.args.sizes.now (g.D.Disk.content c.args.disk.now) c.args.page c.args.b _ (c.args.height - 1) c.loop-k.k _ _ _ c.loop-k.invariant.content number refl c.span-span.ensures.span)
          c.in_ok-load_under.ensures.pages);
    }

pub returns-clause-pages : goal.returns-clause-pages
returns-clause-pages g t c =
    left_end _ _ _ _ _ _ _ c.loop-k.invariant.left (below-end _ _ c.args.page c.args.b (c.args.height - 1) c.loop-k.k (omega (arith, c.loop-k-test.false, c.block_numbers-k-end.ensures)))
