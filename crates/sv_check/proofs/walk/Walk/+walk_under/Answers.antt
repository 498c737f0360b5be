use Rattle.std.proofs.Common.{◌≤◌, ◌<◌, ◌∙◌, ◌+◌, ◌-◌, ◌*◌, ◌^◌, ◌==◌, sym, ap, arith, refl, subst, ℕ, List, IfOk, length}
use Rattle.sv_form.specs.PagePath.{block_numbers}
use Rattle.sv_check.specs.Progress.{Walks, StopsAt, progress_of}
use Rattle.sv_check.specs.Walk.{Reached, filled}
use Rattle.sv_check.proofs.WalkSteps.{walks_new, walks_bad, progress_new, or_same, LeadsTo, leads_first, leads_same, leads_on, leads_stop, leads_end, below_from, below-all, below-page, below-skip, below-take, below-end, child_pages, number_at, past-indirect, tail-indirect, pages-indirect, walks_at, went, stopped}
use Rattle.sv_check.proofs.walk.Walk.+walk_under.Goals as goal

pub returns-then-height-eq0-clause-walks : goal.returns-then-height-eq0-clause-walks
returns-then-height-eq0-clause-walks g t c =
    subst (λ (list : List Reached). IfOk c.walk_page.result (λ ok. Walks c.args.sizes.now (g.D.Disk.content c.args.disk.now) c.args.n c.args.size (progress_of c.args.self.now) list ok
    c.walk_page.new.self.bad (progress_of c.walk_page.new.self)))
    (sym (below-page c.args.sizes.now (g.D.Disk.content c.args.disk.now) c.args.page c.args.b c.args.height c.if-height-eq0.true)) c.walk_page.ensures.walks

pub returns-then-not-take-clause-walks : goal.returns-then-not-take-clause-walks
returns-then-not-take-clause-walks g t c =
    subst (λ (list : List Reached). StopsAt c.args.sizes.now c.args.n (progress_of c.args.self.now) list c.take.new.self.bad)
    (sym (below-all c.args.sizes.now (g.D.Disk.content c.args.disk.now) c.args.page c.args.b c.args.height c.if-height-eq0.false))
    (walks_bad _ (g.D.Disk.content c.args.disk.now) _ c.args.size _ (record { height = c.args.height; page = c.args.page; block = c.args.b }) _ _ (sym c.if-not-take.ensures.result)
    c.if-not-take.ensures.bad)

pub loop-k-init : goal.loop-k-init
loop-k-init g t c =
    let empty =
    c.is_empty_indirect.ensures
    ∙ ap (λ (bytes : List ℕ). length (filled c.args.sizes.now bytes) == 0) (c.deref.ensures.value ∙ c.in_ok-block.ensures.bytes)
    ∙ past-indirect c.args.sizes.now (g.D.Disk.content c.args.disk.now) c.args.size c.args.height c.args.page c.args.b c.if-height-eq0.false in
    record {
      content = c.in_ok-block.ensures.content;
      faults = c.in_ok-block.ensures.faults;
      owners = ap (λ v. length v.items) c.note.ensures.owner ∙ c.take.ensures.owners;
      leads = subst (λ (list : List Reached). LeadsTo c.args.sizes.now (g.D.Disk.content c.args.disk.now) c.args.n c.args.size (progress_of c.args.self.now) list (progress_of c.note.new.self)
          (below_from c.args.sizes.now (g.D.Disk.content c.args.disk.now) c.args.page c.args.b (c.args.height - 1) 0))
          (sym (below-all c.args.sizes.now (g.D.Disk.content c.args.disk.now) c.args.page c.args.b c.args.height c.if-height-eq0.false))
          (leads_first _ _ _ _ _ _ _ _
          (walks_new _ (g.D.Disk.content c.args.disk.now) _ c.args.size _ _ (record { height = c.args.height; page = c.args.page; block = c.args.b }) c.requires.number
          (sym c.if-not-take.ensures.result)
          (progress_new c.args.self.now c.note.new.self _ _ _ _ _ (omega (arith, c.if-not-take.ensures.in_range, c.requires.owners))
          (ap (λ v. v.items) c.note.ensures.owner ∙ c.if-not-take.ensures.owner) (or_same _ _ _ _ _ c.note.ensures.past c.take.ensures.past empty)
          (or_same _ _ _ _ _ c.note.ensures.tail c.take.ensures.tail
          (tail-indirect c.args.sizes.now (g.D.Disk.content c.args.disk.now) c.args.size c.args.height c.args.page c.args.b c.if-height-eq0.false))
          (pages-indirect c.args.sizes.now (g.D.Disk.content c.args.disk.now) c.args.size c.args.height c.args.page c.args.b c.if-height-eq0.false _ _ (ap (λ v. v.items) (c.note.ensures.pages ∙ c.take.ensures.pages))))));
    }

pub loop-k-preserved-then-number-eq0 : goal.loop-k-preserved-then-number-eq0
loop-k-preserved-then-number-eq0 g t c =
    let inside : c.loop-k.k < block_numbers c.args.sizes.now = omega (arith, c.loop-k-test.true, c.block_numbers-k-end.ensures) in
    let number = number_at _ _ _ c.loop-k.k _ c.number32-number.ensures c.deref-in-loop-k.ensures.value c.in_ok-block.ensures.bytes in
    record {
      content = c.loop-k.invariant.content;
      faults = c.loop-k.invariant.faults;
      owners = c.loop-k.invariant.owners;
      leads = leads_same _ _ _ _ _ _ _ _ _ (below-skip _ _ c.args.page c.args.b (c.args.height - 1) c.loop-k.k inside (sym number ∙ c.if-number-eq0.true)) c.loop-k.invariant.leads;
    }

pub overflow_mul-first : goal.overflow_mul-first
overflow_mul-first g t c =
    let inside : c.loop-k.k < block_numbers c.args.sizes.now = omega (arith, c.loop-k-test.true, c.block_numbers-k-end.ensures) in
    let fits : c.args.page + c.loop-k.k * c.span-span.result + c.span-span.result ≤ 2 ^ 25 =
    child_pages _ c.args.height _ _ _ c.if-height-eq0.false c.span-span.ensures.span inside c.requires.pages in
    omega (arith, fits)

pub overflow_add-first : goal.overflow_add-first
overflow_add-first g t c =
    let inside : c.loop-k.k < block_numbers c.args.sizes.now = omega (arith, c.loop-k-test.true, c.block_numbers-k-end.ensures) in
    let fits : c.args.page + c.loop-k.k * c.span-span.result + c.span-span.result ≤ 2 ^ 25 =
    child_pages _ c.args.height _ _ _ c.if-height-eq0.false c.span-span.ensures.span inside c.requires.pages in
    omega (arith, fits)

pub walk_under-requires-clause-pages : goal.walk_under-requires-clause-pages
walk_under-requires-clause-pages g t c = λ _ _.
    let inside : c.loop-k.k < block_numbers c.args.sizes.now = omega (arith, c.loop-k-test.true, c.block_numbers-k-end.ensures) in
    let fits : c.args.page + c.loop-k.k * c.span-span.result + c.span-span.result ≤ 2 ^ 25 =
    child_pages _ c.args.height _ _ _ c.if-height-eq0.false c.span-span.ensures.span inside c.requires.pages in
    subst (λ (s : ℕ). c.args.page + c.loop-k.k * c.span-span.result + s ≤ 2 ^ 25) c.span-span.ensures.span fits

pub returns-then-not-branch-clause-walks : goal.returns-then-not-branch-clause-walks
returns-then-not-branch-clause-walks g t c =
    let inside : c.loop-k.k < block_numbers c.args.sizes.now = omega (arith, c.loop-k-test.true, c.block_numbers-k-end.ensures) in
    let number = number_at _ _ _ c.loop-k.k _ c.number32-number.ensures c.deref-in-loop-k.ensures.value c.in_ok-block.ensures.bytes in
    let walks = walks_at _ _ _ _ _ _ _ c.args.page c.args.b (c.args.height - 1) c.loop-k.k _ _ _ _ _ c.loop-k.invariant.content number refl c.span-span.ensures.span c.in_ok-walk_under.ensures.walks in
    leads_stop _ _ _ _ _ _ _ _ _ _ _ (below-take _ _ c.args.page c.args.b (c.args.height - 1) c.loop-k.k inside (λ e. c.if-number-eq0.false (number ∙ e)))
    (stopped _ _ _ _ _ _ _ _ _ c.if-not-branch.true walks) c.loop-k.invariant.leads

pub loop-k-preserved : goal.loop-k-preserved
loop-k-preserved g t c =
    let inside : c.loop-k.k < block_numbers c.args.sizes.now = omega (arith, c.loop-k-test.true, c.block_numbers-k-end.ensures) in
    let number = number_at _ _ _ c.loop-k.k _ c.number32-number.ensures c.deref-in-loop-k.ensures.value c.in_ok-block.ensures.bytes in
    let walks = walks_at _ _ _ _ _ _ _ c.args.page c.args.b (c.args.height - 1) c.loop-k.k _ _ _ _ _ c.loop-k.invariant.content number refl c.span-span.ensures.span c.in_ok-walk_under.ensures.walks in
    record {
      content = c.in_ok-walk_under.ensures.content ∙ c.loop-k.invariant.content;
      faults = omega (arith, c.in_ok-walk_under.ensures.faults, c.loop-k.invariant.faults);
      owners = c.in_ok-walk_under.ensures.owners;
      leads = leads_on _ _ _ _ _ _ _ _ _ _ _ (below-take _ _ c.args.page c.args.b (c.args.height - 1) c.loop-k.k inside (λ e. c.if-number-eq0.false (number ∙ e)))
          (went _ _ _ _ _ _ _ _ _ c.if-not-branch.false walks) c.loop-k.invariant.leads;
    }

pub returns-clause-walks : goal.returns-clause-walks
returns-clause-walks g t c =
    leads_end _ _ _ _ _ _ _ _ (below-end _ _ c.args.page c.args.b (c.args.height - 1) c.loop-k.k (omega (arith, c.loop-k-test.false, c.block_numbers-k-end.ensures))) c.loop-k.invariant.leads
