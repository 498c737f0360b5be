-- The entries before the page have another name, and so has the page, or its first one with the name is the directory's.
use Rattle.std.proofs.Common.{◌<◌, ◌+◌, ◌*◌, ◌/◌, ℕ, Option, IfSome, arith, ap, ◌∙◌, subst}
use Rattle.sv_form.specs.Node.{entry_inode}
use Rattle.sv_inode.specs.Names.{Finds, is_at}
use Rattle.sv_inode.proofs.FoundNames.{first-more, found-since, none-more, place-fits}
use Rattle.sv_inode.proofs.PageParts.{page_below}
use Rattle.sv_inode.proofs.PagesHeld.{size_some}
use Rattle.sv_inode.proofs.names.find_entry.Goals as goal

pub overflow_add-result : goal.overflow_add-result
overflow_add-result g c = omega (
  arith,
  place-fits c.geometry-sizes.result.block_size c.args.body.now.size c.loop-page.page c.div_ceil-pages.result
      (c.min-count.result / 16) c.in-Some.place c.geometry-sizes.ensures.sizes.block_size (omega arith) c.div_ceil-pages.ensures
      c.loop-page-test.true (ap (λ q. q / 16) c.min-count.ensures)
      (let P : Option (ℕ × ℕ) → Type 0 = λ x. IfSome x (λ found. found.0 < c.min-count.result / 16) in
      subst P c.in-Some.is c.in_ok-place.ensures.within),
)

pub returns-in-Some-clause-found : goal.returns-in-Some-clause-found
returns-in-Some-clause-found g c = λ node stands.
    first-more (is_at (g.S.Stake.origin c.args.s.now).sizes.block_size node c.args.name.now)
    (entry_inode (g.S.Stake.origin c.args.s.now).sizes.block_size node) c.geometry-sizes.result.block_size c.args.body.now.size
    c.loop-page.page (c.min-count.result / 16) (c.in-Some.place, c.in-Some.inode) c.geometry-sizes.ensures.sizes.block_size
    (omega (arith, below)) (ap (λ q. q / 16) c.min-count.ensures) (c.loop-page.invariant.before node stands)
    (let P : Option (ℕ × ℕ) → Type 0 = λ x. Finds
    (λ j. is_at (g.S.Stake.origin c.args.s.now).sizes.block_size node c.args.name.now (64 * c.loop-page.page + j))
    (λ j. entry_inode (g.S.Stake.origin c.args.s.now).sizes.block_size node (64 * c.loop-page.page + j)) (c.min-count.result / 16) x in
    subst P c.in-Some.is
    (found-since c.loop-page.page (c.min-count.result / 16) c.args.name.now c.in_ok-place.field-0
    c.loop-page.invariant.origin c.loop-page.invariant.held c.in_ok-place.ensures.found node stands))
  where
    below : c.loop-page.page * c.geometry-sizes.result.block_size < c.args.body.now.size
    below = page_below c.args.body.now.size c.geometry-sizes.result.block_size c.div_ceil-pages.result c.loop-page.page
        (size_some _ c.geometry-sizes.ensures.sizes) c.div_ceil-pages.ensures c.loop-page-test.true

pub loop-page-preserved : goal.loop-page-preserved
loop-page-preserved g c = record {
  before = λ node stands.
      none-more (is_at (g.S.Stake.origin c.args.s.now).sizes.block_size node c.args.name.now) c.geometry-sizes.result.block_size
      c.args.body.now.size c.loop-page.page (c.min-count.result / 16) c.geometry-sizes.ensures.sizes.block_size
      (ap (λ q. q / 16) c.min-count.ensures) (c.loop-page.invariant.before node stands)
      (let P : Option (ℕ × ℕ) → Type 0 = λ x. Finds
      (λ j. is_at (g.S.Stake.origin c.args.s.now).sizes.block_size node c.args.name.now (64 * c.loop-page.page + j))
      (λ j. entry_inode (g.S.Stake.origin c.args.s.now).sizes.block_size node (64 * c.loop-page.page + j)) (c.min-count.result / 16) x in
      subst P c.in_default.is
      (found-since c.loop-page.page (c.min-count.result / 16) c.args.name.now c.in_ok-place.field-0
      c.loop-page.invariant.origin c.loop-page.invariant.held c.in_ok-place.ensures.found node stands));
  held = c.find_in_page.ensures.stake.lines ∙ c.loop-page.invariant.held;
  lends = c.find_in_page.ensures.stake.away;
  forced = c.find_in_page.ensures.stake.as_forced ∙ c.loop-page.invariant.forced;
  origin = c.find_in_page.ensures.stake.home ∙ c.loop-page.invariant.origin;
  faults = omega (arith, c.loop-page.invariant.faults, c.find_in_page.ensures.cause.no_less);
}
