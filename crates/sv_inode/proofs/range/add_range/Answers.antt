-- Each page adds its part, and the next page that is present is known when it is read.
use Rattle.std.proofs.Common.{◌≡◌, ◌<◌, ◌+◌, ◌-◌, ◌*◌, ◌++◌, ℕ, Option, arith, refl, ap, subst, ◌∙◌}
use Rattle.sv_form.specs.Geometry.{IsGeometry}
use Rattle.sv_form.specs.PagePath.{IsPage}
use Rattle.sv_form.specs.declared.geometry.Geometry.{Geometry}
use Rattle.sv_store.specs.Held.{Held}
use Rattle.sv_inode.specs.Contents.{ahead_block, block_of, block_there, part_bytes}
use Rattle.sv_inode.proofs.PageParts.{file_bytes_first, file_bytes_more, page_below, page_over}
use Rattle.sv_inode.proofs.PagesHeld.{block_held, is_page, present_after, present_held, range_after, size_some, some_after, there_is}
use Rattle.sv_inode.proofs.range.add_range.Goals as goal

pub loop-page-init : goal.loop-page-init
loop-page-init g c = record {
  bytes = c.requires.bytes
      ∙ file_bytes_first c.geometry-sizes.result (g.S.Stake.held c.args.s.now) c.args.a.now c.args.at (c.args.at + c.args.count) _
      (size_some _ c.geometry-sizes.ensures.sizes) refl;
  ahead = c.in_ok-ahead.ensures.ahead
      ∙ present_after {o = g.S.Stake.origin c.args.s.now} c.geometry-sizes.result c.args.a.now _ c.div_ceil-pages.result
      c.geometry-sizes.ensures.value refl refl;
  first = omega arith;
  held = c.look_ahead.ensures.stake.lines;
  lends = c.look_ahead.ensures.stake.away;
  forced = c.look_ahead.ensures.stake.as_forced;
  origin = c.look_ahead.ensures.stake.home;
  faults = c.look_ahead.ensures.cause.no_less;
}

pub add_part-requires-clause-block : goal.add_part-requires-clause-block
add_part-requires-clause-block g c _ _ =
    some_after c.block_at-block.result
    (block_of (g.S.Stake.origin c.args.s.now).sizes (g.S.Stake.held c.args.s.now) c.args.a.now c.loop-page.page)
    (c.look_past.ensures.stake.home ∙ c.loop-page.invariant.origin) (c.look_past.ensures.stake.lines ∙ c.loop-page.invariant.held)
    (c.block_at-block.ensures
    ∙ (ap (block_there c.loop-page.page) c.loop-page.invariant.ahead
    ∙ (there_is c.geometry-sizes.result (g.S.Stake.held c.args.s.now) c.args.a.now c.loop-page.page c.div_ceil-pages.result
    c.loop-page-test.true
    ∙ ap (λ z. block_of z (g.S.Stake.held c.args.s.now) c.args.a.now c.loop-page.page) c.geometry-sizes.ensures.value)))
    (block_held (g.S.Stake.origin c.args.s.now) (g.S.Stake.held c.args.s.now) c.args.a.now c.loop-page.page c.requires.tree
    (let G : Geometry → Type 0 = λ z. IsGeometry z in subst G c.geometry-sizes.ensures.value c.geometry-sizes.ensures.sizes)
    (within c.loop-page.page c.loop-page-test.true))
  where
    within : (page : ℕ) → page < c.div_ceil-pages.result → IsPage (g.S.Stake.origin c.args.s.now).sizes page
    within page low = (let P : Geometry → Type 0 = λ z. IsPage z page in
        subst P c.geometry-sizes.ensures.value
        (is_page c.geometry-sizes.result (g.S.Stake.origin c.args.s.now).sizes (c.args.at + c.args.count) c.div_ceil-pages.result page
        c.geometry-sizes.ensures.value (size_some _ c.geometry-sizes.ensures.sizes) c.div_ceil-pages.ensures c.requires.end low))

pub add_part-requires-clause-next : goal.add_part-requires-clause-next
add_part-requires-clause-next g c _ _ =
    range_after c.geometry-sizes.result c.block_of.result c.geometry-sizes.ensures.value c.geometry-sizes.ensures.sizes
    c.geometry-sizes.ensures.range (c.look_past.ensures.stake.home ∙ c.loop-page.invariant.origin)
    (some_after {o = g.S.Stake.origin c.args.s.now} {h = g.S.Stake.held c.args.s.now} c.block_of.result _ refl refl
    (c.block_of.ensures ∙ ap ahead_block
    (c.in_ok-next.ensures.ahead
    ∙ present_after {o = g.S.Stake.origin c.args.s.now} (g.S.Stake.origin c.args.s.now).sizes c.args.a.now
    (c.loop-page.page + 1) c.div_ceil-pages.result refl c.loop-page.invariant.origin c.loop-page.invariant.held))
    (present_held (g.S.Stake.origin c.args.s.now) (g.S.Stake.held c.args.s.now) c.args.a.now (c.loop-page.page + 1) c.div_ceil-pages.result
    c.requires.tree (let G : Geometry
    → Type 0 = λ z. IsGeometry z in subst G c.geometry-sizes.ensures.value c.geometry-sizes.ensures.sizes) within))
  where
    within : (page : ℕ) → page < c.div_ceil-pages.result → IsPage (g.S.Stake.origin c.args.s.now).sizes page
    within page low = (let P : Geometry → Type 0 = λ z. IsPage z page in
        subst P c.geometry-sizes.ensures.value
        (is_page c.geometry-sizes.result (g.S.Stake.origin c.args.s.now).sizes (c.args.at + c.args.count) c.div_ceil-pages.result page
        c.geometry-sizes.ensures.value (size_some _ c.geometry-sizes.ensures.sizes) c.div_ceil-pages.ensures c.requires.end low))

pub loop-page-preserved : goal.loop-page-preserved
loop-page-preserved g c = record {
  bytes =
      file_bytes_more c.geometry-sizes.result (g.S.Stake.held c.args.s.now) c.args.a.now c.args.at
      (c.args.at + c.args.count) c.loop-page.page (c.max.result - c.loop-page.page * c.geometry-sizes.result.block_size)
      c.min-upto.result
      (page_below (c.args.at + c.args.count) c.geometry-sizes.result.block_size c.div_ceil-pages.result c.loop-page.page pos
      c.div_ceil-pages.ensures c.loop-page-test.true)
      (page_over c.args.at c.geometry-sizes.result.block_size _ c.loop-page.page pos refl c.loop-page.invariant.first)
      (omega (arith, c.requires.some))
      (ap (λ q. q - c.loop-page.page * c.geometry-sizes.result.block_size) c.max.ensures) c.min-upto.ensures c.loop-page.bytes.items
      c.add_part.new.bytes.items c.loop-page.invariant.bytes
      (c.in_ok-add_part.ensures.bytes
      ∙ ap (λ q. c.loop-page.bytes.items ++ q)
      (ap (λ (h : Held). part_bytes h c.block_at-block.result (c.max.result - c.loop-page.page * c.geometry-sizes.result.block_size)
      (c.min-upto.result - (c.max.result - c.loop-page.page * c.geometry-sizes.result.block_size))) same_held
      ∙ ap (λ (x : Option ℕ). part_bytes (g.S.Stake.held c.args.s.now) x
      (c.max.result - c.loop-page.page * c.geometry-sizes.result.block_size)
      (c.min-upto.result - (c.max.result - c.loop-page.page * c.geometry-sizes.result.block_size)))
      (c.block_at-block.ensures
      ∙ (ap (block_there c.loop-page.page) c.loop-page.invariant.ahead
      ∙ there_is c.geometry-sizes.result (g.S.Stake.held c.args.s.now) c.args.a.now c.loop-page.page c.div_ceil-pages.result
      c.loop-page-test.true))));
  ahead = c.in_ok-next.ensures.ahead
      ∙ present_after {o = g.S.Stake.origin c.args.s.now} c.geometry-sizes.result c.args.a.now
      (c.loop-page.page + 1) c.div_ceil-pages.result c.geometry-sizes.ensures.value c.loop-page.invariant.origin c.loop-page.invariant.held;
  first = omega (arith, c.loop-page.invariant.first);
  held = c.add_part.ensures.stake.lines ∙ same_held;
  lends = c.add_part.ensures.stake.away;
  forced = c.add_part.ensures.stake.as_forced ∙ (c.look_past.ensures.stake.as_forced ∙ c.loop-page.invariant.forced);
  origin = c.add_part.ensures.stake.home ∙ (c.look_past.ensures.stake.home ∙ c.loop-page.invariant.origin);
  faults = omega (arith, c.loop-page.invariant.faults, c.look_past.ensures.cause.no_less, c.add_part.ensures.cause.no_less);
}
  where
    pos : 0 < c.geometry-sizes.result.block_size
    pos = size_some _ c.geometry-sizes.ensures.sizes

    same_held : g.S.Stake.held c.look_past.new.s ≡ g.S.Stake.held c.args.s.now
    same_held = c.look_past.ensures.stake.lines ∙ c.loop-page.invariant.held
