use Rattle.std.proofs.Common.{◌≡◌, ◌∙◌, ◌<◌, ◌+◌, ◌*◌, ◌++◌, subst, refl, sym, List, ℕ, length, take, arith}
use Rattle.std.proofs.lemmas.List.{length-take-le}
use Rattle.std.proofs.lemmas.Result.{err_from_is_err_and, on_ok_weaker, on_err_weaker}
use Rattle.sv_form.specs.Geometry.{IsDataBlock}
use Rattle.sv_check.specs.FilePages.{block_at}
use Rattle.sv_check.proofs.FileBlocks.{at_start}
use Rattle.sv_session.specs.Pages.{page_bytes}
use Rattle.sv_session.proofs.PageSteps.{page_below, under_way_begun, under_way_failed, under_way_more, under_way_whole, under_way_written}
use Rattle.sv_session.proofs.pages.write_file.Goals as goal

pub loop-page-init : goal.loop-page-init
loop-page-init g c = record {
  way = under_way_begun _ _ _ _ _;
  at = at_start c.args.pages.now c.requires.order;
  content = refl;
  disk_faults = omega arith;
  sink_faults = omega arith;
  piece = c.requires.piece;
  filled = omega arith;
}

pub add_page-requires-clause-address : goal.add_page-requires-clause-address
add_page-requires-clause-address g c = λ _ _ some.
    let here : c.next_block-address.result ≡ block_at c.args.pages.now c.loop-page.page = c.next_block-address.ensures.block c.loop-page.invariant.at in
    subst (λ (b : ℕ). IsDataBlock c.args.sizes.now b) (sym here) (c.requires.inside c.loop-page.page (λ e. some (here ∙ e)))

pub returns-in_err-left-clause-err : goal.returns-in_err-left-clause-err
returns-in_err-left-clause-err g c =
    let p = err_from_is_err_and c.from_residual.result c.from_residual.ensures.1 in
    rw (p.1) (under_way_failed _ _ (block_at c.args.pages.now) _ _ _ _ _ _ c.loop-page.invariant.way c.in_err-left.ensures.err)

pub returns-in_err-add_page-clause-err : goal.returns-in_err-add_page-clause-err
returns-in_err-add_page-clause-err g c =
    let p = err_from_is_err_and c.from_residual-in_err-add_page.result c.from_residual-in_err-add_page.ensures.1 in
    let h = under_way_written _ _ (block_at c.args.pages.now) _ _ _ _ _ _ _ c.loop-page.invariant.way c.in_ok-left.ensures.ok in
    rw (p.1) (h.front)

pub loop-page-preserved : goal.loop-page-preserved
loop-page-preserved g c =
    let left : ℕ = c.in_ok-left.left in
    let end : ℕ = left + c.args.sizes.now.block_size in
    let below : c.loop-page.page * c.args.sizes.now.block_size < c.args.size = page_below _ _ _ _ (omega arith) c.div_ceil-page-end.ensures c.loop-page-test.true in
    let here : c.next_block-address.result ≡ block_at c.args.pages.now c.loop-page.page = c.next_block-address.ensures.block c.loop-page.invariant.at in
    let put : take end c.add_page.new.piece ≡ take left c.loop-page.piece ++ page_bytes c.args.sizes.now (g.D.Disk.content c.args.disk.now) (block_at c.args.pages.now c.loop-page.page) =
    subst (λ (b : ℕ). take end c.add_page.new.piece ≡ take left c.loop-page.piece ++ page_bytes c.args.sizes.now (g.D.Disk.content c.args.disk.now) b) here
    (subst (λ (content : List ℕ). take end c.add_page.new.piece ≡ take left c.loop-page.piece ++ page_bytes c.args.sizes.now content c.next_block-address.result) c.loop-page.invariant.content
    c.in_ok-add_page.ensures.bytes) in
    record {
      way = under_way_more _ _ (block_at c.args.pages.now) _ c.loop-page.page _ _ _ _ left _ below c.min-count.ensures
          (length-take-le left c.loop-page.piece (omega (arith, c.in_ok-left.ensures.room))) put
          (under_way_written _ _ (block_at c.args.pages.now) _ _ _ _ _ _ _ c.loop-page.invariant.way c.in_ok-left.ensures.ok);
      at = c.next_block-address.ensures.next c.loop-page.invariant.at;
      content = c.in_ok-add_page.ensures.content ∙ c.loop-page.invariant.content;
      disk_faults = omega (arith, c.in_ok-add_page.ensures.disk_faults);
      sink_faults = omega (arith, c.in_ok-left.ensures.sink_faults);
      piece = c.add_page.auto.piece ∙ c.loop-page.invariant.piece;
      filled = omega (arith, c.in_ok-left.ensures.room, c.min-count.ensures, c.add_page.auto.piece);
    }

pub returns-clause-err : goal.returns-clause-err
returns-clause-err g c =
    on_err_weaker c.write_piece.result (λ part. under_way_failed _ _ (block_at c.args.pages.now) _ _ _ _ _ _ c.loop-page.invariant.way part) c.write_piece.ensures.err
