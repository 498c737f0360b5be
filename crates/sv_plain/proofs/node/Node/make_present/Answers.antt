use Rattle.std.proofs.Common.{◌≡◌, ◌+◌, ℕ, List, sym, ap, ◌∙◌, arith}
use Rattle.std.specs.List.{range_with_len}
use Rattle.std.specs.FinMap as fmap
use Rattle.sv_form.specs.Node.{Node, block_set}
use Rattle.sv_plain.specs.Missing.{missing}
use Rattle.sv_plain.specs.Written.{Pages, present, all_present, without_blocks, without_pages}
use Rattle.sv_plain.proofs.WrittenPages.{blocks-back, pages-back, present-more}
use Rattle.sv_plain.proofs.node.Node.make_present.Goals as goal

pub returns-in_default-clause-refused : goal.returns-in_default-clause-refused
returns-in_default-clause-refused c =
    let old : Node = c.args.self.now in
    let gone : c.as_slice.result.now ≡ missing (block_set c.args.per (fmap.keys old.pages)) c.args.per (range_with_len c.args.first c.args.count) =
    c.as_slice.ensures.value ∙ c.in_ok-missing.ensures ∙ ap (λ s. missing s c.args.per (range_with_len c.args.first c.args.count)) c.requires.mine in
    let node : c.make_page_present.new.self ≡ record old { pages = all_present old.pages (range_with_len c.args.first c.loop-k.k) } = c.in_default.ensures.refused ∙ c.loop-k.invariant.node in
    c.remove_pages.ensures
    ∙ (λ i. record (node i) { pages = without_pages (node i).pages (gone i) })
    ∙ ap (λ (m : Pages). record old { pages = m }) (pages-back c.args.per c.args.first c.loop-k.k c.args.count old.pages (omega arith))

pub returns-in_default-clause-mine : goal.returns-in_default-clause-mine
returns-in_default-clause-mine c =
    let old : Node = c.args.self.now in
    let lost : List (ℕ × ℕ) = missing (block_set c.args.per (fmap.keys old.pages)) c.args.per (range_with_len c.args.first c.args.count) in
    let is : c.in_ok-missing.missing.items ≡ lost = c.in_ok-missing.ensures ∙ ap (λ s. missing s c.args.per (range_with_len c.args.first c.args.count)) c.requires.mine in
    let gone : c.as_slice.result.now ≡ lost = c.as_slice.ensures.value ∙ is in
    let again : c.as_slice-in_default.result.now ≡ lost = c.as_slice-in_default.ensures.value ∙ is in
    let node : c.make_page_present.new.self ≡ record old { pages = all_present old.pages (range_with_len c.args.first c.loop-k.k) } = c.in_default.ensures.refused ∙ c.loop-k.invariant.node in
    let back : c.remove_pages.new.self ≡ old =
    c.remove_pages.ensures
    ∙ (λ i. record (node i) { pages = without_pages (node i).pages (gone i) })
    ∙ ap (λ (m : Pages). record old { pages = m }) (pages-back c.args.per c.args.first c.loop-k.k c.args.count old.pages (omega arith)) in
    let blocks : c.make_page_present.new.blocks ≡ block_set c.args.per (fmap.keys (all_present old.pages (range_with_len c.args.first c.loop-k.k))) =
    c.in_default.ensures.mine ∙ ap (λ (n : Node). block_set c.args.per (fmap.keys n.pages)) node in
    c.remove_blocks.ensures
    ∙ (λ i. without_blocks (blocks i) (again i))
    ∙ blocks-back c.args.per c.args.first c.loop-k.k c.args.count old.pages (omega arith)
    ∙ sym (ap (λ (n : Node). block_set c.args.per (fmap.keys n.pages)) back)

pub loop-k-preserved : goal.loop-k-preserved
loop-k-preserved c = record {
  node = c.in-Ok.ensures.put
      ∙ (λ i. record (c.loop-k.invariant.node i) { pages = present (c.loop-k.invariant.node i).pages (c.args.first + c.loop-k.k) })
      ∙ ap (λ (m : Pages). record c.args.self.now { pages = m }) (sym (present-more c.args.self.now.pages c.args.first c.loop-k.k));
  mine = c.in-Ok.ensures.mine;
}
