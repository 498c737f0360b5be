use Rattle.std.proofs.Common.{◌≡◌, ◌*◌, ◌/◌, ◌+◌, ℕ, max, Some, option_map, unwrap_or, length, sym, ap, ◌∙◌}
use Rattle.std.proofs.lemmas.List.FromFn.{length-map-range_with_len}
use Rattle.std.specs.FinMap as map
use Rattle.sv_form.specs.Node.{Node, entry_count}
use Rattle.sv_plain.specs.Fs.{Fs}
use Rattle.sv_plain.specs.Names.{empty_place}
use Rattle.sv_form.specs.NodeChanges.{page_after}
use Rattle.sv_plain.specs.Change.{entry_bytes}
use Rattle.sv_plain.specs.Entered.{with_sized_page}
use Rattle.sv_plain.proofs.Entered.{page-entered}
use Rattle.sv_plain.proofs.fs.Fs.entry_page.Goals as goal

pub returns-clause-whole : goal.returns-clause-whole
returns-clause-whole c = ap length c.in_ok-number.ensures.1 ∙ length-map-range_with_len _ _ _ ∙ c.block_size-block.ensures.same

pub returns-clause-entered : goal.returns-clause-entered
returns-clause-entered c =
    let fs : Fs = c.args.self.now in
    let node : Node = c.in-Some.node.now in
    let there : map.get fs.nodes c.args.d ≡ Some node = sym c.in-Some.ensures in
    let j : ℕ = unwrap_or (empty_place fs.block node) (entry_count node) in
    let same : c.block_size-block.result ≡ fs.block = c.block_size-block.ensures.same in
    let place : c.free_place-j.result ≡ j = c.free_place-j.ensures.place ∙ ap (λ b. unwrap_or (empty_place b node) (entry_count node)) same in
    let bytes : c.entry_bytes-entry.result ≡ entry_bytes c.args.i c.args.name.now = c.entry_bytes-entry.ensures ∙ ap (entry_bytes c.args.i) c.as_slice.ensures.value in
    let number : c.in_ok-number.number ≡ 16 * j / fs.block = c.in_ok-number.ensures.0 ∙ (λ k. 16 * place k / same k) in
    let page : c.in_ok-number.bytes ≡ page_after fs.block node (16 * j) (entry_bytes c.args.i c.args.name.now) (16 * j / fs.block) =
    c.in_ok-number.ensures.1 ∙ (λ k. page_after (same k) node (16 * place k) (bytes k) (16 * place k / same k)) in
    let old : c.node-2.inside.size ≡ node.size = ap (λ (n : Node). n.size) c.node-2.view_is in
    let size : c.max-size.result ≡ max node.size (16 * j + 16) = c.max-size.ensures ∙ (λ k. max (old k) (16 * place k + 16)) in
    (λ k. option_map (with_sized_page (number k) (page k) (size k)) (map.get fs.nodes c.args.d))
    ∙ page-entered fs c.args.d c.args.i c.args.name.now node c.requires.whole there c.as_slice.ensures.name
