use Rattle.std.proofs.Common.{◌≡◌, ◌≤◌, ◌<◌, ℕ, ◌*◌, ◌/◌, Some, IsSome, replicate, sym, ap, subst, ◌∙◌, arith}
use Rattle.std.specs.FinMap as map
use Rattle.sv_form.specs.Node.{Node, entry_count}
use Rattle.sv_plain.specs.Fs.{Fs, changed, with_page, page_of}
use Rattle.sv_plain.specs.Names.{place_of}
use Rattle.sv_form.specs.NodeChanges.{page_after}
use Rattle.sv_plain.proofs.KeepsWhole.{place-of}
use Rattle.sv_plain.proofs.ClearedEntry.{if_ok, page_with, cleared-there, cleared-in}
use Rattle.sv_plain.proofs.fs.Fs.cleared_page.Goals as goal

pub page_with_entry-requires-clause-fits : goal.page_with_entry-requires-clause-fits
page_with_entry-requires-clause-fits c =
    let fs : Fs = c.args.self.now in
    let node : Node = c.in-Some.node.now in
    let there : map.get fs.nodes c.args.d ≡ Some node = sym c.in-Some.ensures in
    let place : place_of fs.block node c.args.name.now ≡ Some c.in-Some-place_of.j = sym (λ i. place_of (c.block_size-block.ensures.same i) node (c.as_slice.ensures.value i)) ∙ sym c.in-Some-place_of.ensures in
    let within = (place-of fs.block node c.args.name.now c.in-Some-place_of.j place).0 in
    let size = (c.requires.whole.nodes c.args.d node there).size in
    omega (arith, within, size, c.requires.whole.sized.greatest_fits, c.requires.whole.sized.block_fits, c.block_size-block.ensures.same)

pub returns-clause-there : goal.returns-clause-there
returns-clause-there c =
    let fs : Fs = c.args.self.now in
    let node : Node = c.in-Some.node.now in
    let j : ℕ = c.in-Some-place_of.j in
    let there : map.get fs.nodes c.args.d ≡ Some node = sym c.in-Some.ensures in
    let place : place_of fs.block node c.args.name.now ≡ Some j = sym (λ i. place_of (c.block_size-block.ensures.same i) node (c.as_slice.ensures.value i)) ∙ sym c.in-Some-place_of.ensures in
    if_ok c.page_with_entry.result _ _ c.page_with_entry.ensures
    (λ p h. subst (λ (q : ℕ). IsSome (page_of fs c.args.d q)) (sym (h.0 ∙ ap (λ b. 16 * j / b) c.block_size-block.ensures.same)) (cleared-there fs c.args.d node c.args.name.now j c.requires.whole c.requires.opened there place))

pub returns-clause-cleared : goal.returns-clause-cleared
returns-clause-cleared c =
    let fs : Fs = c.args.self.now in
    let node : Node = c.in-Some.node.now in
    let j : ℕ = c.in-Some-place_of.j in
    let there : map.get fs.nodes c.args.d ≡ Some node = sym c.in-Some.ensures in
    let place : place_of fs.block node c.args.name.now ≡ Some j = sym (λ i. place_of (c.block_size-block.ensures.same i) node (c.as_slice.ensures.value i)) ∙ sym c.in-Some-place_of.ensures in
    let same = c.block_size-block.ensures.same in
    if_ok c.page_with_entry.result _ _ c.page_with_entry.ensures
    (λ p h.
    (λ i. changed fs.nodes c.args.d (with_page ((h.0 ∙ ap (λ b. 16 * j / b) same) i) ((h.1 ∙ ap (λ b. page_after b node (16 * j) (replicate 16 0) (16 * j / b)) same) i)))
    ∙ cleared-in fs c.args.d node c.args.name.now j c.requires.whole there place)
