use Rattle.std.proofs.Common.{◌≡◌, IsSome, sym, ap, subst, ◌∙◌}
use Rattle.std.specs.Ordering.{nat_cmp}
use Rattle.std.specs.FinMap as map
use Rattle.sv_form.specs.declared.kind.Kind.TheVariants.{Dir}
use Rattle.sv_plain.specs.Fs.{Fs, page_of, with_node, with_page_of, node_without_pages}
use Rattle.sv_plain.specs.Whole.{IsWhole}
use Rattle.sv_journal.proofs.NewTree.{with_root, root-there, root-bare, new-whole}
use Rattle.sv_journal.proofs.replay_tests.new_tree.Goals as goal

pub add_node-requires-clause-absent : goal.add_node-requires-clause-absent
add_node-requires-clause-absent c = ap (λ (fs : Fs). map.get fs.nodes 2) c.in_ok-fs.ensures ∙ map.get-empty nat_cmp 2

pub put_page-requires-clause-there : goal.put_page-requires-clause-there
put_page-requires-clause-there c =
    let made : c.add_node.new.self ≡ with_root = c.in_ok-add_node.ensures.added ∙ ap (λ (fs : Fs). with_node fs 2 (node_without_pages Dir 493 2 32)) c.in_ok-fs.ensures in
    subst (λ (fs : Fs). IsSome (map.get fs.nodes 2)) (sym made) root-there

pub put_page-requires-clause-absent : goal.put_page-requires-clause-absent
put_page-requires-clause-absent c =
    let made : c.add_node.new.self ≡ with_root = c.in_ok-add_node.ensures.added ∙ ap (λ (fs : Fs). with_node fs 2 (node_without_pages Dir 493 2 32)) c.in_ok-fs.ensures in
    ap (λ (fs : Fs). page_of fs 2 0) made ∙ root-bare

pub returns-clause-whole : goal.returns-clause-whole
returns-clause-whole c =
    let made : c.add_node.new.self ≡ with_root = c.in_ok-add_node.ensures.added ∙ ap (λ (fs : Fs). with_node fs 2 (node_without_pages Dir 493 2 32)) c.in_ok-fs.ensures in
    subst IsWhole (sym (c.in_ok-put_page.ensures.added ∙ ap (λ (fs : Fs). with_page_of fs 2 0 c.in_ok-page.page) made)) (new-whole c.in_ok-page.page c.in_ok-page.ensures)
