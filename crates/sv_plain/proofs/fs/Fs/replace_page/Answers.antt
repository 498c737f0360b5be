use Rattle.std.proofs.Common.{◌≡◌, ℕ, IsSome, Some, option_and_then, option_map, ap, sym, subst, ◌∙◌}
use Rattle.std.specs.Ordering.{nat_cmp}
use Rattle.std.specs.Cmp.{nat_cmp_total}
use Rattle.std.specs.FinMap as map
use Rattle.std.specs.FinMap.{nat_cmp-IsAntisymmetric}
use Rattle.sv_form.specs.Node.{Node}
use Rattle.sv_plain.specs.Fs.{Fs, changed, page_of, with_page, with_page_of}
use Rattle.sv_plain.specs.Keeping.{fs_of}
use Rattle.sv_plain.proofs.Undone.{insert-insert}
use Rattle.sv_plain.proofs.KeptNodes.{kept-replaced, page-there, changed-there}
use Rattle.sv_plain.proofs.KeptUnlinked.{links-swap}
use Rattle.sv_plain.specs.Names.{links_of}
use Rattle.sv_plain.specs.Totals.{at_or_0}
use Rattle.sv_plain.proofs.fs.Fs.replace_page.Goals as goal

pub swap-requires-2 : goal.swap-requires-2
swap-requires-2 c =
    let nodes = c.self.inside.nodes in
    let key : ℕ = c.from-key.result in
    let its : c.new-node.result.links ≡ at_or_0 (λ (n : Node). n.links) (map.get nodes key) =
    ap (λ (n : Node). n.links) c.new-node.ensures ∙ c.links_of-links.ensures ∙ ap (λ (fs : Fs). links_of fs c.args.i) (sym c.self.view_is) ∙ ap (λ k. at_or_0 (λ (n : Node). n.links) (map.get nodes k)) (sym c.from-key.ensures) in
    subst (λ (m : map.FinMap nat_cmp Node). option_map (λ (n : Node). n.links) (map.get m key) ≡ Some c.replace_page.new.self.links) (sym c.swap.ensures.put)
    (links-swap nodes key c.new-node.result c.swap.new.value c.replace_page.new.self c.swap.ensures.taken its (ap (λ (n : Node). n.links) c.replace_page.ensures))

pub invariant_of-self : goal.invariant_of-self
invariant_of-self c =
    let a = c.self.inside in
    let node : Node = c.swap.new.value in
    let known : IsSome (option_and_then (λ (n : Node). map.get n.pages c.args.page) (map.get a.nodes c.from-key.result)) =
    subst (λ (k : ℕ). IsSome (option_and_then (λ (n : Node). map.get n.pages c.args.page) (map.get a.nodes k))) (sym c.from-key.ensures)
    (subst (λ (fs : Fs). IsSome (page_of fs c.args.i c.args.page)) (sym c.self.view_is) c.requires) in
    let old = page-there (map.get a.nodes c.from-key.result) c.args.page node c.swap.ensures.taken known in
    let nodes : c.swap-2.new.self ≡ map.insert a.nodes c.from-key.result (with_page c.args.page c.args.bytes node) =
    c.swap-2.ensures.put ∙ (λ i. map.insert (c.swap.ensures.put i) c.from-key.result (c.replace_page.ensures i)) ∙ insert-insert nat_cmp_total nat_cmp-IsAntisymmetric a.nodes c.from-key.result _ _ in
    rw nodes (kept-replaced a c.from-key.result c.args.page old.0 c.args.bytes node c.swap.ensures.taken old.1 c.self.invariant)

pub returns : goal.returns
returns c =
    let a = c.self.inside in
    let node : Node = c.swap.new.value in
    let nodes : c.swap-2.new.self ≡ map.insert a.nodes c.from-key.result (with_page c.args.page c.args.bytes node) =
    c.swap-2.ensures.put ∙ (λ i. map.insert (c.swap.ensures.put i) c.from-key.result (c.replace_page.ensures i)) ∙ insert-insert nat_cmp_total nat_cmp-IsAntisymmetric a.nodes c.from-key.result _ _ in
    ap (λ m. record (fs_of a) { nodes = m })
    (nodes ∙ changed-there a.nodes c.from-key.result (with_page c.args.page c.args.bytes) node c.swap.ensures.taken ∙ ap (λ n. changed a.nodes n (with_page c.args.page c.args.bytes)) c.from-key.ensures)
    ∙ ap (λ (fs : Fs). with_page_of fs c.args.i c.args.page c.args.bytes) c.self.view_is
