use Rattle.std.proofs.Common.{◌≡◌, ℕ, Some, option_map, ap, sym, subst, ◌∙◌}
use Rattle.std.specs.Ordering.{nat_cmp}
use Rattle.std.specs.Cmp.{nat_cmp_total}
use Rattle.std.specs.FinMap as map
use Rattle.std.specs.FinMap.{nat_cmp-IsAntisymmetric}
use Rattle.sv_form.specs.Node.{Node}
use Rattle.sv_plain.specs.Fs.{Fs, changed}
use Rattle.sv_plain.specs.Entered.{with_size}
use Rattle.sv_plain.specs.Keeping.{fs_of}
use Rattle.sv_plain.proofs.Undone.{insert-insert}
use Rattle.sv_plain.proofs.KeptNodes.{kept-same_pages, changed-there}
use Rattle.sv_plain.specs.Names.{links_of}
use Rattle.sv_plain.specs.Totals.{at_or_0}
use Rattle.sv_plain.proofs.KeptUnlinked.{links-swap}
use Rattle.sv_plain.proofs.fs.Fs.set_size.Goals as goal

pub swap-requires-2 : goal.swap-requires-2
swap-requires-2 c =
    let nodes = c.self.inside.nodes in
    let key : ℕ = c.from-key.result in
    let its : c.new-node.result.links ≡ at_or_0 (λ (n : Node). n.links) (map.get nodes key) =
    ap (λ (n : Node). n.links) c.new-node.ensures ∙ c.links_of-links.ensures ∙ ap (λ (fs : Fs). links_of fs c.args.i) (sym c.self.view_is) ∙ ap (λ k. at_or_0 (λ (n : Node). n.links) (map.get nodes k)) (sym c.from-key.ensures) in
    subst (λ (m : map.FinMap nat_cmp Node). option_map (λ (n : Node). n.links) (map.get m key) ≡ Some c.node.inside.links) (sym c.swap.ensures.put)
    (links-swap nodes key c.new-node.result c.swap.new.value (record { kind = c.node.inside.kind; mode = c.node.inside.mode; links = c.node.inside.links; size = c.args.size; pages = c.node.inside.pages }) c.swap.ensures.taken its (ap (λ (n : Node). n.links) c.node.view_is))

pub invariant_of-self : goal.invariant_of-self
invariant_of-self c =
    let a = c.self.inside in
    let node : Node = c.swap.new.value in
    let other : Node = record node { size = c.args.size } in
    let is : record { kind = c.node.inside.kind; mode = c.node.inside.mode; links = c.node.inside.links; size = c.args.size; pages = c.node.inside.pages } ≡ other = ap (λ (n : Node). record n { size = c.args.size }) c.node.view_is in
    let nodes : c.swap-2.new.self ≡ map.insert a.nodes c.from-key.result other =
    c.swap-2.ensures.put ∙ (λ i. map.insert (c.swap.ensures.put i) c.from-key.result (is i)) ∙ insert-insert nat_cmp_total nat_cmp-IsAntisymmetric a.nodes c.from-key.result _ _ in
    rw nodes (kept-same_pages a c.from-key.result node other c.swap.ensures.taken (λ _. node.pages) c.self.invariant)

pub returns : goal.returns
returns c =
    let a = c.self.inside in
    let node : Node = c.swap.new.value in
    let other : Node = record node { size = c.args.size } in
    let is : record { kind = c.node.inside.kind; mode = c.node.inside.mode; links = c.node.inside.links; size = c.args.size; pages = c.node.inside.pages } ≡ other = ap (λ (n : Node). record n { size = c.args.size }) c.node.view_is in
    let nodes : c.swap-2.new.self ≡ map.insert a.nodes c.from-key.result other =
    c.swap-2.ensures.put ∙ (λ i. map.insert (c.swap.ensures.put i) c.from-key.result (is i)) ∙ insert-insert nat_cmp_total nat_cmp-IsAntisymmetric a.nodes c.from-key.result _ _ in
    ap (λ m. record (fs_of a) { nodes = m })
    (nodes ∙ changed-there a.nodes c.from-key.result (with_size c.args.size) node c.swap.ensures.taken ∙ ap (λ n. changed a.nodes n (with_size c.args.size)) c.from-key.ensures)
    ∙ ap (λ (fs : Fs). record fs { nodes = changed fs.nodes c.args.i (with_size c.args.size) }) c.self.view_is
