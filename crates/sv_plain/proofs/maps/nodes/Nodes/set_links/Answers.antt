use Rattle.std.proofs.Common.{◌≡◌, IsSome, ap, sym, subst, ◌∙◌}
use Rattle.std.specs.Ordering.{nat_cmp}
use Rattle.std.specs.Cmp.{nat_cmp_total}
use Rattle.std.specs.FinMap as map
use Rattle.std.specs.FinMap.{nat_cmp-IsAntisymmetric}
use Rattle.sv_form.specs.Node.{Node}
use Rattle.sv_plain.specs.Fs.{changed}
use Rattle.sv_plain.specs.Change.{with_links}
use Rattle.sv_plain.proofs.Undone.{insert-insert}
use Rattle.sv_plain.proofs.Kept.{there-twice}
use Rattle.sv_plain.proofs.KeptNodes.{changed-there}
use Rattle.sv_plain.proofs.KeptUnlinked.{unlinked-insert}
use Rattle.sv_plain.proofs.maps.nodes.Nodes.set_links.Goals as goal

pub swap-requires-2 : goal.swap-requires-2
swap-requires-2 c = subst (λ (m : map.FinMap nat_cmp Node). IsSome (map.get m c.args.number)) (sym c.swap.ensures.put) (there-twice c.self.inside.by_number c.args.number _)

pub invariant_of-self-2 : goal.invariant_of-self-2
invariant_of-self-2 c =
    let a = c.self.inside in
    let node : Node = c.swap.new.value in
    let other : Node = record node { links = c.args.links } in
    let is : record { kind = c.node.inside.kind; mode = c.node.inside.mode; links = c.args.links; size = c.node.inside.size; pages = c.node.inside.pages } ≡ other = ap (λ (n : Node). record n { links = c.args.links }) c.node.view_is in
    let nodes : c.swap-2.new.self ≡ map.insert a.by_number c.args.number other =
    c.swap-2.ensures.put ∙ (λ i. map.insert (c.swap.ensures.put i) c.args.number (is i)) ∙ insert-insert nat_cmp_total nat_cmp-IsAntisymmetric a.by_number c.args.number _ _ in
    rw (nodes, c.in_ok-set.ensures.put) (unlinked-insert a.by_number a.unlinked c.self.invariant c.args.number other)

pub returns-clause-put : goal.returns-clause-put
returns-clause-put c =
    let a = c.self.inside in
    let node : Node = c.swap.new.value in
    let other : Node = record node { links = c.args.links } in
    let is : record { kind = c.node.inside.kind; mode = c.node.inside.mode; links = c.args.links; size = c.node.inside.size; pages = c.node.inside.pages } ≡ other = ap (λ (n : Node). record n { links = c.args.links }) c.node.view_is in
    let nodes : c.swap-2.new.self ≡ map.insert a.by_number c.args.number other =
    c.swap-2.ensures.put ∙ (λ i. map.insert (c.swap.ensures.put i) c.args.number (is i)) ∙ insert-insert nat_cmp_total nat_cmp-IsAntisymmetric a.by_number c.args.number _ _ in
    nodes ∙ changed-there a.by_number c.args.number (with_links (λ _. c.args.links)) node c.swap.ensures.taken
    ∙ ap (λ m. changed m c.args.number (with_links (λ _. c.args.links))) c.self.view_is
