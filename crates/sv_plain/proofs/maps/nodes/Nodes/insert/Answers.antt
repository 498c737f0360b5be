use Rattle.std.proofs.Common.{◌≡◌, ◌==◌, None, ap, ◌∙◌}
use Rattle.std.specs.FinMap as map
use Rattle.std.specs.FinSet as set
use Rattle.sv_form.specs.Node.{Node}
use Rattle.sv_plain.proofs.KeptUnlinked.{noted, unlinked-insert, unlinked-undone}
use Rattle.sv_plain.proofs.maps.nodes.Nodes.insert.Goals as goal

pub invariant_of-self-in-Ok : goal.invariant_of-self-in-Ok
invariant_of-self-in-Ok c =
    let a = c.self.inside in
    let node : Node = c.args.node in
    let noted_it : c.set.new.self ≡ noted (node.links == 0) a.unlinked c.args.number = c.in_ok-set.ensures.put ∙ ap (λ (n : Node). noted (n.links == 0) a.unlinked c.args.number) c.node.view_is in
    rw (c.in-Ok.ensures.put, noted_it) (unlinked-insert a.by_number a.unlinked c.self.invariant c.args.number node)

pub invariant_of-self-in_default : goal.invariant_of-self-in_default
invariant_of-self-in_default c =
    let a = c.self.inside in
    let absent : map.get a.by_number c.args.number ≡ None = ap (λ m. map.get m c.args.number) c.self.view_is ∙ c.requires in
    let gone : c.remove.new.self ≡ set.remove (noted (c.node.inside.links == 0) a.unlinked c.args.number) c.args.number = c.remove.ensures ∙ ap (λ s. set.remove s c.args.number) c.in_ok-set.ensures.put in
    rw (c.in_default.ensures.refused, gone) (unlinked-undone a.by_number a.unlinked c.self.invariant c.args.number (c.node.inside.links == 0) absent)
