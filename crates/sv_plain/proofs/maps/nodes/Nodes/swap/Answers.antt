use Rattle.std.proofs.Common.{option_map, ap, ◌∙◌}
use Rattle.std.specs.FinMap as map
use Rattle.sv_form.specs.Node.{Node}
use Rattle.sv_plain.proofs.KeptUnlinked.{unlinked-swap}
use Rattle.sv_plain.proofs.maps.nodes.Nodes.swap.Goals as goal

pub invariant_of-self : goal.invariant_of-self
invariant_of-self c =
    let a = c.self.inside in
    let same = ap (λ m. option_map (λ (n : Node). n.links) (map.get m c.args.number)) c.self.view_is ∙ c.requires in
    rw c.swap.ensures.put (unlinked-swap a.by_number a.unlinked c.self.invariant c.args.number c.args.value.now same)
