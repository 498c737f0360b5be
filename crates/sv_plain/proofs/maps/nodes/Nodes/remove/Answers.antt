use Rattle.sv_plain.proofs.KeptUnlinked.{unlinked-remove}
use Rattle.sv_plain.proofs.maps.nodes.Nodes.remove.Goals as goal

pub invariant_of-self : goal.invariant_of-self
invariant_of-self c = rw (c.remove.ensures, c.remove-2.ensures) (unlinked-remove c.self.inside.by_number c.self.inside.unlinked c.self.invariant c.args.number)
