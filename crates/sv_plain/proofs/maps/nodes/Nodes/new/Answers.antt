use Rattle.sv_plain.proofs.KeptUnlinked.{none_unlinked}
use Rattle.sv_plain.proofs.maps.nodes.Nodes.new.Goals as goal

pub invariant_of-result : goal.invariant_of-result
invariant_of-result c = rw (c.new.ensures, c.new-2.ensures) none_unlinked
