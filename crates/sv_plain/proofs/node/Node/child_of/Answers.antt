use Rattle.std.proofs.Common.{sym}
use Rattle.sv_form.specs.Node.{entry_count}
use Rattle.sv_plain.specs.Names.{is_entry, place_of}
use Rattle.sv_plain.proofs.Places.{place_within}
use Rattle.sv_plain.proofs.node.Node.child_of.Goals as goal

pub entry_inode-requires-clause-within : goal.entry_inode-requires-clause-within
unfolding place_of
entry_inode-requires-clause-within c = place_within (is_entry c.args.block c.args.self.now c.args.name.now) (entry_count c.args.self.now) c.in-Some.j (sym c.in-Some.ensures)
