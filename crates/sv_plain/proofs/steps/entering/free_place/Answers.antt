use Rattle.std.proofs.Common.{sym, arith}
use Rattle.sv_plain.proofs.NameEntries.{empty-at}
use Rattle.sv_plain.proofs.steps.entering.free_place.Goals as goal

pub returns-in-Some-clause-within : goal.returns-in-Some-clause-within
returns-in-Some-clause-within c = omega (arith, (empty-at c.args.block c.args.node.now c.in-Some.j (sym c.in-Some.ensures)).0)
