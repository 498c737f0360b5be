-- The first number is the greatest.
use Rattle.sv_super.proofs.Caches.{past-empty, past-first}
use Rattle.sv_super.proofs.inodes.past_first.Goals as goal

pub returns-in-Some : goal.returns-in-Some
returns-in-Some c = past-first c.args.numbers.now c.args.otherwise c.in-Some.first.now c.in-Some.ensures.value

pub returns-in-None : goal.returns-in-None
returns-in-None c = past-empty c.args.numbers.now c.args.otherwise c.in-None.ensures.value
