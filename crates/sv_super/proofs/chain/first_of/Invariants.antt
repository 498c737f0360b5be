use Rattle.std.proofs.Common.{◌≡◌, take}
use Rattle.sv_super.proofs.chain.first_of.Given as goal

abbrev pub invariant-loop-number : goal.invariant-loop-number
invariant-loop-number l = l.first.items ≡ take l.number-index (take l.count l.numbers)
