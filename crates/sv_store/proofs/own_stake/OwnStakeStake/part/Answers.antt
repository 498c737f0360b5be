-- What was cut off is what is chosen, and what is left is the rest.
use Rattle.std.proofs.Common.{ap, ◌∙◌}
use Rattle.sv_store.specs.Held.{chosen}
use Rattle.sv_store.specs.OwnBlock.{held_of}
use Rattle.sv_store.proofs.OwnCut.{Both-nothing}
use Rattle.sv_store.proofs.own_stake.OwnStakeStake.part.Goals as goal

pub invariant_of-result : goal.invariant_of-result
invariant_of-result c = record {
  sized = c.args.self.now.sized;
  sound = c.in_ok-blocks.ensures.ok.other;
  quiet = λ _. ap (λ t. t.faults) c.in_ok-tally.ensures;
}

pub returns-clause-ok : goal.returns-clause-ok
returns-clause-ok c = record {
  kept = c.in_ok-blocks.ensures.ok.stays;
  given = c.in_ok-blocks.ensures.ok.goes ∙ Both-nothing (chosen c.args.lines.now (held_of c.args.self.now.blocks));
}
