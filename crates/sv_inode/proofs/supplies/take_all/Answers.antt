-- What was taken is given back where not all can be taken.
use Rattle.std.proofs.Common.{arith}
use Rattle.std.proofs.lemmas.List.{length-map}
use Rattle.sv_inode.proofs.TakenFirst.{can-return, comes-back, freed-left, taken-are}
use Rattle.sv_inode.proofs.supplies.take_all.Goals as goal

pub free_all-requires-clause-cuts : goal.free_all-requires-clause-cuts
free_all-requires-clause-cuts g c κs within = (
  g.S.Stake.held c.args.core.now.stake,
  can-return c.in-Err.ensures.core.home c.in-Err.ensures.cuts
      (taken-are c.args.core.now c.take_each.new.core c.in-Err.ensures.sound c.in-Err.ensures.taken),
)

pub returns-in-Err-clause-back : goal.returns-in-Err-clause-back
returns-in-Err-clause-back g c =
    comes-back c.in-Err.ensures.cuts c.in-Err.ensures.taken c.free_all.ensures.blocks
    (c.free_all.ensures.lines (g.S.Stake.held c.args.core.now.stake)
    (can-return c.in-Err.ensures.core.home c.in-Err.ensures.cuts
    (taken-are c.args.core.now c.take_each.new.core c.in-Err.ensures.sound c.in-Err.ensures.taken)))
    c.free_all.ensures.others

pub returns-in-Err-clause-left_kept : goal.returns-in-Err-clause-left_kept
returns-in-Err-clause-left_kept g c =
    omega (arith, freed-left c.free_all.ensures.blocks, length-map c.take_each.new.cuts.items (λ x. x.0), c.in-Err.ensures.left)

pub returns-in-Ok-clause-cuts : goal.returns-in-Ok-clause-cuts
returns-in-Ok-clause-cuts g c = record {
  from = c.in-Ok.ensures.cuts;
  are = taken-are c.args.core.now c.take_each.new.core c.in-Ok.ensures.sound c.in-Ok.ensures.taken;
  taken = c.in-Ok.ensures.taken;
  as_many = c.in-Ok.ensures.count;
  left = c.in-Ok.ensures.left;
}

pub returns-in-Err-clause-spare_kept : goal.returns-in-Err-clause-spare_kept
returns-in-Err-clause-spare_kept g c = record {
  most = omega (arith, c.free_all.ensures.spare, c.in-Err.ensures.spare);
  least = omega (arith, c.free_all.ensures.spare, c.in-Err.ensures.spare, c.in-Err.ensures.few, c.requires.spare);
}
