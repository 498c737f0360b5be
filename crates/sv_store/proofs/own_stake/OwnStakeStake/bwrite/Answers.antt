-- What was lent is a block long.
use Rattle.std.proofs.Common.{length, ap, ◌∙◌}
use Rattle.sv_store.proofs.OwnSteps.{lent-size}
use Rattle.sv_store.proofs.own_stake.OwnStakeStake.bwrite.Goals as goal

pub put_back-requires-clause-size : goal.put_back-requires-clause-size
put_back-requires-clause-size g c =
    ap length c.into_bytes.ensures
    ∙ (c.requires.size ∙ lent-size c.args.self.now.sizes c.args.self.now.blocks c.args.buf.block c.requires.was c.args.self.now.sound.kept c.requires.from)
