-- Each entry is of a block in range, and has the lines and the bytes of a block.
use Rattle.sv_store.proofs.OwnJoin.{held-range, held-bytes}
use Rattle.sv_store.proofs.own_stake.OwnStakeStake.geometry.Goals as goal

pub returns-clause-range : goal.returns-clause-range
returns-clause-range c = record {
  block = λ b l is. (held-range c.args.self.now.sizes c.args.self.now.blocks c.args.self.now.sound.block c.args.self.now.sound.lines b l is).0;
  line = λ b l is. (held-range c.args.self.now.sizes c.args.self.now.blocks c.args.self.now.sound.block c.args.self.now.sound.lines b l is).1;
  bytes = λ b l. held-bytes c.args.self.now.sizes c.args.self.now.blocks c.args.self.now.sound.lines c.args.self.now.sound.kept b l;
}
