use Rattle.std.proofs.Common.{◌+◌, ◌-◌, arith}
use Rattle.sv_check.specs.Mkfs.{inode_cache}
use Rattle.sv_check.proofs.MkfsSteps.{all_down, goes_down}
use Rattle.sv_check.proofs.make.lists.inode_cache.Goals as goal

pub loop-i-preserved : goal.loop-i-preserved
loop-i-preserved c = record {
  left = goes_down (inode_cache c.args.count) c.loop-i.cache.items c.push.new.self.items 3 (c.min-cached.result - c.loop-i.i) (c.min-cached.result - (c.loop-i.i + 1)) (2 + c.min-cached.result - c.loop-i.i)
      c.loop-i.invariant.left (omega arith) (omega arith) c.push.ensures.items;
  count = omega (arith, c.push.ensures.len, c.loop-i.invariant.count);
}

pub returns : goal.returns
returns c = all_down (inode_cache c.args.count) c.loop-i.cache.items 3 (c.min-cached.result - c.loop-i.i) c.loop-i.invariant.left (omega arith)
