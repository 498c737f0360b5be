use Rattle.std.proofs.Common.{◌+◌, ◌-◌, arith}
use Rattle.sv_check.specs.Mkfs.{free_list}
use Rattle.sv_check.proofs.MkfsSteps.{all_down, goes_down}
use Rattle.sv_check.proofs.make.lists.free_list.Goals as goal

pub loop-i-preserved : goal.loop-i-preserved
loop-i-preserved c = record {
  left = goes_down (free_list c.args.blocks c.args.from c.args.upto) c.loop-i.list.items c.push-in-loop-i.new.self.items c.args.from (c.args.upto - c.args.from - c.loop-i.i) (c.args.upto - c.args.from - (c.loop-i.i + 1)) (c.args.upto - 1 - c.loop-i.i)
      c.loop-i.invariant.left (omega arith) (omega arith) c.push-in-loop-i.ensures.items;
  count = omega (arith, c.push-in-loop-i.ensures.len, c.loop-i.invariant.count);
}

pub returns : goal.returns
returns c = all_down (free_list c.args.blocks c.args.from c.args.upto) c.loop-i.list.items c.args.from (c.args.upto - c.args.from - c.loop-i.i) c.loop-i.invariant.left (omega arith)
