-- Each number is looked at.
use Rattle.std.proofs.Common.{◌==◌, arith}
use Rattle.sv_bmap.proofs.NumberReads.{flag-few, zero-more}
use Rattle.sv_bmap.proofs.numbers.zeros_in.Goals as goal

pub loop-k-preserved : goal.loop-k-preserved
loop-k-preserved c = record {
  zeros =
      zero-more c.args.bytes.now c.args.from c.loop-k.k c.loop-k.zeros c.from-zeros.result c.number32.result c.loop-k.invariant.zeros
      c.from-zeros.ensures c.number32.ensures;
  few = omega (arith, c.loop-k.invariant.few, flag-few (c.number32.result == 0) c.from-zeros.result c.from-zeros.ensures);
}
