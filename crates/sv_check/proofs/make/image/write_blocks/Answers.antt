-- The block that was written stands behind those before it.
use Rattle.std.proofs.Common.{◌*◌, ◌∙◌, ℕ, List, length, ap, arith}
use Rattle.sv_check.proofs.MakingSteps.{block_written, front_longer, one_counted, writes_counted}
use Rattle.sv_check.proofs.make.image.write_blocks.Goals as goal

pub loop-number-preserved : goal.loop-number-preserved
loop-number-preserved g c = record {
  content =
      block_written c.args.sizes.now (g.D.Disk.content c.args.disk.now) (g.D.Disk.content c.loop-number.disk)
      (g.D.Disk.content c.put_block.new.disk) c.as_slice.result.now c.loop-number.number (c.from.result * 1024)
      c.loop-number.invariant.content c.loop-number.invariant.front (ap (λ (k : ℕ). k * 1024) c.from.ensures)
      (c.as_slice.ensures.value ∙ c.made_block-block.ensures.bytes)
      (ap (λ (q : List ℕ). length q) c.as_slice.ensures.value ∙ c.made_block-block.ensures.length) c.in_ok-put_block.ensures.written;
  front = front_longer c.args.sizes.now c.made_block-block.result.items c.loop-number.number c.loop-number.invariant.front
      c.made_block-block.ensures.bytes c.made_block-block.ensures.length;
  length = c.put_block.ensures.length ∙ c.loop-number.invariant.length;
  writes =
      writes_counted c.args.sizes.now (g.D.Disk.content c.args.disk.now) (g.D.Disk.content c.loop-number.disk) c.as_slice.result.now
      c.loop-number.number (c.from.result * 1024) (g.D.Disk.writes c.args.disk.now)
      (g.D.Disk.writes c.loop-number.disk) (g.D.Disk.writes c.put_block.new.disk) c.loop-number.invariant.content
      c.loop-number.invariant.front (ap (λ (k : ℕ). k * 1024) c.from.ensures)
      (c.as_slice.ensures.value ∙ c.made_block-block.ensures.bytes) c.loop-number.invariant.writes c.in_ok-put_block.ensures.writes;
  reads = one_counted (g.D.Disk.reads c.args.disk.now) c.loop-number.number (g.D.Disk.reads c.loop-number.disk)
      (g.D.Disk.reads c.put_block.new.disk) c.loop-number.invariant.reads c.in_ok-put_block.ensures.reads;
  faults = omega (arith, c.loop-number.invariant.faults, c.put_block.ensures.cause.no_less);
}
