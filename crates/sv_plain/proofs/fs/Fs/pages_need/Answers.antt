use Rattle.std.proofs.Common.{◌+◌, ◌≤◌, sym, ◌∙◌, arith}
use Rattle.sv_form.specs.Node.{numbers_per}
use Rattle.sv_plain.specs.Fs.{Fs}
use Rattle.sv_plain.specs.Missing.{node_blocks}
use Rattle.sv_plain.proofs.BlocksAdded.{added-none, added-more}
use Rattle.sv_plain.proofs.fs.Fs.pages_need.Goals as goal

pub loop-k-init : goal.loop-k-init
loop-k-init c = record {
  need = added-none (node_blocks c.args.self.now c.args.i) (numbers_per c.args.self.now.block) c.args.first;
  few = omega arith;
}

pub loop-k-preserved : goal.loop-k-preserved
loop-k-preserved c =
    let fs : Fs = c.args.self.now in
    let some : 1 ≤ numbers_per fs.block = omega (arith, c.block_size-block.ensures.same, c.block_size-block.ensures.some) in
    record {
      need = (λ i. c.loop-k.invariant.need i + c.page_need-need.ensures.count i)
          ∙ sym (added-more (node_blocks fs c.args.i) (numbers_per fs.block) c.args.first c.loop-k.k some);
      few = omega (arith, c.loop-k.invariant.few, c.page_need-need.ensures.few);
    }
