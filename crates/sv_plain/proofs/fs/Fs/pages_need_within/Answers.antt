use Rattle.std.proofs.Common.{◌+◌, ◌≤◌, ◌<◌, ◌≡◌, ap, sym, ◌∙◌, arith}
use Rattle.std.specs.List.{range_with_len}
use Rattle.sv_form.specs.Node.{numbers_per}
use Rattle.sv_plain.specs.Fs.{Fs}
use Rattle.sv_plain.specs.Missing.{node_blocks, added}
use Rattle.sv_plain.specs.NeedsWithin.{within}
use Rattle.sv_plain.proofs.BlocksAdded.{added-none, added-more}
use Rattle.sv_plain.proofs.PagesHeld.{added-many}
use Rattle.sv_plain.proofs.RoomNeeds.{added-below, held, none_held}
use Rattle.sv_plain.proofs.fs.Fs.pages_need_within.Goals as goal

pub returns-then-absent-most : goal.returns-then-absent-most
returns-then-absent-most c =
    let fs : Fs = c.args.self.now in
    none_held c.args.most (added (node_blocks fs c.args.i) (numbers_per fs.block) (range_with_len c.args.first c.args.count))
    (omega (arith, c.if-absent-most.true, c.from.ensures, c.block_count.ensures, added-many (node_blocks fs c.args.i) (numbers_per fs.block) c.args.first c.args.count))

pub loop-k-init : goal.loop-k-init
loop-k-init c = record {
  need = added-none (node_blocks c.args.self.now c.args.i) (numbers_per c.args.self.now.block) c.args.first;
  few = omega arith;
  room = omega arith;
}

pub loop-k-preserved : goal.loop-k-preserved
loop-k-preserved c =
    let fs : Fs = c.args.self.now in
    let some : 1 ≤ numbers_per fs.block = omega (arith, c.block_size-block.ensures.same, c.block_size-block.ensures.some) in
    record {
      need = (λ i. c.loop-k.invariant.need i + c.page_need-need.ensures.count i)
          ∙ sym (added-more (node_blocks fs c.args.i) (numbers_per fs.block) c.args.first c.loop-k.k some);
      few = omega (arith, c.loop-k.invariant.few, c.page_need-need.ensures.few);
      room = omega (arith, c.if-total-most.false, c.from-total.ensures);
    }

pub returns-then-total-most : goal.returns-then-total-most
returns-then-total-most c =
    let fs : Fs = c.args.self.now in
    let some : 1 ≤ numbers_per fs.block = omega (arith, c.block_size-block.ensures.same, c.block_size-block.ensures.some) in
    let here : c.loop-k.need + c.page_need-need.result ≡ added (node_blocks fs c.args.i) (numbers_per fs.block) (range_with_len c.args.first (c.loop-k.k + 1)) =
    (λ i. c.loop-k.invariant.need i + c.page_need-need.ensures.count i)
    ∙ sym (added-more (node_blocks fs c.args.i) (numbers_per fs.block) c.args.first c.loop-k.k some) in
    let below : added (node_blocks fs c.args.i) (numbers_per fs.block) (range_with_len c.args.first (c.loop-k.k + 1))
    ≤ added (node_blocks fs c.args.i) (numbers_per fs.block) (range_with_len c.args.first c.args.count) =
    added-below (node_blocks fs c.args.i) (numbers_per fs.block) c.args.first (c.loop-k.k + 1) c.args.count (omega (arith, c.loop-k-test.true)) some in
    none_held c.args.most (added (node_blocks fs c.args.i) (numbers_per fs.block) (range_with_len c.args.first c.args.count))
    (omega (arith, c.if-total-most.true, c.from-total.ensures, here, below))

pub returns : goal.returns
returns c =
    let fs : Fs = c.args.self.now in
    let upto : c.loop-k.k ≡ c.args.count = omega (arith, c.loop-k-test.false, c.loop-k.auto.k-end) in
    held c.args.most c.loop-k.need c.loop-k.invariant.room
    ∙ ap (within c.args.most) (c.loop-k.invariant.need ∙ ap (λ n. added (node_blocks fs c.args.i) (numbers_per fs.block) (range_with_len c.args.first n)) upto)
