-- Each turn settles one entry more.
use Rattle.std.proofs.Common.{◌++◌, not, sym, ap, ◌∙◌, arith}
use Rattle.std.proofs.lemmas.List.{append-nil}
use Rattle.sv_store.specs.Held.{in_ranges}
use Rattle.sv_store.specs.OwnBlock.{masked}
use Rattle.sv_store.proofs.OwnParts.{settle-step, left-nil}
use Rattle.sv_store.proofs.own_block.lose_all.Goals as goal

pub loop-turned-init : goal.loop-turned-init
loop-turned-init c = record {
  blocks = sym (ap (λ q. c.args.blocks.now ++ q) (left-nil (masked (λ b k. not (in_ranges c.args.lines.now b k)))) ∙ append-nil c.args.blocks.now);
  last = c.len-turned-end.ensures.value;
}

pub loop-turned-preserved : goal.loop-turned-preserved
loop-turned-preserved c = record {
  blocks =
      settle-step (masked (λ b k. not (in_ranges c.args.lines.now b k))) c.args.blocks.now c.loop-turned._turned c.loop-turned.blocks c.in-Some.own.now c.lose.new.self c.settle.new.blocks (omega (arith, c.loop-turned.invariant.last)) c.loop-turned.invariant.blocks
      c.in-Some.ensures.value c.lose.ensures c.settle.ensures;
  last = c.loop-turned.invariant.last;
}
