-- The last one that is left goes out.
use Rattle.std.proofs.Common.{◌∙◌, ap, arith, length, length-append, ◌∷◌, []}
use Rattle.sv_inode.proofs.TakenOut.{all-front, all-last, names-moved, paired-more}
use Rattle.sv_inode.proofs.fill.take_out.Goals as goal

pub loop-block-preserved : goal.loop-block-preserved
loop-block-preserved g c = record {
  names = names-moved c.loop-block.cuts.items c.pop.new.self.items (c.in-Some.b, c.in-Some.part) c.loop-block.names.items
      c.push.new.self.items c.in-Some.ensures.items c.push.ensures.items ∙ c.loop-block.invariant.names;
  count = ap length c.push.ensures.items
      ∙ (length-append c.loop-block.names.items (c.in-Some.b ∷ []) ∙ omega (arith, c.loop-block.invariant.count));
  parts = ap length c.push_part.ensures.items
      ∙ (length-append c.loop-block.parts.items (c.in-Some.part ∷ []) ∙ omega (arith, c.loop-block.invariant.parts));
  room = omega (arith, c.push_part.ensures.capacity, c.loop-block.invariant.room);
  capacity = c.in-Some.ensures.capacity ∙ c.loop-block.invariant.capacity;
  left = λ o h all. all-front c.loop-block.cuts.items c.pop.new.self.items (c.in-Some.b, c.in-Some.part) c.in-Some.ensures.items
      (c.loop-block.invariant.left o h all);
  pairs = λ o h all. paired-more c.loop-block.names.items c.push.new.self.items c.loop-block.parts.items c.push_part.new.parts.items
      c.in-Some.b c.in-Some.part c.push.ensures.items c.push_part.ensures.items (c.loop-block.invariant.pairs o h all)
      (all-last c.loop-block.cuts.items c.pop.new.self.items (c.in-Some.b, c.in-Some.part) c.in-Some.ensures.items
      (c.loop-block.invariant.left o h all));
}
