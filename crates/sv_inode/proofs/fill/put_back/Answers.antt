-- The last one that was taken out is put back first.
use Rattle.std.proofs.Common.{◌∙◌, ◌+◌, ap, arith, sym, length, length-append, ◌∷◌, []}
use Rattle.std.specs.List.{sum_by}
use Rattle.sv_inode.proofs.TakenOut.{all-more, faults-moved, names-moved, paired-front, paired-last}
use Rattle.sv_inode.proofs.fill.put_back.Goals as goal

pub loop-block-preserved : goal.loop-block-preserved
loop-block-preserved g c = record {
  names = sym (names-moved c.push_cut.new.cuts.items c.loop-block.cuts.items (c.in-Some.b, c.in-Some-pop.part) c.pop.new.self.items
      c.loop-block.names.items c.push_cut.ensures.items c.in-Some.ensures.items) ∙ c.loop-block.invariant.names;
  count = omega (
    arith,
    c.loop-block.invariant.count,
    ap length c.in-Some.ensures.items,
    length-append c.pop.new.self.items
        (c.in-Some.b ∷ []),
  );
  parts = omega (
    arith,
    c.loop-block.invariant.parts,
    ap length c.in-Some.ensures.items,
    length-append c.pop.new.self.items
        (c.in-Some.b ∷ []),
    ap length c.in-Some-pop.ensures.items,
    length-append c.pop-in-loop-block.new.self.items
        (c.in-Some-pop.part ∷ []),
  );
  room = omega (
    arith,
    c.loop-block.invariant.room,
    c.push_cut.ensures.capacity,
    ap length c.push_cut.ensures.items,
    length-append
        c.loop-block.cuts.items ((c.in-Some.b, c.in-Some-pop.part) ∷ []),
    ap length c.in-Some.ensures.items,
    length-append
        c.pop.new.self.items (c.in-Some.b ∷ []),
  );
  each = λ o h all pairs. all-more c.push_cut.new.cuts.items c.loop-block.cuts.items
      (c.in-Some.b, c.in-Some-pop.part) c.push_cut.ensures.items (c.loop-block.invariant.each o h all pairs)
      (paired-last c.loop-block.names.items c.pop.new.self.items c.loop-block.parts.items c.pop-in-loop-block.new.self.items c.in-Some.b
      c.in-Some-pop.part c.in-Some.ensures.items c.in-Some-pop.ensures.items (c.loop-block.invariant.pairs o h pairs));
  pairs = λ o h pairs. paired-front c.loop-block.names.items c.pop.new.self.items c.loop-block.parts.items
      c.pop-in-loop-block.new.self.items c.in-Some.b c.in-Some-pop.part c.in-Some.ensures.items c.in-Some-pop.ensures.items
      (c.loop-block.invariant.pairs o h pairs);
  faults = faults-moved g.S.Stake.faults c.loop-block.cuts.items c.push_cut.new.cuts.items c.loop-block.parts.items
      c.pop-in-loop-block.new.self.items c.in-Some.b c.in-Some-pop.part
      (sum_by (λ cut. g.S.Stake.faults cut.1) c.args.cuts.now.items + sum_by g.S.Stake.faults c.args.parts.items) c.push_cut.ensures.items
      c.in-Some-pop.ensures.items c.loop-block.invariant.faults;
}
