-- One block more at each turn.
use Rattle.std.proofs.Common.{◌++◌, ◌∷◌, [], get_or, refl, ap, sym, ◌∙◌}
use Rattle.std.proofs.lemmas.List.{take_more}
use Rattle.sv_inode.specs.Truncate.{less_all, names_of}
use Rattle.sv_inode.proofs.GivenBack.{cut-more, cut-none, data-left, named-once, names-push, other-left, whole-left}
use Rattle.sv_super.specs.Count.{times}
use Rattle.sv_inode.proofs.cuts.cut_each.Goals as goal

pub loop-b-init : goal.loop-b-init
loop-b-init g c = record {
  cuts = cut-none g.S.Stake.held g.S.Stake.lent g.S.Stake.origin g.S.Stake.forced g.S.Stake.faults (g.S.Stake.origin c.args.s.now)
      (g.S.Stake.held c.args.s.now) c.args.cuts.now.items c.requires.none;
  names = ap names_of c.requires.none;
  lends = c.requires.lent;
  faults = refl;
  forced = refl;
  origin = refl;
}

pub cut_next-requires-clause-block : goal.cut_next-requires-clause-block
cut_next-requires-clause-block g c κs within =
    whole-left c.args.blocks.now c.loop-b.b-index 0 c.requires.blocks c.loop-b-test.true c.loop-b.invariant.origin
    (c.loop-b.invariant.cuts.left ∙ ap (λ q. less_all q (g.S.Stake.held c.args.s.now)) c.loop-b.invariant.names)

pub cut_next-requires-clause-in_data : goal.cut_next-requires-clause-in_data
cut_next-requires-clause-in_data g c κs within =
    data-left {o = g.S.Stake.origin c.args.s.now} {h = g.S.Stake.held c.args.s.now} c.args.blocks.now c.loop-b.b-index 0 c.requires.blocks
    c.loop-b-test.true c.loop-b.invariant.origin

pub cut_next-requires-clause-other : goal.cut_next-requires-clause-other
cut_next-requires-clause-other g c κs within =
    other-left c.args.blocks.now c.loop-b.b-index c.requires.blocks c.requires.other c.loop-b.invariant.origin
    (c.loop-b.invariant.cuts.left ∙ ap (λ q. less_all q (g.S.Stake.held c.args.s.now)) c.loop-b.invariant.names)

pub loop-b-preserved : goal.loop-b-preserved
loop-b-preserved g c = record {
  cuts = cut-more (get_or c.args.blocks.now c.loop-b.b-index 0) c.loop-b.invariant.cuts
      (ap (times (get_or c.args.blocks.now c.loop-b.b-index 0)) c.loop-b.invariant.names
      ∙ named-once c.args.blocks.now c.loop-b.b-index 0 c.requires.blocks c.loop-b-test.true) c.loop-b.invariant.origin
      c.in_ok-cut_next.ensures.mine c.in_ok-cut_next.ensures.cut;
  names = names-push c.cut_next.new.cuts.items c.loop-b.cuts.items
      (get_or c.args.blocks.now c.loop-b.b-index 0, c.in_ok-cut_next.ensures.cut.0) c.in_ok-cut_next.ensures.cut.1.0
      ∙ (ap (λ q. q ++ get_or c.args.blocks.now c.loop-b.b-index 0 ∷ []) c.loop-b.invariant.names
      ∙ sym (take_more c.args.blocks.now c.loop-b.b-index 0 c.loop-b-test.true));
  lends = c.in_ok-cut_next.ensures.lends;
  faults = c.in_ok-cut_next.ensures.faults ∙ c.loop-b.invariant.faults;
  forced = c.in_ok-cut_next.ensures.forced ∙ c.loop-b.invariant.forced;
  origin = c.in_ok-cut_next.ensures.origin ∙ c.loop-b.invariant.origin;
}
