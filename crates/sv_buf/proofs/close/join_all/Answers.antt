use Rattle.std.proofs.Common.{◌∙◌, ◌++◌, [], ◌∷◌, length, ap, arith}
use Rattle.std.specs.Prelude.{option_to_list}
use Rattle.std.proofs.lemmas.List.{length-append}
use Rattle.sv_turn.specs.Passes.{pass_view, first_view}
use Rattle.sv_buf.proofs.Joining.{quiet-cut, first-gathered, next-back, next-gathered}
use Rattle.sv_buf.proofs.close.join_all.Goals as goal

pub loop-pass-init : goal.loop-pass-init
loop-pass-init g c = record {
  left = omega (arith, c.len-count.ensures, c.pop.new.self.ok.0);
  gathers = first-gathered c.args.turn.now c.args.passes.items c.pop.new.self.items c.unwrap-whole.result
      (c.pop.ensures.items ∙ ap (λ o. c.pop.new.self.items ++ option_to_list o) c.unwrap-whole.ensures) c.requires.back;
}

pub join-requires-clause-away : goal.join-requires-clause-away
join-requires-clause-away g c =
    let h = c.loop-pass.invariant.gathers in
    let next = next-back c.args.turn.now c.args.passes.items c.loop-pass.passes.items c.pop-in-loop-pass.new.self.items c.loop-pass.whole
    c.in-Some.pass h c.in-Some.ensures.items in
    (h.away, next.away)

pub join-requires-clause-cuts : goal.join-requires-clause-cuts
join-requires-clause-cuts g c =
    let h = c.loop-pass.invariant.gathers in
    let next = next-back c.args.turn.now c.args.passes.items c.loop-pass.passes.items c.pop-in-loop-pass.new.self.items c.loop-pass.whole
    c.in-Some.pass h c.in-Some.ensures.items in
    quiet-cut (first_view c.args.turn.now).opening (pass_view c.loop-pass.whole) (pass_view c.in-Some.pass) h.quiet next.quiet

pub loop-pass-preserved : goal.loop-pass-preserved
loop-pass-preserved g c =
    let h = c.loop-pass.invariant.gathers in
    record {
      left = omega (
        arith,
        c.loop-pass.invariant.left,
        ap length c.in-Some.ensures.items,
        length-append c.pop-in-loop-pass.new.self.items (c.in-Some.pass ∷ []),
      );
      gathers = next-gathered c.args.turn.now c.args.passes.items c.loop-pass.passes.items c.pop-in-loop-pass.new.self.items
          c.loop-pass.whole c.in-Some.pass c.join.new.pass h c.in-Some.ensures.items (c.join.ensures.same.0.0 ∙ h.own)
          c.join.ensures.same.1 c.join.ensures.view;
    }
