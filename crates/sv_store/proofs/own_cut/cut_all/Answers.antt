-- One range more has moved.
use Rattle.std.proofs.Common.{◌≡◌, ◌++◌, ◌+◌, ◌∷◌, [], List, take, get_or, sym, ap, ◌∙◌, subst, arith}
use Rattle.std.proofs.lemmas.List.{take_more, get_or_default}
use Rattle.sv_form.specs.declared.owners.LineRange.{LineRange}
use Rattle.sv_store.specs.OwnBlock.{Moves}
use Rattle.sv_store.proofs.OwnCut.{moves-none, moves-apart, moves-more, away-one}
use Rattle.sv_store.proofs.own_cut.cut_all.Goals as goal

pub loop-i-init : goal.loop-i-init
loop-i-init c = record { moves = moves-none c.requires.sound c.requires.none }

pub cut-requires-clause-apart : goal.cut-requires-clause-apart
cut-requires-clause-apart c = moves-apart c.loop-i.invariant.moves

pub cut-requires-clause-away : goal.cut-requires-clause-away
cut-requires-clause-away c = λ b l is. ap (λ q. q b) c.loop-i.invariant.moves.lends ∙ c.requires.away b l (away-one c.args.lines.now c.loop-i.i (get_or c.args.lines.now c.loop-i.i (record { block = 0; first = 0; count = 0 })) b l c.loop-i-test.true (get_or_default c.args.lines.now c.loop-i.i (record { block = 0; first = 0; count = 0 }) (get_or c.args.lines.now c.loop-i.i (record { block = 0; first = 0; count = 0 })) c.loop-i-test.true) is)

pub loop-i-preserved : goal.loop-i-preserved
loop-i-preserved c = record {
  moves =
      (let P : List LineRange → Type 0 = λ q. Moves c.args.sizes q c.args.blocks.now [] c.cut.new.blocks c.cut.new.taken in
      subst P (sym (take_more c.args.lines.now c.loop-i.i (record { block = 0; first = 0; count = 0 }) c.loop-i-test.true)) (moves-more (get_or c.args.lines.now c.loop-i.i (record { block = 0; first = 0; count = 0 })) c.loop-i.invariant.moves c.in_ok-cut.ensures.ok));
}
