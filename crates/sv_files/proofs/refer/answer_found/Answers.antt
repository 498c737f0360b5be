use Rattle.std.proofs.Common.{◌≡◌, ◌∙◌, ap, refl, sym, subst}
use Rattle.sv_turn.specs.Passes.{pass_view}
use Rattle.sv_plain.specs.declared.history.entry.Entry.{Entry}
use Rattle.sv_plain.specs.declared.history.op.Op.TheVariants.{Look}
use Rattle.sv_files.specs.View.{View, Each, seen_by}
use Rattle.sv_files.specs.Adding.{HasCauseIn, HasOneLock, answered_view, failed_view}
use Rattle.sv_files.specs.Looking.{FindsAll}
use Rattle.sv_files.proofs.Answering.{answers-one, ended-home, failed-home, fails-one, room-one, same-ended}
use Rattle.sv_files.proofs.Finding.{finds-here, found-cause, found-inside}
use Rattle.sv_files.proofs.Moves.{home-alone}
use Rattle.sv_files.proofs.refer.answer_found.Goals as goal

pub put_stake-requires-clause-inside : goal.put_stake-requires-clause-inside
put_stake-requires-clause-inside g c =
    (room-one _ c.enter-state.result (pass_view c.enter-state.new.pass) c.enter-state.ensures.holds.0 c.requires.still.0
    c.args.locked.number (subst (λ v. HasOneLock v c.requires.still.0) (sym c.enter-state.ensures.same.1) c.requires.still.1)
    c.requires.still.2.number c.enter-state.ensures.holds.1).1

pub put_stake-requires-clause-away : goal.put_stake-requires-clause-away
put_stake-requires-clause-away g c =
    (room-one _ c.enter-state.result (pass_view c.enter-state.new.pass) c.enter-state.ensures.holds.0 c.requires.still.0
    c.args.locked.number (subst (λ v. HasOneLock v c.requires.still.0) (sym c.enter-state.ensures.same.1) c.requires.still.1)
    c.requires.still.2.number c.enter-state.ensures.holds.1).0

pub is_full_for-full-requires : goal.is_full_for-full-requires
is_full_for-full-requires g c = record {
  inside =
      found-inside _ c.enter-state.result (pass_view c.enter-state.new.pass) c.enter-state.ensures.holds.0 c.requires.still.0
      c.args.process c.args.dir c.args.name c.args.child
      (subst (λ v. HasOneLock v c.requires.still.0) (sym c.enter-state.ensures.same.1) c.requires.still.1)
      (subst (λ v. FindsAll v c.args.process c.args.dir c.args.name c.args.child) (sym c.enter-state.ensures.same.1) c.requires.finds)
      c.enter-state.ensures.holds.1;
}

pub note_found-requires : goal.note_found-requires
note_found-requires g c = record {
  inside =
      found-inside _ c.enter-state.result (pass_view c.enter-state.new.pass) c.enter-state.ensures.holds.0 c.requires.still.0
      c.args.process c.args.dir c.args.name c.args.child
      (subst (λ v. HasOneLock v c.requires.still.0) (sym c.enter-state.ensures.same.1) c.requires.still.1)
      (subst (λ v. FindsAll v c.args.process c.args.dir c.args.name c.args.child) (sym c.enter-state.ensures.same.1) c.requires.finds)
      c.enter-state.ensures.holds.1;
}

pub leave_answered-requires-clause-weight : goal.leave_answered-requires-clause-weight
leave_answered-requires-clause-weight g c κs within =
    same-ended c.enter-state.result.history.entries.items c.note_found.new.history.entries.items
    (record { process = c.args.process; op = Look c.args.dir c.args.name; reply = c.reply_found.result }) _
    (pass_view c.enter-state.new.pass) c.in-Ok.ensures.added

pub leave_answered-requires-clause-rule : goal.leave_answered-requires-clause-rule
leave_answered-requires-clause-rule g c κs within = (
  c.enter-state.result,
  c.enter-state.ensures.inside,
  λ others h.
      let same = sym c.enter-state.ensures.same.1 in
      let one = subst (λ v. HasOneLock v c.requires.still.0) same c.requires.still.1 in
      let mine = subst (λ (v : View). Each (λ p. p.process ≡ c.args.process) v.procs) same c.requires.mine in
      let entry : Entry = record { process = c.args.process; op = Look c.args.dir c.args.name; reply = c.reply_found.result } in
      let after = record c.enter-state.result {
        stakes = c.put_stake.new.stakes;
        references = c.note_found.new.references;
        history = c.note_found.new.history;
      } in
      answers-one (seen_by g.S.Stake.held g.S.Stake.lent g.S.Stake.origin g.S.Stake.faults g.S.Stake.forced) c.enter-state.result
      after (pass_view c.enter-state.new.pass) others c.requires.still.0 c.args.locked.number c.args.locked.stake c.args.locked.core
      entry one c.requires.still.2 mine
      (subst (λ r. HasCauseIn (pass_view c.enter-state.new.pass) (g.S.Stake.faults c.args.locked.stake) (record entry { reply = r }))
      (sym c.reply_found.ensures) (found-cause (pass_view c.enter-state.new.pass) _ entry c.is_full_for-full.result c.args.child))
      c.put_stake.ensures c.in-Ok.ensures.added
      (finds-here c.enter-state.result after (pass_view c.enter-state.new.pass) c.requires.still.0 one c.args.process c.args.dir
      c.args.name c.args.child c.is_full_for-full.result entry
      (subst (λ v. FindsAll v c.args.process c.args.dir c.args.name c.args.child) same c.requires.finds) mine
      c.is_full_for-full.ensures (ap (λ r. record entry { reply = r }) c.reply_found.ensures) c.in-Ok.ensures.added refl refl
      c.in-Ok.ensures.noted) h,
)

pub leave_home-requires-clause-rule : goal.leave_home-requires-clause-rule
leave_home-requires-clause-rule g c κs within = (
  c.enter-state.result,
  c.enter-state.ensures.inside,
  λ others h.
      let after = record c.enter-state.result {
        stakes = c.put_stake.new.stakes;
        references = c.note_found.new.references;
        history = c.note_found.new.history;
      } in
      fails-one (seen_by g.S.Stake.held g.S.Stake.lent g.S.Stake.origin g.S.Stake.faults g.S.Stake.forced) c.enter-state.result
      after (pass_view c.enter-state.new.pass) others c.requires.still.0 c.args.locked.number c.args.locked.stake c.args.locked.core
      (subst (λ v. HasOneLock v c.requires.still.0) (sym c.enter-state.ensures.same.1) c.requires.still.1) c.requires.still.2
      (home-alone after c.enter-state.result _ c.put_stake.ensures refl refl c.in-Err.ensures.same c.in-Err.ensures.kept.0
      c.in-Err.ensures.kept.1) h,
)

pub returns-in-Ok-clause-ok : goal.returns-in-Ok-clause-ok
returns-in-Ok-clause-ok g c =
    let same = c.enter-state.ensures.same.1 in
    let entry : Entry = record { process = c.args.process; op = Look c.args.dir c.args.name; reply = c.reply_found.result } in
    let room = room-one _ c.enter-state.result (pass_view c.enter-state.new.pass) c.enter-state.ensures.holds.0 c.requires.still.0
    c.args.locked.number (subst (λ v. HasOneLock v c.requires.still.0) (sym same) c.requires.still.1) c.requires.still.2.number
    c.enter-state.ensures.holds.1 in
    c.leave_answered.ensures.view
    ∙ ended-home (seen_by g.S.Stake.held g.S.Stake.lent g.S.Stake.origin g.S.Stake.faults g.S.Stake.forced)
    c.enter-state.result.stakes.items c.put_stake.new.stakes.items c.args.locked.number c.args.locked.stake
    c.enter-state.result.history.entries.items c.note_found.new.history.entries.items entry (pass_view c.enter-state.new.pass)
    c.put_stake.ensures room.1 c.in-Ok.ensures.added
    ∙ ap (answered_view entry (g.S.Stake.faults c.args.locked.stake)) same
    ∙ ap (λ r. answered_view (record entry { reply = r }) (g.S.Stake.faults c.args.locked.stake) (pass_view c.args.pass.now))
    (c.reply_found.ensures ∙ sym c.reply_found-in-Ok.ensures)

pub returns-in-Err-clause-err : goal.returns-in-Err-clause-err
returns-in-Err-clause-err g c =
    let same = c.enter-state.ensures.same.1 in
    let room = room-one _ c.enter-state.result (pass_view c.enter-state.new.pass) c.enter-state.ensures.holds.0 c.requires.still.0
    c.args.locked.number (subst (λ v. HasOneLock v c.requires.still.0) (sym same) c.requires.still.1) c.requires.still.2.number
    c.enter-state.ensures.holds.1 in
    c.leave_home.ensures.view
    ∙ failed-home (seen_by g.S.Stake.held g.S.Stake.lent g.S.Stake.origin g.S.Stake.faults g.S.Stake.forced)
    c.enter-state.result.stakes.items c.put_stake.new.stakes.items c.args.locked.number c.args.locked.stake
    (pass_view c.enter-state.new.pass) c.put_stake.ensures room.1
    ∙ ap (failed_view (g.S.Stake.faults c.args.locked.stake)) same
