use Rattle.std.proofs.Common.{◌∙◌, ap, refl, sym, subst}
use Rattle.sv_turn.specs.Passes.{pass_view}
use Rattle.sv_files.specs.View.{seen_by}
use Rattle.sv_files.specs.Adding.{HasCauseIn, HasOneLock, IsEntryOf, KeepsAll, answered_view, failed_view}
use Rattle.sv_files.proofs.Answering.{answers-one, ended-home, failed-home, fails-one, keeps-one, room-one, same-ended}
use Rattle.sv_files.proofs.Moves.{home-alone}
use Rattle.sv_files.proofs.answer.answer.Goals as goal

pub put_stake-requires-clause-inside : goal.put_stake-requires-clause-inside
put_stake-requires-clause-inside g c =
    (room-one _ c.enter-state.result (pass_view c.enter-state.new.pass) c.enter-state.ensures.holds.0 c.requires.still.0
    c.args.locked.number (subst (λ v. HasOneLock v c.requires.still.0) (sym c.enter-state.ensures.same.1) c.requires.still.1)
    c.requires.still.2.number c.enter-state.ensures.holds.1).1

pub put_stake-requires-clause-away : goal.put_stake-requires-clause-away
put_stake-requires-clause-away g c =
    (room-one _ c.enter-state.result (pass_view c.enter-state.new.pass) c.enter-state.ensures.holds.0 c.requires.still.0
    c.args.locked.number (subst (λ v. HasOneLock v c.requires.still.0) (sym c.enter-state.ensures.same.1) c.requires.still.1)
    c.requires.still.2.number c.enter-state.ensures.holds.1).0

pub leave_answered-requires-clause-weight : goal.leave_answered-requires-clause-weight
leave_answered-requires-clause-weight g c κs within =
    same-ended c.enter-state.result.history.entries.items c.push.new.self.entries.items c.args.entry _
    (pass_view c.enter-state.new.pass) c.in-Ok.ensures.ok

pub leave_answered-requires-clause-rule : goal.leave_answered-requires-clause-rule
leave_answered-requires-clause-rule g c κs within = (
  c.enter-state.result,
  c.enter-state.ensures.inside,
  λ others h.
      let same = sym c.enter-state.ensures.same.1 in
      let one = subst (λ v. HasOneLock v c.requires.still.0) same c.requires.still.1 in
      let mine = subst (λ v. IsEntryOf v c.args.entry) same c.requires.mine in
      let after = record c.enter-state.result { stakes = c.put_stake.new.stakes; history = c.push.new.self } in
      answers-one (seen_by g.S.Stake.held g.S.Stake.lent g.S.Stake.origin g.S.Stake.faults g.S.Stake.forced) c.enter-state.result
      after (pass_view c.enter-state.new.pass) others c.requires.still.0 c.args.locked.number c.args.locked.stake c.args.locked.core
      c.args.entry one c.requires.still.2 mine
      (subst (λ v. HasCauseIn v (g.S.Stake.faults c.args.locked.stake) c.args.entry) same c.requires.cause)
      c.put_stake.ensures c.in-Ok.ensures.ok
      (keeps-one c.enter-state.result after (pass_view c.enter-state.new.pass) c.requires.still.0 c.args.entry one
      (subst (λ v. KeepsAll v c.args.entry) same c.requires.legal) mine c.in-Ok.ensures.ok c.push.ensures.owed refl refl refl) h,
)

pub leave_home-requires-clause-rule : goal.leave_home-requires-clause-rule
leave_home-requires-clause-rule g c κs within = (
  c.enter-state.result,
  c.enter-state.ensures.inside,
  λ others h.
      fails-one (seen_by g.S.Stake.held g.S.Stake.lent g.S.Stake.origin g.S.Stake.faults g.S.Stake.forced) c.enter-state.result
      (record c.enter-state.result { stakes = c.put_stake.new.stakes; history = c.push.new.self })
      (pass_view c.enter-state.new.pass) others c.requires.still.0 c.args.locked.number c.args.locked.stake c.args.locked.core
      (subst (λ v. HasOneLock v c.requires.still.0) (sym c.enter-state.ensures.same.1) c.requires.still.1) c.requires.still.2
      (home-alone (record c.enter-state.result { stakes = c.put_stake.new.stakes; history = c.push.new.self }) c.enter-state.result _
      c.put_stake.ensures refl refl refl c.in-Err.ensures.err c.push.ensures.owed) h,
)

pub returns-in-Ok-clause-ok : goal.returns-in-Ok-clause-ok
returns-in-Ok-clause-ok g c =
    let same = c.enter-state.ensures.same.1 in
    let room = room-one _ c.enter-state.result (pass_view c.enter-state.new.pass) c.enter-state.ensures.holds.0 c.requires.still.0
    c.args.locked.number (subst (λ v. HasOneLock v c.requires.still.0) (sym same) c.requires.still.1) c.requires.still.2.number
    c.enter-state.ensures.holds.1 in
    c.leave_answered.ensures.view
    ∙ ended-home (seen_by g.S.Stake.held g.S.Stake.lent g.S.Stake.origin g.S.Stake.faults g.S.Stake.forced)
    c.enter-state.result.stakes.items c.put_stake.new.stakes.items c.args.locked.number c.args.locked.stake
    c.enter-state.result.history.entries.items c.push.new.self.entries.items c.args.entry (pass_view c.enter-state.new.pass)
    c.put_stake.ensures room.1 c.in-Ok.ensures.ok
    ∙ ap (answered_view c.args.entry (g.S.Stake.faults c.args.locked.stake)) same

pub returns-in-Err-clause-err : goal.returns-in-Err-clause-err
returns-in-Err-clause-err g c =
    let same = c.enter-state.ensures.same.1 in
    let room = room-one _ c.enter-state.result (pass_view c.enter-state.new.pass) c.enter-state.ensures.holds.0 c.requires.still.0
    c.args.locked.number (subst (λ v. HasOneLock v c.requires.still.0) (sym same) c.requires.still.1) c.requires.still.2.number
    c.enter-state.ensures.holds.1 in
    c.leave_home.ensures.view
    ∙ failed-home (seen_by g.S.Stake.held g.S.Stake.lent g.S.Stake.origin g.S.Stake.faults g.S.Stake.forced)
    c.enter-state.result.stakes.items c.put_stake.new.stakes.items c.args.locked.number c.args.locked.stake
    (pass_view c.enter-state.new.pass) c.put_stake.ensures room.1
    ∙ ap (failed_view (g.S.Stake.faults c.args.locked.stake)) same
