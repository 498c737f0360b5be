use Rattle.std.proofs.Common.{◌<◌, ◌∷◌, ◌∙◌, None, Some, sym, subst, arith}
use Rattle.std.proofs.lemmas.Bool.{false≢true}
use Rattle.sv_turn.specs.Passes.{pass_view}
use Rattle.sv_buf.specs.Changes.{calm_view, moving_view}
use Rattle.sv_buf.specs.Running.{IsRunning, seen_by}
use Rattle.sv_buf.specs.Pending.{IsPending}
use Rattle.sv_buf.proofs.Getting.{hit-valid, hit-invalid, taken-invalid, taken-unread, same_core}
use Rattle.sv_buf.proofs.Returning.{counted-inside}
use Rattle.sv_buf.proofs.getblk.getblk.Goals as goal

pub returns-in-Hit-clause-valid : goal.returns-in-Hit-clause-valid
returns-in-Hit-clause-valid g c = λ valid.
    subst (λ x. IsPending (IsRunning (seen_by g.D.Medium.content g.D.Medium.reads g.D.Medium.writes g.D.Medium.faults)) c.loop.pass
    (record c.loop.state { core = c.lend-bytes.new.self }) (moving_view c.in-Hit.buffer c.args.block
    (Some c.lend-bytes.result.items) (calm_view x))) (sym c.loop.invariant.2)
    (hit-valid _ c.loop.pass c.loop.state c.attempt.new.self c.lend-bytes.new.self (pass_view c.args.pass.now) c.in-Hit.buffer
    c.args.block c.lend-bytes.result.items c.loop.invariant.3 c.requires.fit.calm c.requires.fit.home
    c.in-Hit.ensures.cause c.in-Hit.ensures.after c.lend-bytes.ensures.after c.lend-bytes.ensures.lawful c.lend-bytes.ensures.lent valid)

pub returns-in-Hit-clause-invalid : goal.returns-in-Hit-clause-invalid
returns-in-Hit-clause-invalid g c = λ invalid.
    subst (λ x. IsPending (IsRunning (seen_by g.D.Medium.content g.D.Medium.reads g.D.Medium.writes g.D.Medium.faults)) c.loop.pass
    (record c.loop.state { core = c.lend-bytes.new.self }) (moving_view c.in-Hit.buffer c.args.block None x)) (sym c.loop.invariant.2)
    (hit-invalid _ c.loop.pass c.loop.state c.attempt.new.self c.lend-bytes.new.self (pass_view c.args.pass.now) c.in-Hit.buffer
    c.args.block c.loop.invariant.3 c.requires.fit.calm
    c.in-Hit.ensures.cause c.in-Hit.ensures.after c.lend-bytes.ensures.after c.lend-bytes.ensures.lawful invalid)

pub returns-in-Taken-clause-invalid : goal.returns-in-Taken-clause-invalid
returns-in-Taken-clause-invalid g c = λ _.
    subst (λ x. IsPending (IsRunning (seen_by g.D.Medium.content g.D.Medium.reads g.D.Medium.writes g.D.Medium.faults)) c.loop.pass
    (record c.loop.state { core = c.lend-bytes-in-Taken.new.self }) (moving_view c.in-Taken.buffer c.args.block None x))
    (sym c.loop.invariant.2)
    (taken-invalid _ c.loop.pass c.loop.state c.attempt.new.self c.lend-bytes-in-Taken.new.self (pass_view c.args.pass.now)
    c.in-Taken.buffer c.args.block c.loop.invariant.3 c.requires.fit.calm c.requires.fit.some c.requires.inside
    c.in-Taken.ensures.cause c.in-Taken.ensures.after c.lend-bytes-in-Taken.ensures.after c.lend-bytes-in-Taken.ensures.lawful)

pub returns-in-Taken-clause-valid : goal.returns-in-Taken-clause-valid
returns-in-Taken-clause-valid g c = λ valid.
    absurd (false≢true (sym (taken-unread _ c.loop.state c.attempt.new.self c.lend-bytes-in-Taken.new.self
    (pass_view c.args.pass.now ∷ c.loop.invariant.3.others) c.loop.invariant.3.so c.in-Taken.buffer c.args.block c.in-Taken.ensures.cause
    c.in-Taken.ensures.after c.lend-bytes-in-Taken.ensures.after) ∙ valid))

pub sleep_with-state-requires-clause-rule : goal.sleep_with-state-requires-clause-rule
sleep_with-state-requires-clause-rule g c = (
  c.loop.invariant.3.may.0,
  c.loop.invariant.3.may.1,
  λ others h.
      subst (λ x. IsRunning (seen_by g.D.Medium.content g.D.Medium.reads g.D.Medium.writes g.D.Medium.faults)
      (record c.loop.state { core = c.attempt.new.self }) (x ∷ others)) (sym c.loop.invariant.2)
      (same_core _ c.loop.state c.attempt.new.self (pass_view c.args.pass.now ∷ others) c.in-Empty.ensures.after
      (c.loop.invariant.3.may.2 others h)),
)

pub sleep_with-state-requires-in-Busy-clause-event : goal.sleep_with-state-requires-in-Busy-clause-event
sleep_with-state-requires-in-Busy-clause-event g c =
    let counted : c.in-Busy.buffer < (pass_view c.args.pass.now).opening.buffers = counted-inside _ c.loop.state
    (pass_view c.args.pass.now) c.loop.invariant.3.others c.loop.invariant.3.so c.in-Busy.buffer c.requires.fit.some
    c.in-Busy.ensures.cause.1.in_range in
    omega (arith, counted, c.requires.events)

pub sleep_with-state-requires-in-Busy-clause-rule : goal.sleep_with-state-requires-in-Busy-clause-rule
sleep_with-state-requires-in-Busy-clause-rule g c = (
  c.loop.invariant.3.may.0,
  c.loop.invariant.3.may.1,
  λ others h.
      subst (λ x. IsRunning (seen_by g.D.Medium.content g.D.Medium.reads g.D.Medium.writes g.D.Medium.faults)
      (record c.loop.state { core = c.attempt.new.self }) (x ∷ others)) (sym c.loop.invariant.2)
      (same_core _ c.loop.state c.attempt.new.self (pass_view c.args.pass.now ∷ others) c.in-Busy.ensures.after
      (c.loop.invariant.3.may.2 others h)),
)
