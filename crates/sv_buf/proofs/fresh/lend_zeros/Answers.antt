use Rattle.std.proofs.Common.{◌≡◌, ◌∷◌, ◌∙◌, ℕ, length, replicate, sym, ap, subst}
use Rattle.std.proofs.lemmas.List.{length-replicate}
use Rattle.sv_turn.specs.Passes.{pass_view}
use Rattle.sv_buf.specs.Changes.{calm_view, lent_view, filled_view}
use Rattle.sv_buf.specs.Running.{IsRunning, seen_by}
use Rattle.sv_buf.proofs.Delaying.{taken-here, lent-filled}
use Rattle.sv_buf.proofs.fresh.lend_zeros.Goals as goal

pub delay-zeros-requires-clause-busy : goal.delay-zeros-requires-clause-busy
delay-zeros-requires-clause-busy g c = (taken-here _ c.args.pass.now c.args.state (pass_view c.args.pass.now) c.args.buffer c.args.block
    c.args.bytes.items c.requires.valid c.requires.invalid).busy

pub delay-zeros-requires-clause-out : goal.delay-zeros-requires-clause-out
delay-zeros-requires-clause-out g c = (taken-here _ c.args.pass.now c.args.state (pass_view c.args.pass.now) c.args.buffer c.args.block
    c.args.bytes.items c.requires.valid c.requires.invalid).away

pub delay-zeros-requires-clause-named : goal.delay-zeros-requires-clause-named
delay-zeros-requires-clause-named g c = (taken-here _ c.args.pass.now c.args.state (pass_view c.args.pass.now) c.args.buffer
    c.args.block c.args.bytes.items c.requires.valid c.requires.invalid).named

pub delay-zeros-requires-clause-size : goal.delay-zeros-requires-clause-size
delay-zeros-requires-clause-size g c =
    c.cleared.result.ok.0 ∙ (ap length c.cleared.ensures ∙ (length-replicate (length c.args.bytes.items) 0 ∙ (sym c.args.bytes.ok.0
    ∙ (c.requires.size ∙ sym (taken-here _ c.args.pass.now c.args.state (pass_view c.args.pass.now) c.args.buffer c.args.block
    c.args.bytes.items c.requires.valid c.requires.invalid).size))))

pub leave_with-requires-clause-rule : goal.leave_with-requires-clause-rule
leave_with-requires-clause-rule g c =
    let long : length c.delay-zeros.result.items ≡ (pass_view c.args.pass.now).opening.sizes.block_size =
    ap length (c.delay-zeros.ensures.bytes ∙ c.cleared.ensures) ∙ (length-replicate (length c.args.bytes.items) 0
    ∙ (sym c.args.bytes.ok.0 ∙ (c.requires.size ∙ sym c.requires.fit.sizes.block_size))) in
    let p = lent-filled _ c.args.pass.now c.args.state c.delay-zeros.new.core (pass_view c.args.pass.now) c.args.buffer c.args.block
    c.args.bytes.items c.delay-zeros.result.items c.requires.fit.home c.requires.fit.some long c.requires.whole
    c.delay-zeros.ensures.after c.delay-zeros.ensures.lawful c.requires.valid c.requires.invalid in (
      p.may.0,
      p.may.1,
      λ others h.
          subst (λ q. IsRunning (seen_by g.D.Medium.content g.D.Medium.reads g.D.Medium.writes g.D.Medium.faults)
          (record c.args.state { core = c.delay-zeros.new.core }) (lent_view c.args.buffer c.args.block q
          (filled_view c.args.block q (calm_view (pass_view c.args.pass.now))) ∷ others)) (sym c.as_slice.ensures.value)
          (p.may.2 others h),
    )

pub returns-clause-view : goal.returns-clause-view
returns-clause-view g c =
    c.leave_with.ensures.view ∙ ap (λ q. lent_view c.args.buffer c.args.block q
    (filled_view c.args.block q (calm_view (pass_view c.args.pass.now)))) (c.as_slice.ensures.value ∙ sym c.new.ensures.bytes)

pub returns-clause-zeros : goal.returns-clause-zeros
returns-clause-zeros g c =
    c.new.ensures.bytes ∙ (c.delay-zeros.ensures.bytes ∙ (c.cleared.ensures
    ∙ ap (λ (n : ℕ). replicate n 0) (sym c.args.bytes.ok.0 ∙ c.requires.size)))
