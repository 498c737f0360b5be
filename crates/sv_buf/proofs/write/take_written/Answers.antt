use Rattle.std.proofs.Common.{◌≡◌, ◌<◌, ◌∙◌, ◌∷◌, ap, sym, subst, IsSome, Some, length}
use Rattle.sv_turn.specs.Passes.{pass_view}
use Rattle.sv_cache.specs.Cache.{holder}
use Rattle.sv_buf.specs.View.{View}
use Rattle.sv_buf.specs.Changes.{moving_view, written_view}
use Rattle.sv_buf.specs.Running.{IsRunning, seen_by}
use Rattle.sv_buf.proofs.Returning.{lent-some, lent-here, lent-size, lent-under, calm-under, some-under}
use Rattle.sv_buf.proofs.Putting.{put-under}
use Rattle.sv_buf.proofs.Writing.{puts_written, lent-below}
use Rattle.sv_buf.proofs.write.take_written.Goals as goal

pub unwrap-buffer-requires : goal.unwrap-buffer-requires
unwrap-buffer-requires g c =
    let h = c.enter-state.ensures.holds.1 in
    let lent = lent-under _ (pass_view c.enter-state.new.pass) c.args.buf.block c.block-block.result c.requires.put.was
    c.enter-state.ensures.same.1 c.block-block.ensures c.requires.put.from in
    subst (λ o. IsSome o) (sym c.find.ensures.holder) (lent-some _ c.enter-state.result (pass_view c.enter-state.new.pass) _ h
    c.block-block.result c.requires.put.was lent)

pub delay-bytes-requires-clause-busy : goal.delay-bytes-requires-clause-busy
delay-bytes-requires-clause-busy g c =
    let h = c.enter-state.ensures.holds.1 in
    let lent = lent-under _ (pass_view c.enter-state.new.pass) c.args.buf.block c.block-block.result c.requires.put.was
    c.enter-state.ensures.same.1 c.block-block.ensures c.requires.put.from in
    (lent-here _ c.enter-state.result (pass_view c.enter-state.new.pass) _ h c.unwrap-buffer.result c.block-block.result
    c.requires.put.was lent (sym c.find.ensures.holder ∙ c.unwrap-buffer.ensures)).busy

pub delay-bytes-requires-clause-out : goal.delay-bytes-requires-clause-out
delay-bytes-requires-clause-out g c =
    let h = c.enter-state.ensures.holds.1 in
    let lent = lent-under _ (pass_view c.enter-state.new.pass) c.args.buf.block c.block-block.result c.requires.put.was
    c.enter-state.ensures.same.1 c.block-block.ensures c.requires.put.from in
    (lent-here _ c.enter-state.result (pass_view c.enter-state.new.pass) _ h c.unwrap-buffer.result c.block-block.result
    c.requires.put.was lent (sym c.find.ensures.holder ∙ c.unwrap-buffer.ensures)).away

pub delay-bytes-requires-clause-size : goal.delay-bytes-requires-clause-size
delay-bytes-requires-clause-size g c =
    let h = c.enter-state.ensures.holds.1 in
    let lent = lent-under _ (pass_view c.enter-state.new.pass) c.args.buf.block c.block-block.result c.requires.put.was
    c.enter-state.ensures.same.1 c.block-block.ensures c.requires.put.from in
    c.into_bytes.result.ok.0 ∙ (ap length c.into_bytes.ensures ∙ (c.requires.put.size
    ∙ (lent-here _ c.enter-state.result (pass_view c.enter-state.new.pass) _ h c.unwrap-buffer.result c.block-block.result
    c.requires.put.was lent (sym c.find.ensures.holder ∙ c.unwrap-buffer.ensures)).size))

pub delay-bytes-requires-clause-named : goal.delay-bytes-requires-clause-named
delay-bytes-requires-clause-named g c =
    let h = c.enter-state.ensures.holds.1 in
    let lent = lent-under _ (pass_view c.enter-state.new.pass) c.args.buf.block c.block-block.result c.requires.put.was
    c.enter-state.ensures.same.1 c.block-block.ensures c.requires.put.from in
    (lent-here _ c.enter-state.result (pass_view c.enter-state.new.pass) _ h c.unwrap-buffer.result c.block-block.result
    c.requires.put.was lent (sym c.find.ensures.holder ∙ c.unwrap-buffer.ensures)).named

pub leave_with-requires-clause-rule : goal.leave_with-requires-clause-rule
leave_with-requires-clause-rule g c =
    let same = c.enter-state.ensures.same.1 in
    let are = c.as_slice.ensures.value ∙ (c.delay-bytes.ensures.bytes ∙ c.into_bytes.ensures) in (
      c.enter-state.result,
      c.enter-state.ensures.inside,
      λ others h.
          let can = put-under _ (pass_view c.enter-state.new.pass) c.args.buf same c.requires.put in
          let holds : holder c.enter-state.result.core c.args.buf.block ≡ Some c.unwrap-buffer.result = ap
          (holder c.enter-state.result.core) (sym c.block-block.ensures) ∙ (sym c.find.ensures.holder ∙ c.unwrap-buffer.ensures) in
          subst (λ b. IsRunning (seen_by g.D.Medium.content g.D.Medium.reads g.D.Medium.writes g.D.Medium.faults)
          (record c.enter-state.result { core = c.delay-bytes.new.core }) (moving_view c.unwrap-buffer.result b
          (Some c.as_slice.result.now) (written_view b c.as_slice.result.now (pass_view c.enter-state.new.pass)) ∷ others))
          (sym c.block-block.ensures)
          (subst (λ q. IsRunning (seen_by g.D.Medium.content g.D.Medium.reads g.D.Medium.writes g.D.Medium.faults)
          (record c.enter-state.result { core = c.delay-bytes.new.core }) (moving_view c.unwrap-buffer.result c.args.buf.block
          (Some q) (written_view c.args.buf.block q (pass_view c.enter-state.new.pass)) ∷ others)) (sym are)
          (puts_written _ c.enter-state.result c.delay-bytes.new.core (pass_view c.enter-state.new.pass) others h
          c.unwrap-buffer.result c.args.buf can (calm-under _ (pass_view c.enter-state.new.pass) same c.requires.calm) holds
          c.delay-bytes.ensures.after c.delay-bytes.ensures.lawful)),
    )

pub returns-clause-view : goal.returns-clause-view
returns-clause-view g c =
    let are = c.as_slice.ensures.value ∙ (c.delay-bytes.ensures.bytes ∙ c.into_bytes.ensures) in
    c.leave_with.ensures.view
    ∙ (ap (λ v. moving_view c.unwrap-buffer.result c.block-block.result (Some c.as_slice.result.now)
    (written_view c.block-block.result c.as_slice.result.now v)) c.enter-state.ensures.same.1
    ∙ (ap (λ q. moving_view c.unwrap-buffer.result c.block-block.result (Some q)
    (written_view c.block-block.result q (pass_view c.args.pass.now))) are
    ∙ ap (λ b. moving_view c.unwrap-buffer.result b (Some c.args.buf.bytes)
    (written_view b c.args.buf.bytes (pass_view c.args.pass.now))) c.block-block.ensures))

pub returns-clause-inside : goal.returns-clause-inside
returns-clause-inside g c =
    let h = c.enter-state.ensures.holds.1 in
    let same = c.enter-state.ensures.same.1 in
    let lent = lent-under _ (pass_view c.enter-state.new.pass) c.args.buf.block c.block-block.result c.requires.put.was same
    c.block-block.ensures c.requires.put.from in
    let below = lent-below _ c.enter-state.result (pass_view c.enter-state.new.pass) _ h c.unwrap-buffer.result c.block-block.result
    c.requires.put.was (some-under _ (pass_view c.enter-state.new.pass) same c.requires.some) lent (sym c.find.ensures.holder
    ∙ c.unwrap-buffer.ensures) in
    subst (λ b. b < (pass_view c.args.pass.now).opening.sizes.blocks) c.block-block.ensures
    (subst (λ (v : View). c.block-block.result < v.opening.sizes.blocks) same below)

pub returns-clause-size : goal.returns-clause-size
returns-clause-size g c =
    let h = c.enter-state.ensures.holds.1 in
    let same = c.enter-state.ensures.same.1 in
    let lent = lent-under _ (pass_view c.enter-state.new.pass) c.args.buf.block c.block-block.result c.requires.put.was same
    c.block-block.ensures c.requires.put.from in
    let size = lent-size _ c.enter-state.result (pass_view c.enter-state.new.pass) _ h c.unwrap-buffer.result c.block-block.result
    c.requires.put.was (some-under _ (pass_view c.enter-state.new.pass) same c.requires.some) lent (sym c.find.ensures.holder
    ∙ c.unwrap-buffer.ensures) in
    c.requires.put.size ∙ subst (λ (v : View). length c.requires.put.was ≡ v.opening.sizes.block_size) same size
