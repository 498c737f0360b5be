use Rattle.std.proofs.Common.{◌<◌, ◌∙◌, ap, sym, subst, arith, IsSome, length}
use Rattle.sv_turn.specs.Passes.{pass_view}
use Rattle.sv_cache.specs.Brelse.{after_release}
use Rattle.sv_buf.specs.View.{View}
use Rattle.sv_buf.proofs.Returning.{lent-some, lent-here, returns, counted-inside, lent-under, calm-under, some-under}
use Rattle.sv_buf.proofs.give.take_back.Goals as goal

pub unwrap-buffer-requires : goal.unwrap-buffer-requires
unwrap-buffer-requires g c =
    let h = c.enter-state.ensures.holds.1 in
    let lent = lent-under _ (pass_view c.enter-state.new.pass) c.args.buf.block c.block-block.result c.args.buf.bytes
    c.enter-state.ensures.same.1 c.block-block.ensures c.requires.lent in
    subst (λ o. IsSome o) (sym c.find.ensures.holder) (lent-some _ c.enter-state.result (pass_view c.enter-state.new.pass) _ h
    c.block-block.result c.args.buf.bytes lent)

pub give_back-requires-clause-busy : goal.give_back-requires-clause-busy
give_back-requires-clause-busy g c =
    let h = c.enter-state.ensures.holds.1 in
    let lent = lent-under _ (pass_view c.enter-state.new.pass) c.args.buf.block c.block-block.result c.args.buf.bytes
    c.enter-state.ensures.same.1 c.block-block.ensures c.requires.lent in
    (lent-here _ c.enter-state.result (pass_view c.enter-state.new.pass) _ h c.unwrap-buffer.result c.block-block.result
    c.args.buf.bytes lent (sym c.find.ensures.holder ∙ c.unwrap-buffer.ensures)).busy

pub give_back-requires-clause-out : goal.give_back-requires-clause-out
give_back-requires-clause-out g c =
    let h = c.enter-state.ensures.holds.1 in
    let lent = lent-under _ (pass_view c.enter-state.new.pass) c.args.buf.block c.block-block.result c.args.buf.bytes
    c.enter-state.ensures.same.1 c.block-block.ensures c.requires.lent in
    (lent-here _ c.enter-state.result (pass_view c.enter-state.new.pass) _ h c.unwrap-buffer.result c.block-block.result
    c.args.buf.bytes lent (sym c.find.ensures.holder ∙ c.unwrap-buffer.ensures)).away

pub give_back-requires-clause-size : goal.give_back-requires-clause-size
give_back-requires-clause-size g c =
    let h = c.enter-state.ensures.holds.1 in
    let lent = lent-under _ (pass_view c.enter-state.new.pass) c.args.buf.block c.block-block.result c.args.buf.bytes
    c.enter-state.ensures.same.1 c.block-block.ensures c.requires.lent in
    c.into_bytes.result.ok.0 ∙ (ap length c.into_bytes.ensures
    ∙ (lent-here _ c.enter-state.result (pass_view c.enter-state.new.pass) _ h c.unwrap-buffer.result c.block-block.result
    c.args.buf.bytes lent (sym c.find.ensures.holder ∙ c.unwrap-buffer.ensures)).size)

pub leave_with-requires-clause-rule : goal.leave_with-requires-clause-rule
leave_with-requires-clause-rule g c =
    let same = c.enter-state.ensures.same.1 in
    let lent = lent-under _ (pass_view c.enter-state.new.pass) c.args.buf.block c.block-block.result c.args.buf.bytes same
    c.block-block.ensures c.requires.lent in (
      c.enter-state.result,
      c.enter-state.ensures.inside,
      λ others h.
          returns _ c.enter-state.result c.give_back.new.self (pass_view c.enter-state.new.pass) others h c.unwrap-buffer.result
          c.block-block.result c.args.buf.bytes c.as_it_was-how.result
          (calm-under _ (pass_view c.enter-state.new.pass) same c.requires.calm) lent (sym c.find.ensures.holder
          ∙ c.unwrap-buffer.ensures) c.as_it_was-how.ensures
          (c.give_back.ensures.after ∙ ap (λ q. after_release c.enter-state.result.core c.unwrap-buffer.result q c.as_it_was-how.result)
          c.into_bytes.ensures) c.give_back.ensures.lawful,
    )

pub wake-requires-2 : goal.wake-requires-2
wake-requires-2 g c =
    let h = c.enter-state.ensures.holds.1 in
    let same = c.enter-state.ensures.same.1 in
    let lent = lent-under _ (pass_view c.enter-state.new.pass) c.args.buf.block c.block-block.result c.args.buf.bytes same
    c.block-block.ensures c.requires.lent in
    let inside = (lent-here _ c.enter-state.result (pass_view c.enter-state.new.pass) _ h c.unwrap-buffer.result c.block-block.result
    c.args.buf.bytes lent (sym c.find.ensures.holder ∙ c.unwrap-buffer.ensures)).inside in
    let counted = counted-inside _ c.enter-state.result (pass_view c.enter-state.new.pass) _ h c.unwrap-buffer.result
    (some-under _ (pass_view c.enter-state.new.pass) same c.requires.some) inside in
    let here : c.unwrap-buffer.result < (pass_view c.args.pass.now).opening.buffers = subst
    (λ (v : View). c.unwrap-buffer.result < v.opening.buffers) same counted in
    omega (arith, here, c.requires.events)
