use Rattle.std.proofs.Common.{◌≡◌, ◌<◌, ◌∙◌, ◌∷◌, ap, sym, subst, arith, IsSome, Some, [], unwrap_or, length}
use Rattle.sv_turn.specs.Passes.{pass_view}
use Rattle.sv_cache.specs.Cache.{buffer_at, holder}
use Rattle.sv_cache.specs.Brelse.{after_release}
use Rattle.sv_cache.specs.declared.scenario.Release.TheVariants as how
use Rattle.sv_buf.specs.View.{View}
use Rattle.sv_buf.specs.Changes.{put_view}
use Rattle.sv_buf.specs.Running.{IsRunning, seen_by}
use Rattle.sv_buf.proofs.Returning.{lent-some, lent-here, lent-size, counted-inside, lent-under, calm-under, some-under}
use Rattle.sv_buf.proofs.Putting.{puts, given-bytes, put-under}
use Rattle.sv_buf.proofs.give.take_put.Goals as goal

pub unwrap-buffer-requires : goal.unwrap-buffer-requires
unwrap-buffer-requires g c =
    let h = c.enter-state.ensures.holds.1 in
    let lent = lent-under _ (pass_view c.enter-state.new.pass) c.args.buf.block c.block-block.result c.requires.put.was
    c.enter-state.ensures.same.1 c.block-block.ensures c.requires.put.from in
    subst (λ o. IsSome o) (sym c.find.ensures.holder) (lent-some _ c.enter-state.result (pass_view c.enter-state.new.pass) _ h
    c.block-block.result c.requires.put.was lent)

pub give_back-requires-clause-busy : goal.give_back-requires-clause-busy
give_back-requires-clause-busy g c =
    let h = c.enter-state.ensures.holds.1 in
    let lent = lent-under _ (pass_view c.enter-state.new.pass) c.args.buf.block c.block-block.result c.requires.put.was
    c.enter-state.ensures.same.1 c.block-block.ensures c.requires.put.from in
    (lent-here _ c.enter-state.result (pass_view c.enter-state.new.pass) _ h c.unwrap-buffer.result c.block-block.result
    c.requires.put.was lent (sym c.find.ensures.holder ∙ c.unwrap-buffer.ensures)).busy

pub give_back-requires-clause-out : goal.give_back-requires-clause-out
give_back-requires-clause-out g c =
    let h = c.enter-state.ensures.holds.1 in
    let lent = lent-under _ (pass_view c.enter-state.new.pass) c.args.buf.block c.block-block.result c.requires.put.was
    c.enter-state.ensures.same.1 c.block-block.ensures c.requires.put.from in
    (lent-here _ c.enter-state.result (pass_view c.enter-state.new.pass) _ h c.unwrap-buffer.result c.block-block.result
    c.requires.put.was lent (sym c.find.ensures.holder ∙ c.unwrap-buffer.ensures)).away

pub give_back-requires-clause-size : goal.give_back-requires-clause-size
give_back-requires-clause-size g c =
    let h = c.enter-state.ensures.holds.1 in
    let lent = lent-under _ (pass_view c.enter-state.new.pass) c.args.buf.block c.block-block.result c.requires.put.was
    c.enter-state.ensures.same.1 c.block-block.ensures c.requires.put.from in
    c.into_bytes.result.ok.0 ∙ (ap length c.into_bytes.ensures ∙ (c.requires.put.size
    ∙ (lent-here _ c.enter-state.result (pass_view c.enter-state.new.pass) _ h c.unwrap-buffer.result c.block-block.result
    c.requires.put.was lent (sym c.find.ensures.holder ∙ c.unwrap-buffer.ensures)).size))

pub leave_with-requires-clause-rule : goal.leave_with-requires-clause-rule
leave_with-requires-clause-rule g c =
    let same = c.enter-state.ensures.same.1 in (
      c.enter-state.result,
      c.enter-state.ensures.inside,
      λ others h.
          let can = put-under _ (pass_view c.enter-state.new.pass) c.args.buf same c.requires.put in
          let holds : holder c.enter-state.result.core c.args.buf.block ≡ Some c.unwrap-buffer.result = ap
          (holder c.enter-state.result.core) (sym c.block-block.ensures) ∙ (sym c.find.ensures.holder ∙ c.unwrap-buffer.ensures) in
          let inside = (lent-here _ c.enter-state.result (pass_view c.enter-state.new.pass) others h c.unwrap-buffer.result
          c.args.buf.block can.was can.from holds).inside in
          let bytes = given-bytes c.enter-state.result.core c.give_back.new.self c.unwrap-buffer.result c.args.buf.bytes
          c.into_bytes.result.items c.into_bytes.ensures inside c.give_back.ensures.after in
          subst (λ b. IsRunning (seen_by g.D.Medium.content g.D.Medium.reads g.D.Medium.writes g.D.Medium.faults)
          (record c.enter-state.result { core = c.give_back.new.self }) (put_view b
          (unwrap_or (buffer_at c.give_back.new.self c.unwrap-buffer.result).bytes []) (pass_view c.enter-state.new.pass) ∷ others))
          (sym c.block-block.ensures)
          (subst (λ q. IsRunning (seen_by g.D.Medium.content g.D.Medium.reads g.D.Medium.writes g.D.Medium.faults)
          (record c.enter-state.result { core = c.give_back.new.self }) (put_view c.args.buf.block q
          (pass_view c.enter-state.new.pass) ∷ others)) (sym bytes)
          (puts _ c.enter-state.result c.give_back.new.self (pass_view c.enter-state.new.pass) others h c.unwrap-buffer.result
          c.args.buf can (calm-under _ (pass_view c.enter-state.new.pass) same c.requires.calm) holds
          (c.give_back.ensures.after ∙ ap (λ q. after_release c.enter-state.result.core c.unwrap-buffer.result q how.Delayed)
          c.into_bytes.ensures) c.give_back.ensures.lawful)),
    )

pub returns-clause-size : goal.returns-clause-size
returns-clause-size g c =
    let h = c.enter-state.ensures.holds.1 in
    let same = c.enter-state.ensures.same.1 in
    let lent = lent-under _ (pass_view c.enter-state.new.pass) c.args.buf.block c.block-block.result c.requires.put.was same
    c.block-block.ensures c.requires.put.from in
    let size = lent-size _ c.enter-state.result (pass_view c.enter-state.new.pass) _ h c.unwrap-buffer.result c.block-block.result
    c.requires.put.was (some-under _ (pass_view c.enter-state.new.pass) same c.requires.some) lent (sym c.find.ensures.holder
    ∙ c.unwrap-buffer.ensures) in
    c.requires.put.size ∙ subst (λ (v : View). length c.requires.put.was ≡ v.opening.sizes.block_size) same size

pub wake-requires-2 : goal.wake-requires-2
wake-requires-2 g c =
    let h = c.enter-state.ensures.holds.1 in
    let same = c.enter-state.ensures.same.1 in
    let lent = lent-under _ (pass_view c.enter-state.new.pass) c.args.buf.block c.block-block.result c.requires.put.was same
    c.block-block.ensures c.requires.put.from in
    let inside = (lent-here _ c.enter-state.result (pass_view c.enter-state.new.pass) _ h c.unwrap-buffer.result c.block-block.result
    c.requires.put.was lent (sym c.find.ensures.holder ∙ c.unwrap-buffer.ensures)).inside in
    let counted = counted-inside _ c.enter-state.result (pass_view c.enter-state.new.pass) _ h c.unwrap-buffer.result
    (some-under _ (pass_view c.enter-state.new.pass) same c.requires.some) inside in
    let here : c.unwrap-buffer.result < (pass_view c.args.pass.now).opening.buffers = subst
    (λ (v : View). c.unwrap-buffer.result < v.opening.buffers) same counted in
    omega (arith, here, c.requires.events)
