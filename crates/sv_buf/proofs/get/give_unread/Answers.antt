use Rattle.std.proofs.Common.{◌<◌, ◌∙◌, refl, sym, arith}
use Rattle.sv_turn.specs.Passes.{pass_view}
use Rattle.sv_buf.specs.Changes.{failed_view, calm_view}
use Rattle.sv_buf.proofs.Getting.{unread, moving-here}
use Rattle.sv_buf.proofs.Returning.{counted-inside}
use Rattle.sv_buf.proofs.get.give_unread.Goals as goal

pub give_back-requires-clause-busy : goal.give_back-requires-clause-busy
give_back-requires-clause-busy g c = (moving-here _ c.args.state _ _ c.requires.taken.so _ refl).busy

pub give_back-requires-clause-out : goal.give_back-requires-clause-out
give_back-requires-clause-out g c = (moving-here _ c.args.state _ _ c.requires.taken.so _ refl).away

pub give_back-requires-clause-size : goal.give_back-requires-clause-size
give_back-requires-clause-size g c = c.requires.size ∙ sym (moving-here _ c.args.state _ _ c.requires.taken.so _ refl).size

pub leave_with-requires-clause-rule : goal.leave_with-requires-clause-rule
leave_with-requires-clause-rule g c = (
  c.requires.taken.may.0,
  c.requires.taken.may.1,
  λ others h.
      unread _ c.args.state c.give_back.new.self (failed_view (calm_view (pass_view c.args.pass.now))) others c.args.buffer c.args.block
      c.args.bytes.items (c.requires.taken.may.2 others h) refl c.give_back.ensures.after c.give_back.ensures.lawful,
)

pub wake-requires-2 : goal.wake-requires-2
wake-requires-2 g c =
    let inside = (moving-here _ c.args.state _ _ c.requires.taken.so _ refl).busy.in_range in
    let counted : c.args.buffer < (pass_view c.args.pass.now).opening.buffers = counted-inside _ c.args.state _ _ c.requires.taken.so
    c.args.buffer c.requires.some inside in
    omega (arith, counted, c.requires.events)

pub overflow_add-buffer : goal.overflow_add-buffer
overflow_add-buffer g c =
    let inside = (moving-here _ c.args.state _ _ c.requires.taken.so _ refl).busy.in_range in
    let few = c.requires.taken.so.kept.few in
    omega arith
