use Rattle.std.proofs.Common.{List, ℕ, Option, IsNone, refl, subst, sym}
use Rattle.sv_dev.specs.MemHost.{text_under}
use Rattle.sv_session.proofs.replay_tests.replay_without_a_journal.Goals as goal

pub replay_of_nothing-status-requires-clause-texts : goal.replay_of_nothing-status-requires-clause-texts
replay_of_nothing-status-requires-clause-texts g c κs lives = (
  (λ name. text_under c.put_image.new.self name),
  refl,
  (λ name. subst (λ (o : Option (List ℕ)). IsNone o)
      (sym (c.put_image.ensures.texts name)) (c.new-host.ensures.texts name)),
)
