use Rattle.std.proofs.Common.{ℕ, sym, subst, IfSome, Option, ◌∙◌}
use Rattle.sv_cache.specs.Held.{IsHeld}
use Rattle.sv_cache.proofs.Frames.{held-search}
use Rattle.sv_cache.proofs.cache.tests.get.Goals as goal

pub returns-clause-held : goal.returns-clause-held
returns-clause-held g c = subst (λ (o : Option ℕ). IfSome o (IsHeld c.attempt-found.new.self)) (sym c.buffer_given.ensures ∙ c.in-Some.is) c.attempt-found.ensures.held

pub returns-clause-keeps : goal.returns-clause-keeps
returns-clause-keeps g c = λ k h. subst (λ v. IsHeld v k) (sym c.attempt-found.ensures.after) (held-search c.args.core.now c.args.block c.attempt-found.result k c.attempt-found.ensures.cause h)
