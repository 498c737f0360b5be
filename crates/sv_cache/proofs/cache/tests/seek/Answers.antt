use Rattle.std.proofs.Common.{sym, subst}
use Rattle.sv_cache.specs.Held.{IsHeld}
use Rattle.sv_cache.proofs.Frames.{held-search}
use Rattle.sv_cache.proofs.cache.tests.seek.Goals as goal

pub returns : goal.returns
returns g c = record { keeps = λ k h. subst (λ v. IsHeld v k) (sym c.attempt.ensures.after) (held-search c.args.core.now c.args.block c.attempt.result k c.attempt.ensures.cause h) }
