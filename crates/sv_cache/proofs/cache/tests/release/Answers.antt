use Rattle.std.proofs.Common.{sym, subst}
use Rattle.sv_cache.specs.Held.{IsHeld}
use Rattle.sv_cache.proofs.Frames.{held-lend, held-release}
use Rattle.sv_cache.proofs.cache.tests.release.Goals as goal

pub returns-clause-keeps : goal.returns-clause-keeps
returns-clause-keeps c = λ k other h.
    let lent = subst (λ v. IsHeld v k) (sym c.lend-bytes.ensures.after) (held-lend c.args.core.now k c.args.buffer other h) in
    subst (λ v. IsHeld v k) (sym c.give_back.ensures.after) (held-release c.lend-bytes.new.self k c.args.buffer c.lend-bytes.result.items c.args.how other lent)
