use Rattle.std.proofs.Common.{◌-◌, ◌∙◌, ℕ, false, ap, get_or, arith}
use Rattle.sv_check.proofs.SeenSteps.{used_there, used_nowhere}
use Rattle.sv_check.proofs.sound.entries.is_used.Goals as goal

pub returns-then-place-used : goal.returns-then-place-used
returns-then-place-used c = λ g image is.
    ap (λ (n : ℕ). get_or c.args.used.now (n - 1) false) c.from-place.ensures
    ∙ used_there g image c.args.used.now is c.args.n false c.requires (omega (arith, c.if-place-used.true, c.from-place.ensures))

pub returns-else-place-used : goal.returns-else-place-used
returns-else-place-used c = λ g image is. used_nowhere g image c.args.used.now is c.args.n c.requires (omega (arith, c.if-place-used.false, c.from-place.ensures))
