use Rattle.std.proofs.Common.{◌-◌, ◌∙◌, ℕ, ap}
use Rattle.sv_check.proofs.MakingSteps.{zeros_fill}
use Rattle.sv_check.proofs.make.blocks.fill_to.Goals as goal

pub returns-clause-bytes : goal.returns-clause-bytes
returns-clause-bytes c =
    c.in-Ok.ensures.ok
    ∙ zeros_fill c.args.place c.args.block.now.items (c.args.place - c.len.result) c.requires.within
    (ap (λ (k : ℕ). c.args.place - k) c.len.ensures.value)
