use Rattle.std.proofs.Common.{◌∙◌}
use Rattle.sv_form.proofs.Numbers.{part_is_zero, zero_is_part}
use Rattle.sv_form.proofs.number.is_zero.Goals as goal

pub returns : goal.returns
returns c = (
  (λ yes. part_is_zero _ _ _ c.requires.within (c.are_zero.ensures.0 yes)),
  (λ zero. c.are_zero.ensures.1 (zero_is_part _ _ _ c.requires.within zero)),
)
