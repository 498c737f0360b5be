use Rattle.std.proofs.Common.{ap, ◌∙◌}
use Rattle.std.specs.Cmp.{nat_cmp_total}
use Rattle.std.specs.FinMap.{nat_cmp-IsAntisymmetric}
use Rattle.std.specs.FinSet as set
use Rattle.sv_plain.proofs.Shown.{shown_set-remove}
use Rattle.sv_plain.proofs.maps.number_set.NumberSet.remove.Goals as goal

pub returns : goal.returns
returns c =
    shown_set-remove nat_cmp_total nat_cmp-IsAntisymmetric c.self.inside.tree c.remove.new.self c.args.number c.remove.ensures.updates
    ∙ ap (λ s. set.remove s c.args.number) c.self.view_is
