use Rattle.std.proofs.Common.{ap, ◌∙◌}
use Rattle.std.specs.Cmp.{nat_cmp_total}
use Rattle.std.specs.FinMap.{nat_cmp-IsAntisymmetric}
use Rattle.std.specs.FinSet as set
use Rattle.sv_plain.proofs.Shown.{shown_set-insert}
use Rattle.sv_plain.proofs.maps.number_set.NumberSet.insert.Goals as goal

pub returns-clause-put : goal.returns-clause-put
returns-clause-put c =
    shown_set-insert nat_cmp_total nat_cmp-IsAntisymmetric c.self.inside.tree c.insert.new.self c.args.number c.in-Ok.ensures.updates
    ∙ ap (λ s. set.insert s c.args.number) c.self.view_is
