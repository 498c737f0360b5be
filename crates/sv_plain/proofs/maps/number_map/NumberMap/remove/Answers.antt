use Rattle.std.proofs.Common.{ap, ◌∙◌}
use Rattle.std.specs.Cmp.{nat_cmp_total}
use Rattle.std.specs.FinMap as map
use Rattle.std.specs.FinMap.{nat_cmp-IsAntisymmetric}
use Rattle.sv_plain.proofs.Shown.{shown-remove}
use Rattle.sv_plain.proofs.maps.number_map.NumberMap.remove.Goals as goal

pub returns : goal.returns
returns g c =
    shown-remove nat_cmp_total nat_cmp-IsAntisymmetric c.self.inside.tree c.remove.new.self _ c.remove.ensures.updates
    ∙ ap (λ m. map.remove m c.args.key) c.self.view_is
