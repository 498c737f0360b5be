use Rattle.std.proofs.Common.{ap, ◌∙◌}
use Rattle.sv_form.specs.Pair.{pair_cmp_total}
use Rattle.std.specs.FinMap as map
use Rattle.sv_form.specs.Pair.{pair_cmp-IsAntisymmetric}
use Rattle.sv_plain.proofs.Shown.{shown-remove}
use Rattle.sv_plain.proofs.maps.pair_map.PairMap.remove.Goals as goal

pub returns : goal.returns
returns g c =
    shown-remove pair_cmp_total pair_cmp-IsAntisymmetric c.self.inside.tree c.remove.new.self _ c.remove.ensures.updates
    ∙ ap (λ m. map.remove m (c.args.first, c.args.second)) c.self.view_is
