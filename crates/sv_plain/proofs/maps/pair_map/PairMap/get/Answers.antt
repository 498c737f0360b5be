use Rattle.std.proofs.Common.{sym, ap, ◌∙◌}
use Rattle.sv_form.specs.Pair.{pair_cmp_total}
use Rattle.std.specs.FinMap as map
use Rattle.sv_plain.proofs.Shown.{shown-get}
use Rattle.sv_plain.proofs.maps.pair_map.PairMap.get.Goals as goal

pub returns : goal.returns
returns g c =
    c.get.ensures.value
    ∙ sym (shown-get pair_cmp_total c.self.inside.tree (c.args.first, c.args.second))
    ∙ ap (λ m. map.get m (c.args.first, c.args.second)) c.self.view_is
