use Rattle.std.proofs.Common.{is_some, sym, ap, ◌∙◌}
use Rattle.std.specs.Cmp.{nat_cmp_total}
use Rattle.std.specs.FinMap as map
use Rattle.sv_plain.proofs.Shown.{shown-get}
use Rattle.sv_plain.proofs.maps.number_map.NumberMap.contains.Goals as goal

pub returns : goal.returns
returns g c =
    c.contains_key.ensures
    ∙ ap is_some (sym (shown-get nat_cmp_total c.self.inside.tree c.args.key))
    ∙ ap (λ m. map.contains_key m c.args.key) c.self.view_is
