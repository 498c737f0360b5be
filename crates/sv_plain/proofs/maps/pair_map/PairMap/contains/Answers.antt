use Rattle.std.proofs.Common.{is_some, sym, ap, ◌∙◌}
use Rattle.sv_form.specs.Pair.{pair_cmp_total}
use Rattle.std.specs.FinMap as map
use Rattle.sv_plain.proofs.Shown.{shown-get}
use Rattle.sv_plain.proofs.maps.pair_map.PairMap.contains.Goals as goal

pub returns : goal.returns
returns g c =
    c.contains_key.ensures
    ∙ ap is_some (sym (shown-get pair_cmp_total c.self.inside.tree (c.args.first, c.args.second)))
    ∙ ap (λ m. map.contains_key m (c.args.first, c.args.second)) c.self.view_is
