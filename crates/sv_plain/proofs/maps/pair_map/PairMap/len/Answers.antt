use Rattle.std.proofs.Common.{sym, ap, ◌∙◌}
use Rattle.sv_form.specs.Pair.{pair_cmp_total}
use Rattle.std.specs.FinMap as map
use Rattle.sv_plain.proofs.Shown.{shown-len}
use Rattle.sv_plain.proofs.maps.pair_map.PairMap.len.Goals as goal

pub returns : goal.returns
returns g c = c.len.ensures.len ∙ sym (shown-len pair_cmp_total c.self.inside.tree c.len.ensures.ordered) ∙ ap map.len c.self.view_is
