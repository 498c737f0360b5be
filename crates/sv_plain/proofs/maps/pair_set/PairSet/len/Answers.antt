use Rattle.std.proofs.Common.{sym, ap, ◌∙◌}
use Rattle.std.specs.FinSet as set
use Rattle.sv_form.specs.Pair.{pair_cmp_total}
use Rattle.sv_plain.proofs.Shown.{shown_set-len}
use Rattle.sv_plain.proofs.maps.pair_set.PairSet.len.Goals as goal

pub returns : goal.returns
returns c = c.len.ensures.len ∙ sym (shown_set-len pair_cmp_total c.self.inside.tree c.len.ensures.ordered) ∙ ap set.len c.self.view_is
