use Rattle.std.proofs.Common.{ap, ◌∙◌}
use Rattle.std.specs.FinSet as set
use Rattle.sv_form.specs.Pair.{pair_cmp_total, pair_cmp-IsAntisymmetric}
use Rattle.sv_plain.proofs.Shown.{shown_set-remove}
use Rattle.sv_plain.proofs.maps.pair_set.PairSet.remove.Goals as goal

pub returns : goal.returns
returns c =
    shown_set-remove pair_cmp_total pair_cmp-IsAntisymmetric c.self.inside.tree c.remove.new.self (c.args.first, c.args.second) c.remove.ensures.updates
    ∙ ap (λ s. set.remove s (c.args.first, c.args.second)) c.self.view_is
