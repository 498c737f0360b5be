use Rattle.std.proofs.Common.{ap, ◌∙◌}
use Rattle.std.specs.FinSet as set
use Rattle.sv_form.specs.Pair.{pair_cmp_total, pair_cmp-IsAntisymmetric}
use Rattle.sv_plain.proofs.Shown.{shown_set-insert}
use Rattle.sv_plain.proofs.maps.pair_set.PairSet.insert.Goals as goal

pub returns-clause-put : goal.returns-clause-put
returns-clause-put c =
    shown_set-insert pair_cmp_total pair_cmp-IsAntisymmetric c.self.inside.tree c.insert.new.self (c.args.first, c.args.second) c.in-Ok.ensures.updates
    ∙ ap (λ s. set.insert s (c.args.first, c.args.second)) c.self.view_is
