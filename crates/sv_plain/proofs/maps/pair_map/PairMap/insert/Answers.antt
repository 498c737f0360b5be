use Rattle.std.proofs.Common.{IsSome, sym, ap, subst, ◌∙◌}
use Rattle.sv_form.specs.Pair.{pair_cmp_total}
use Rattle.std.specs.FinMap as map
use Rattle.sv_form.specs.Pair.{pair_cmp-IsAntisymmetric}
use Rattle.sv_plain.proofs.Shown.{shown-get, shown-insert}
use Rattle.sv_plain.proofs.maps.pair_map.PairMap.insert.Goals as goal

pub returns-in-Ok-clause-put : goal.returns-in-Ok-clause-put
returns-in-Ok-clause-put g c =
    shown-insert pair_cmp_total pair_cmp-IsAntisymmetric c.self.inside.tree c.insert.new.self _ _ c.in-Ok.ensures.updates
    ∙ ap (λ m. map.insert m (c.args.first, c.args.second) c.args.value) c.self.view_is

pub returns-clause-known : goal.returns-clause-known
returns-clause-known g c known =
    subst IsSome (ap (λ m. map.get m (c.args.first, c.args.second)) (sym c.self.view_is) ∙ shown-get pair_cmp_total c.self.inside.tree (c.args.first, c.args.second) ∙ c.in-Err.ensures.absent) known
