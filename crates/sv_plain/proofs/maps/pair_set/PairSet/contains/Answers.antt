use Rattle.std.proofs.Common.{sym, ap, ◌∙◌}
use Rattle.std.specs.FinSet as set
use Rattle.sv_form.specs.Pair.{pair_cmp_total}
use Rattle.sv_plain.proofs.Shown.{shown_set-contains}
use Rattle.sv_plain.proofs.maps.pair_set.PairSet.contains.Goals as goal

pub returns : goal.returns
returns c =
    c.contains.ensures
    ∙ sym (shown_set-contains pair_cmp_total c.self.inside.tree (c.args.first, c.args.second))
    ∙ ap (λ s. set.contains s (c.args.first, c.args.second)) c.self.view_is
