use Rattle.std.proofs.Common.{Some, IsSome, sym, ap, subst, ◌∙◌}
use Rattle.std.proofs.lemmas.Bool.{false≢true}
use Rattle.std.specs.Cmp.{nat_cmp_total}
use Rattle.std.specs.FinMap as map
use Rattle.std.specs.FinMap.{nat_cmp-IsAntisymmetric}
use Rattle.sv_plain.proofs.Shown.{shown-get, shown-insert}
use Rattle.sv_plain.proofs.maps.number_map.NumberMap.swap.Goals as goal

pub unreachable-requires : goal.unreachable-requires
unreachable-requires g c =
    false≢true
    (subst IsSome
    (ap (λ m. map.get m c.args.key) (sym c.self.view_is) ∙ shown-get nat_cmp_total c.self.inside.tree c.args.key ∙ sym c.in_default.ensures.value)
    c.requires)

pub returns-clause-taken : goal.returns-clause-taken
returns-clause-taken g c =
    ap (λ m. map.get m c.args.key) (sym c.self.view_is)
    ∙ shown-get nat_cmp_total c.self.inside.tree c.args.key
    ∙ sym c.in-Some.ensures.value
    ∙ ap Some (sym c.swap.ensures.y_after)

pub returns-clause-put : goal.returns-clause-put
returns-clause-put g c =
    let there = subst IsSome (ap (λ m. map.get m c.args.key) (sym c.self.view_is) ∙ shown-get nat_cmp_total c.self.inside.tree c.args.key) c.requires in
    shown-insert nat_cmp_total nat_cmp-IsAntisymmetric c.self.inside.tree (c.get_mut.follows.lender c.swap.new.x) c.args.key c.swap.new.x ((c.get_mut.follows.holds c.swap.new.x).3 there)
    ∙ (λ i. map.insert (c.self.view_is i) c.args.key (c.swap.ensures.x_after i))
