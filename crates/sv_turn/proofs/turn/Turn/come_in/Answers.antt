use Rattle.std.proofs.Common.{rules, sym, ap, ◌∙◌, ◌∷◌, Some}
use Rattle.atomic_table.specs.Table.{rest}
use Rattle.sv_turn.proofs.Keeps.{looks}
use Rattle.sv_turn.proofs.turn.Turn.come_in.Goals as goal

pub load-requires : goal.load-requires
load-requires g c = (search rules, search rules, looks g.R.TurnRule.holds g.R.TurnRule.blank g.R.TurnRule.weight _ g.R.TurnRule.any_order _ _ _)

pub exchange-requires : goal.exchange-requires
exchange-requires g c = let drawn = c.loop.invariant.2 in let took = (c.load.ensures.2 drawn.0 drawn.2).0 (drawn.1 ∙ sym c.if-load-ticket.true) in
    (search rules, (Some took.0, took.2 ∙ (λ i. (0, Some took.0) ∷ sym (ap rest took.2) i)))
