use Rattle.std.proofs.Common.{[], ◌∷◌}
use Rattle.sv_turn.specs.Passes.{pass_view}
use Rattle.sv_turn.proofs.Keeps.{closes, unwrappable, unwraps}
use Rattle.sv_turn.proofs.turn.Turn.close.Goals as goal

pub close_with-closed-requires : goal.close_with-closed-requires
close_with-closed-requires g c = rw c.into_seat.ensures c.requires.own

pub unwrap-requires : goal.unwrap-requires
unwrap-requires g c = let r = g.R.TurnRule in let final = rw c.into_seat.ensures at c.close_with-closed.ensures.values.2 in
    let home = closes r.holds r.blank r.weight _ r.any_order r.blank_less _ _ _ _ _ c.requires.away.0 c.requires.whole final c.take-home.ensures.value in unwrappable c.take-home.result home.0 home.1

pub returns : goal.returns
returns g c = let r = g.R.TurnRule in let final = rw c.into_seat.ensures at c.close_with-closed.ensures.values.2 in
    let home = closes r.holds r.blank r.weight _ r.any_order r.blank_less _ _ _ _ _ c.requires.away.0 c.requires.whole final c.take-home.ensures.value in
    unwraps (λ x. r.holds x (pass_view c.args.pass ∷ [])) c.take-home.result home.0 c.unwrap.result home.1 c.unwrap.ensures home.2
