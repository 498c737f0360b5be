use Rattle.std.proofs.Common.{rules}
use Rattle.sv_turn.proofs.Keeps.{joins}
use Rattle.sv_turn.proofs.turn.Turn.join.Goals as goal

pub join_seat-requires : goal.join_seat-requires
join_seat-requires g c = let r = g.R.TurnRule in let away = c.requires.away in
    rw c.into_seat.ensures (search rules, search rules, search rules, search rules, joins r.holds r.blank r.weight _ r.any_order r.cuts r.weighs r.blank_light r.blank_more r.uncut _ _ _ _ _ away.0.0 away.1.0 c.requires.cuts)
