use Rattle.std.proofs.Common.{rules}
use Rattle.sv_turn.proofs.Keeps.{splits}
use Rattle.sv_turn.proofs.turn.Turn.split.Goals as goal

pub split_seat-seat-requires : goal.split_seat-seat-requires
split_seat-seat-requires g c = let r = g.R.TurnRule in (search rules, search rules, splits r.holds r.blank r.weight _ r.any_order r.cuts r.weighs r.cut _ _ _ _ c.requires.away.0 c.requires.cuts)
