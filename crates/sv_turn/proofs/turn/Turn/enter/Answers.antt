use Rattle.std.proofs.Common.{rules}
use Rattle.sv_turn.proofs.Keeps.{draws}
use Rattle.sv_turn.proofs.turn.Turn.enter.Goals as goal

pub fetch_add-ticket-requires : goal.fetch_add-ticket-requires
fetch_add-ticket-requires g c = (search rules, search rules, draws _ _ _ _ _ _ _ c.requires.away.0)
