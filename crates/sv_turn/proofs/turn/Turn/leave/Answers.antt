use Rattle.std.proofs.Common.{rules}
use Rattle.sv_turn.proofs.Keeps.{gives_back}
use Rattle.sv_turn.proofs.turn.Turn.leave.Goals as goal

pub fetch_add-served-requires : goal.fetch_add-served-requires
fetch_add-served-requires g c = let r = g.R.TurnRule in let asked = c.requires.rule in let inside = asked.1 in (
  search rules,
  search rules,
  gives_back r.holds r.blank r.weight _ r.any_order _ _ c.args.pass.now.seat.me _ inside.0 asked.0 c.args.state g.N.NewView.next c.exchange.ensures.3 inside.1 inside.2 c.requires.weight asked.2,
)
