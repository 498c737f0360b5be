-- A pass whose turn has the numbers of a turn is a pass of this turn.
use Rattle.std.proofs.Common.{◌≡◌, ℕ, List, [], ◌∷◌, ap}
use Rattle.atomic_table.specs.Seated.{TableId}
use Rattle.sv_turn.specs.declared.pass.Pass.{Pass}
use Rattle.sv_turn.specs.declared.turn.Turn.{Turn}
use Rattle.sv_turn.specs.Passes.{IsPassOf}
use Rattle.sv_turn.specs.Numbers.{table_numbers, turn_numbers, pass_numbers}

abbrev table_of : List ℕ → TableId
table_of (a ∷ b ∷ c ∷ d ∷ e ∷ f ∷ names) = record { words = a; slots = b; views_name = c; atom = d; block = e; offset = f; slot_names = names }
table_of _ = record { words = 0; slots = 0; views_name = 0; atom = 0; block = 0; offset = 0; slot_names = [] }

table_numbers-same : (y z : TableId) → table_numbers y ≡ table_numbers z → y ≡ z
unfolding table_numbers
table_numbers-same y z e = ap table_of e

pub same_turn : {R S V : Type 0} (t : Turn R S V) (p : Pass R S V) → pass_numbers p ≡ turn_numbers t → IsPassOf t p
same_turn t p e = table_numbers-same p.seat.table_id t.table.shared.table_id e

pub pass_turn : {R S V : Type 0} (t : Turn R S V) (p : Pass R S V) → IsPassOf t p → pass_numbers p ≡ turn_numbers t
pass_turn t p e = ap table_numbers e
