-- A turn as a list of numbers, for those who keep what names it beside numbers of their own.
use Rattle.std.specs.Prelude.{ℕ, List, ◌∷◌}
use Rattle.atomic_table.specs.Seated.{TableId}
use Rattle.sv_turn.specs.declared.pass.Pass.{Pass}
use Rattle.sv_turn.specs.declared.turn.Turn.{Turn}

-- what names a table, as a list of numbers
unfoldable pub table_numbers : TableId → List ℕ
table_numbers z = z.words ∷ z.slots ∷ z.views_name ∷ z.atom ∷ z.block ∷ z.offset ∷ z.slot_names

module _ {R S V : Type 0} where
  -- the numbers of a turn: no two turns have the same
  abbrev pub turn_numbers : Turn R S V → List ℕ
  turn_numbers t = table_numbers t.table.shared.table_id

  -- the numbers of the turn of a pass
  abbrev pub pass_numbers : Pass R S V → List ℕ
  pass_numbers p = table_numbers p.seat.table_id
