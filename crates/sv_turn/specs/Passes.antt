-- What a clause says of a turn and its passes.
use Rattle.std.specs.Prelude.{◌≡◌, ℕ, ◌%◌, ◌^◌, List, [], ◌∷◌, None, vec_len}
use Rattle.sv_turn.specs.declared.pass.Pass.{Pass}
use Rattle.sv_turn.specs.declared.turn.Turn.{Turn}
use Rattle.sv_turn.specs.declared.stage.Stage.TheVariants.{Away, Waiting, Inside}
use Rattle.sv_turn.specs.Steps.{Carries}

module _ {R S V : Type 0} where
  -- what the pass stands for
  abbrev pub pass_view : Pass R S V → V
  pass_view p = p.seat.me.0.client

  -- the pass has not entered
  abbrev pub IsOut : Pass R S V → Type 0
  IsOut p = (p.seat.me.0.stage ≡ Away) × (p.seat.me.1 ≡ [])

  -- the pass has a ticket, which its word spells, and waits
  abbrev pub HasDrawn : Pass R S V → ℕ → Type 0
  HasDrawn p word = (t : ℕ) × (t % 2 ^ 64 ≡ word) × (p.seat.me.0.stage ≡ Waiting t) × (p.seat.me.1 ≡ [])

  -- the pass has entered, and the state was this when it was taken
  abbrev pub HasEntered : Pass R S V → S → Type 0
  HasEntered p state = (t : ℕ) × (p.seat.me.0.stage ≡ Inside t state) × (p.seat.me.1 ≡ (0, None) ∷ [])

  -- the pass has entered, and the caller may leave with this state and this view, whatever the other passes stand for
  abbrev pub MayLeave : (S → List V → Type 0) → Pass R S V → S → V → Type 0
  MayLeave holds p state next = (taken : S) × HasEntered p taken × Carries holds taken (pass_view p) state next

  -- it is the same pass, later
  abbrev pub IsSamePass : Pass R S V → Pass R S V → Type 0
  IsSamePass p q = (q.seat.table_id ≡ p.seat.table_id) × (q.seat.id ≡ p.seat.id)

  -- it is a pass of this turn
  abbrev pub IsPassOf : Turn R S V → Pass R S V → Type 0
  IsPassOf t p = p.seat.table_id ≡ t.table.shared.table_id

  -- what the first pass stood for; its weight is the turn's
  abbrev pub first_view : Turn R S V → V
  first_view t = t.table.shared.key.first

  -- how many events there are to sleep on
  abbrev pub turn_events : Turn R S V → ℕ
  turn_events t = vec_len t.events
