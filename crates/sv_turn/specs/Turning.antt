-- The rule of the table under a turn: two words, which count tickets, one slot, which has the state, and the views of all passes.
use Rattle.std.specs.Prelude.{◌≡◌, ℕ, ◌+◌, ◌%◌, ◌^◌, ◌<◌, ◌≤◌, zero, suc, List, [], ◌∷◌, map, Option, Some}
use mathlib.Core.Option as opt
use mathlib.Core.Option.{some, none}
use lib.ListN.{get_elem?}
use Rattle.atomic_table.specs.Table.{State}
use Rattle.sv_turn.specs.declared.stage.Doing.{Doing}
use Rattle.sv_turn.specs.declared.stage.Stage.{Stage}
use Rattle.sv_turn.specs.declared.stage.Stage.TheVariants.{Away, Waiting, Inside, Spent}

-- f of each element, added up
abbrev pub total : {A : Type 0} → (A → ℕ) → List A → ℕ
total f [] = 0
total f (x ∷ xs) = f x + total f xs

module _ {S : Type 0} where
  -- how many tickets a pass has
  abbrev pub tickets : Stage S → ℕ
  tickets Away = 0
  tickets (Waiting t) = 1
  tickets (Inside t x) = 1
  tickets Spent = 0

  -- whether a pass is inside, as a number
  abbrev pub guests : Stage S → ℕ
  guests Away = 0
  guests (Waiting t) = 0
  guests (Inside t x) = 1
  guests Spent = 0

  -- the pass has this ticket
  abbrev pub HasTicket : ℕ → Stage S → Type 0
  HasTicket n Away = ⊥
  HasTicket n (Waiting t) = t ≡ n
  HasTicket n (Inside t x) = t ≡ n
  HasTicket n Spent = ⊥

  -- a ticket lies between the words; the one of the pass inside is served, and the state is still as it was taken
  abbrev pub Knows : ℕ → ℕ → ℕ → S → Stage S → Type 0
  Knows served drawn inside state Away = Unit {0}
  Knows served drawn inside state (Waiting t) = (served ≤ t) × (t < drawn)
  Knows served drawn inside state (Inside t x) = (t ≡ served) × (served < drawn) × (inside ≡ 1) × (x ≡ state)
  Knows served drawn inside state Spent = Unit {0}

  -- the slot: the state is at home while no pass is inside, and else out with that pass
  abbrev pub home : ℕ → S → opt.Option (Option S)
  home zero state = some (Some state)
  home (suc n) state = none

module _ {S V : Type 0} where
  abbrev pub client : Doing S V → V
  client d = d.client

  abbrev pub doing : Stage S → V → Doing S V
  doing stage v = record { stage = stage; client = v }

  abbrev pub away : V → Doing S V
  away v = doing Away v

  -- a spent pass has the blank view, and each other one weighs something
  abbrev pub Fits : V → (V → ℕ) → Stage S → V → Type 0
  Fits blank weight Away v = 0 < weight v
  Fits blank weight (Waiting t) v = 0 < weight v
  Fits blank weight (Inside t x) v = 0 < weight v
  Fits blank weight Spent v = v ≡ blank

  -- As many tickets are out as were drawn and not yet served, and they differ. The weights add up to the whole.
  -- The state at home, or as it was taken, and the views of all passes meet the caller's relation.
  pub record Turning (holds : S → List V → Type 0) (blank : V) (weight : V → ℕ) (all : ℕ) (s : State (Option S) (Doing S V)) : Type 0 where
    pub served : ℕ
    pub drawn : ℕ
    pub inside : ℕ
    pub state : S
    pub words : s.words ≡ drawn % 2 ^ 64 ∷ served % 2 ^ 64 ∷ []
    pub homes : s.homes ≡ home inside state ∷ []
    pub queue : drawn ≡ served + total (λ d. tickets d.stage) s.views
    pub within : inside ≡ total (λ d. guests d.stage) s.views
    pub whole : total (λ d. weight d.client) s.views ≡ all
    pub small : all ≤ 2 ^ 63
    pub each : (j : ℕ) (d : Doing S V) → get_elem? s.views j ≡ some d → Knows served drawn inside state d.stage
    pub fits : (j : ℕ) (d : Doing S V) → get_elem? s.views j ≡ some d → Fits blank weight d.stage d.client
    pub apart : (i j : ℕ) (d e : Doing S V) (n : ℕ) → get_elem? s.views i ≡ some d → get_elem? s.views j ≡ some e → HasTicket n d.stage
        → HasTicket n e.stage → i ≡ j
    pub kept : holds state (map client s.views)
