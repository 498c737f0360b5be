-- What each kind of step tells: of the pass before, the word found and the pass after.
use Rattle.std.specs.Prelude.{◌≡◌, ◌≢◌, ℕ, ◌%◌, ◌^◌, List, ◌∷◌, Option, Some}
use Rattle.atomic_table.specs.Table.{Step, Me, rest}
use Rattle.sv_turn.specs.declared.stage.Doing.{Doing}
use Rattle.sv_turn.specs.declared.stage.Stage.TheVariants.{Waiting, Inside}
use Rattle.sv_turn.specs.Turning.{doing, away}

module _ {S V : Type 0} where
  -- the word found is the ticket
  abbrev pub drew : Step (Option S) → Me (Option S) (Doing S V) → ℕ → Me (Option S) (Doing S V) → Type 0
  drew st m r m' = (t : ℕ) × (t % 2 ^ 64 ≡ r) × (m'.0 ≡ doing (Waiting t) m.0.client) × (m'.1 ≡ m.1)

  -- the caller's relation holds of the state, this view and those of the other passes
  abbrev pub IsKept : (S → List V → Type 0) → S → V → Type 0
  IsKept holds x v = (others : List V) × holds x (v ∷ others)

  -- a pass that finds its own ticket served has the state, and one that does not stays as it was
  abbrev pub looked : (S → List V → Type 0) → Step (Option S) → Me (Option S) (Doing S V) → ℕ → Me (Option S) (Doing S V) → Type 0
  looked holds st m r m' =
      (t : ℕ) → m.0.stage ≡ Waiting t
      → (t % 2 ^ 64 ≡ r → (x : S) × (m'.0 ≡ doing (Inside t x) m.0.client) × (m'.1 ≡ (0, Some x) ∷ m.1) × IsKept holds x m.0.client)
      × (t % 2 ^ 64 ≢ r → (m'.0 ≡ m.0) × (m'.1 ≡ m.1))

  -- whatever the other passes stand for, the new state and the new view meet the relation where the old ones met it
  abbrev pub Carries : (S → List V → Type 0) → S → V → S → V → Type 0
  Carries holds x v y w = (others : List V) → holds x (v ∷ others) → holds y (w ∷ others)

  -- the pass is out, with its new view, and without the state
  abbrev pub gave : (V → V) → Step (Option S) → Me (Option S) (Doing S V) → ℕ → Me (Option S) (Doing S V) → Type 0
  gave next st m r m' = (m'.0 ≡ away (next m.0.client)) × (m'.1 ≡ rest m.1)
