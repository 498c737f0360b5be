-- A pass that is inside, and may leave.
use Rattle.std.specs.Prelude.{List, ◌∷◌}
use Rattle.sv_turn.specs.declared.pass.Pass.{Pass}
use Rattle.sv_turn.specs.Passes.{MayLeave}

-- The pass is inside and may leave with this state and this view; the rule holds of them with the views of the other passes.
pub record IsPending {R S V : Type 0} (holds : S → List V → Type 0) (p : Pass R S V) (s : S) (w : V) : Type 0 where
  pub may : MayLeave holds p s w
  pub others : List V
  pub so : holds s (w ∷ others)
