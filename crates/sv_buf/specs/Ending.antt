-- When a cache can be closed with two passes: one that holds all lines, and the worker's.
use Rattle.std.specs.Prelude.{◌≡◌, ◌*◌, ◌<◌, ℕ, IsSome}
use Rattle.sv_form.specs.declared.geometry.Geometry.{Geometry}
use Rattle.sv_turn.specs.declared.pass.Pass.{Pass}
use Rattle.sv_turn.specs.declared.turn.Turn.{Turn}
use Rattle.sv_turn.specs.Passes.{pass_view, IsOut, IsPassOf, first_view}
use Rattle.sv_store.specs.Held.{Held, nothing_lent}
use Rattle.sv_buf.specs.View.{View}
use Rattle.sv_buf.specs.Running.{IsFit}
use Rattle.sv_buf.specs.Start.{worker_view}
use Rattle.sv_buf.specs.Stake.{pass_held, pass_lent}

-- all lines of a disk of these sizes are held
pub record HoldsAll (g : Geometry) (h : Held) : Type 0 where
  pub at : (b l : ℕ) → b < g.blocks → l * 64 < g.block_size → IsSome (h b l)

-- the pass of this cache holds all lines, and has lent nothing
pub record HasAll {R S : Type 0} (t : Turn R S View) (p : Pass R S View) : Type 0 where
  pub own : IsPassOf t p
  pub away : IsOut p
  pub fit : IsFit (pass_view p)
  pub opened : (pass_view p).opening ≡ (first_view t).opening
  pub idle : pass_lent p ≡ nothing_lent
  pub all : HoldsAll (first_view t).opening.sizes (pass_held p)

-- the pass is the worker's of this cache
pub record IsWorkers {R S : Type 0} (t : Turn R S View) (p : Pass R S View) : Type 0 where
  pub own : IsPassOf t p
  pub away : IsOut p
  pub view : pass_view p ≡ worker_view (first_view t).opening
