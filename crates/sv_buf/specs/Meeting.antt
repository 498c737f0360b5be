-- A search met a buffer that is still to be written, and the view after a transfer that may fail.
use Rattle.std.specs.Prelude.{◌≡◌, ◌+◌, ◌≤◌, ℕ, List}
use Rattle.sv_turn.specs.declared.pass.Pass.{Pass}
use Rattle.sv_turn.specs.Passes.{pass_view}
use Rattle.sv_cache.specs.declared.scenario.Scenario.TheVariants.{Delayed}
use Rattle.sv_cache.specs.Getblk.{after_search, IsCause}
use Rattle.sv_cache.specs.Held.{IsHeld}
use Rattle.sv_cache.specs.Lawful.{IsLawful}
use Rattle.sv_buf.specs.declared.state.State.{State}
use Rattle.sv_buf.specs.View.{View}
use Rattle.sv_buf.specs.Pending.{IsPending}

-- The pass is inside, and a search for some block took buffer k off the head of the free list, which is still to be written. Before
-- the search the pass could have left as it came.
pub record IsMet {R D : Type 0} (holds : State D → List View → Type 0) (p : Pass R (State D) View) (t : State D) (k : ℕ) : Type 0 where
  pub from : State D
  pub block : ℕ
  pub pending : IsPending holds p from (pass_view p)
  pub cause : IsCause from.core block (Delayed k)
  pub searched : t.core ≡ after_search from.core block (Delayed k)
  pub rest : t ≡ record from { core = t.core }
  pub held : IsHeld t.core k
  pub lawful : IsLawful t.core

-- at most one transfer has failed, and nothing else is otherwise
pub record MayFail (v w : View) : Type 0 where
  pub count : ℕ
  pub no_less : v.faults ≤ count
  pub no_more : count ≤ v.faults + 1
  pub is : w ≡ record v { faults = count }
