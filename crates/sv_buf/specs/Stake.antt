-- A pass of the cache as a stake: what it holds, what it has lent, and where it comes from.
use Rattle.std.specs.Prelude.{◌++◌, ℕ, Bool, min, List, ◌∷◌, length}
use Rattle.sv_dev.specs.Causes.{last_count}
use Rattle.sv_turn.specs.declared.pass.Pass.{Pass}
use Rattle.sv_turn.specs.Passes.{pass_view}
use Rattle.sv_turn.specs.Numbers.{pass_numbers}
use Rattle.sv_store.specs.Held.{Held, Lent, Origin}
use Rattle.sv_buf.specs.View.{View, Opening, held_of, lent_of}

-- what a cache was opened with, as numbers; its sizes stand beside them
abbrev pub opening_numbers : Opening → List ℕ
opening_numbers o = o.buffers ∷ o.disk.reads ∷ o.disk.writes ∷ o.disk.faults ∷ length o.disk.content ∷ o.disk.content

module _ {R S : Type 0} where
  abbrev pub pass_held : Pass R S View → Held
  pass_held p = held_of (pass_view p).lines

  abbrev pub pass_lent : Pass R S View → Lent
  pass_lent p = lent_of (pass_view p).loans

  -- a count of a stake is a u64
  abbrev pub pass_faults : Pass R S View → ℕ
  pass_faults p = min (pass_view p).faults last_count

  abbrev pub pass_forced : Pass R S View → Bool
  pass_forced p = (pass_view p).forced

  -- the turn of the cache, and what the cache was opened with
  abbrev pub pass_origin : Pass R S View → Origin
  pass_origin p = record { id = opening_numbers (pass_view p).opening ++ pass_numbers p; sizes = (pass_view p).opening.sizes }
