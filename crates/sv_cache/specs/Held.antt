-- What a caller knows of a buffer that a search gave to it.
use Rattle.std.specs.Prelude.{ℕ, Option, Some, None, IsSome}
use Rattle.sv_cache.specs.declared.scenario.Scenario.{Scenario}
use Rattle.sv_cache.specs.declared.scenario.Scenario.TheVariants.{Hit, Taken, Delayed, Empty, Busy}
use Rattle.sv_cache.specs.Cache.{Cache, buffer_at, IsBusy}

-- buffer k is busy, and its bytes are in: they may be lent
pub record IsHeld {D : Type 0} (c : Cache D) (k : ℕ) : Type 0 where
  pub busy : IsBusy c k
  pub home : IsSome (buffer_at c k).bytes

-- the buffer that a search gave to its caller
abbrev pub given : Scenario → Option ℕ
given (Hit k) = Some k
given (Taken k) = Some k
given (Delayed k) = Some k
given Empty = None
given (Busy k) = None
