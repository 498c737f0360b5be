-- What is seen of a disk that holds a read.
use Rattle.std.specs.Prelude.{◌≡◌, ◌≢◌, ℕ, Bool, Option, IsSome}
use Rattle.sv_dev.specs.MemDiskSeen.{MemDiskSeen}

pub record HoldDiskSeen : Type 0 where
  -- the disk in memory that is asked
  pub disk : MemDiskSeen
  -- the place whose first read is held
  pub at : ℕ
  -- how often the flag is looked at, at most, before the hold ends without it
  pub turns : ℕ
  -- whether the hold ended because the flag was set; none where that read was not made
  pub ended : Option Bool

-- the first read at the place of the hold ends it, and every other read leaves what is known of it
pub record Holds (old : Option Bool) (at place : ℕ) (new : Option Bool) : Type 0 where
  pub ended : at ≡ place → IsSome new
  pub kept : IsSome old → new ≡ old
  pub other : at ≢ place → new ≡ old
