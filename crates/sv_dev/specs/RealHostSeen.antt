-- The counts of the host over a real file system.
use Rattle.std.specs.Prelude.{ℕ}

pub record RealHostSeen : Type 0 where
  pub faults : ℕ
  pub disk_faults : ℕ
  pub source_faults : ℕ
  pub sink_faults : ℕ
  -- how often a source was asked for
  pub asked : ℕ
