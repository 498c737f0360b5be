-- The counts of a host in memory.
use Rattle.std.specs.Prelude.{ℕ, Bool, List}
use Rattle.sv_dev.specs.Causes.{counted}
use Rattle.sv_dev.specs.Tally.{is_named}

pub record HostCounts : Type 0 where
  -- the numbers of the calls that fail
  pub fails : List ℕ
  -- how many of the numbered calls there were, failed ones included
  pub calls : ℕ
  pub faults : ℕ
  pub disk_faults : ℕ
  pub source_faults : ℕ
  pub sink_faults : ℕ
  -- how often a source was asked for
  pub asked : ℕ

-- does the list name the next of the numbered calls
abbrev pub fails_next : HostCounts → Bool
fails_next counts = is_named counts.fails (counted counts.calls 1)
