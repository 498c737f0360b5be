-- What is seen of a disk in memory.
use Rattle.std.specs.Prelude.{ℕ, List, []}
use Rattle.sv_dev.specs.declared.mem_disk.Fail.{Fail}
use Rattle.sv_dev.specs.declared.mem_disk.Access.{Access}

pub record MemDiskSeen : Type 0 where
  pub content : List ℕ
  -- the calls that fail
  pub fails : List Fail
  -- the places asked, in order
  pub log : List Access
  pub reads : ℕ
  pub writes : ℕ
  pub faults : ℕ

-- a disk over these bytes that was asked nothing yet
abbrev pub untouched_disk : List ℕ → List Fail → MemDiskSeen
untouched_disk content fails = record { content = content; fails = fails; log = []; reads = 0; writes = 0; faults = 0 }
