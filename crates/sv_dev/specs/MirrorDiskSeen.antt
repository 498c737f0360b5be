-- What is seen of a disk over a real file.
use Rattle.std.specs.Prelude.{ℕ, List}

pub record MirrorDiskSeen : Type 0 where
  -- the mirror
  pub content : List ℕ
  pub reads : ℕ
  pub writes : ℕ
  pub faults : ℕ
