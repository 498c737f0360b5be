-- What is seen of a source in memory.
use Rattle.std.specs.Prelude.{ℕ, List}

pub record MemSourceSeen : Type 0 where
  -- the bytes that it has still to give
  pub left : List ℕ
  -- the numbers of the calls that fail
  pub fails : List ℕ
  -- how many calls there were, failed ones included
  pub calls : ℕ
  pub faults : ℕ
