-- What is seen of a sink in memory.
use Rattle.std.specs.Prelude.{ℕ, List}

pub record MemSinkSeen : Type 0 where
  pub written : List ℕ
  -- how many bytes it can hold before it asks for memory again
  pub room : ℕ
  -- the numbers of the calls that fail
  pub fails : List ℕ
  -- how many calls there were, failed ones included
  pub calls : ℕ
  pub faults : ℕ
