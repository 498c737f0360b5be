-- A block that is lent out: its number and its bytes.
use Rattle.std.specs.Prelude.{ℕ, List}

pub record Loan : Type 0 where
  pub block : ℕ
  pub bytes : List ℕ
