-- What is gathered of a source.
use Rattle.std.specs.Prelude.{◌≡◌, ◌≤◌, ◌+◌, ℕ, List, length, take, Option, IfSome}
use Rattle.sv_journal.specs.declared.gathering.GatherFault.{GatherFault}
use Rattle.sv_journal.specs.declared.gathering.GatherFault.TheVariants.{Fault, NoMemory}

-- the bytes are all that was left, or one more than so many where that is more, wherever it is told
pub record Gathers (told : Option (List ℕ)) (most : ℕ) (bytes : List ℕ) : Type 0 where
  pub few : length bytes ≤ most + 1
  pub front : IfSome told (λ left. bytes ≡ take (most + 1) left)

-- a fault has this cause; want of memory needs none
abbrev pub HasCauseOf : Type 0 → GatherFault → Type 0
HasCauseOf cause Fault = cause
HasCauseOf cause NoMemory = Unit {0}
