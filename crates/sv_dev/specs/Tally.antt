-- Calls that are numbered from 1, of which those fail whose number is in a list.
use Rattle.std.specs.Prelude.{◌≡◌, ◌==◌, ℕ, Bool, List, [], Result, is_err, if◌then◌else◌}
use Rattle.std.specs.List.{list_any}
use Rattle.sv_dev.specs.Causes.{counted}

-- the numbers of the calls that fail, how many calls there were, and how many failures were counted
pub record Numbers : Type 0 where
  pub fails : List ℕ
  pub calls : ℕ
  pub faults : ℕ

-- is this number among those of the calls that fail
abbrev pub is_named : List ℕ → ℕ → Bool
is_named fails number = list_any (λ named. named == number) fails

-- the next call is one that fails
abbrev pub fails_next : Numbers → Bool
fails_next n = is_named n.fails (counted n.calls 1)

-- after one numbered call: a failure is counted, and nothing else is
abbrev pub after_next : Numbers → Numbers
after_next n = record n { calls = counted n.calls 1; faults = if fails_next n then counted n.faults 1 else n.faults }

-- where no call is to fail, no failure has been counted
abbrev pub IsQuiet : Numbers → Type 0
IsQuiet n = n.fails ≡ [] → n.faults ≡ 0

-- a numbered call fails exactly where the list has its number
pub record IsNumbered {T E : Type 0} (old new : Numbers) (result : Result T E) : Type 0 where
  pub named : is_err result ≡ fails_next old
  pub after : new ≡ after_next old
