-- What was read of a script so far.
use Rattle.std.specs.Prelude.{◌≡◌, ◌<◌, ◌≤◌, ◌+◌, ℕ, List, [], ◌∷◌, ◌++◌, Some, Result, length, take, drop, All, MatchResult, ◌⊎◌}
use Rattle.sv_script.specs.declared.call.Call.{Call}
use Rattle.sv_script.specs.declared.reading.Reading.{Reading}
use Rattle.sv_script.specs.declared.fault.ScriptFault.{ScriptFault}
use Rattle.sv_script.specs.declared.fault.ScriptFault.TheVariants as faults
use Rattle.sv_script.specs.Cut.{lines_of, IsPart}
use Rattle.sv_script.specs.Script.{IsScript, asked, asked_sum, component_sum, components}
use Rattle.sv_script.specs.Reading.{IsSound, fault_after, script_of}

-- the counters are in their limits
pub record IsWithin (r : Reading) : Type 0 where
  pub number : r.number ≤ 16384
  pub components : r.components ≤ 65536
  pub asked : r.asked ≤ 4194304

-- these lines were read, none of them at fault
pub record IsRead (lines : List (List ℕ)) (r : Reading) : Type 0 where
  pub number : r.number ≡ length lines
  pub script : r.lines.items ≡ script_of lines
  pub components : r.components ≡ component_sum r.lines.items
  pub asked : r.asked ≡ asked_sum r.lines.items
  pub within : IsWithin r
  pub sound : IsSound lines
  pub limits : IsScript r.lines.items
  pub last : All (λ l. l.number ≤ r.number) r.lines.items

-- one line more was read and passed over
pub record PassesOver (old new : Reading) : Type 0 where
  pub number : new.number ≡ old.number + 1
  pub script : new.lines.items ≡ old.lines.items
  pub components : new.components ≡ old.components
  pub asked : new.asked ≡ old.asked
  pub within : IsWithin new

-- one line more was read, with this call
pub record Adds (old new : Reading) (call : Call) : Type 0 where
  pub number : new.number ≡ old.number + 1
  pub script : new.lines.items ≡ old.lines.items ++ record { number = old.number + 1; call = call } ∷ []
  pub names : new.components ≡ old.components + components call
  pub bytes : new.asked ≡ old.asked + asked call
  pub within : IsWithin new

-- the line is read behind these lines, or at fault there
abbrev pub ReadsBehind : List (List ℕ) → List ℕ → Reading → Result Unit ScriptFault → Type 0
ReadsBehind before line new result =
    MatchResult result (λ _. IsRead (before ++ line ∷ []) new) (λ fault. (fault ≡ faults.NoMemory) ⊎ (fault_after before line ≡ Some fault))

-- so many lines of the text were read, and the rest is to come
pub record IsAt (text rest : List ℕ) (r : Reading) : Type 0 where
  pub read : IsRead (take r.number (lines_of text)) r
  pub left : lines_of rest ≡ drop r.number (lines_of text)
  pub size : length rest ≤ length text

-- a text begins with this line, and goes on with the rest
pub record BeginsWithLine (text line rest : List ℕ) : Type 0 where
  pub cut : lines_of text ≡ line ∷ lines_of rest
  pub part : length text ≤ 16777216 → IsPart line
  pub shorter : length rest < length text
