-- Which lines a text has, and which of them is the first at fault.
use Rattle.std.specs.Prelude.{◌≡◌, ◌≢◌, ◌<◌, ◌≤◌, ◌+◌, ◌-◌, ◌==◌, nat_lt, ◌||◌, if◌then◌else◌, ℕ, Bool, List, [], ◌∷◌, ◌++◌, Option, Some}
use Rattle.std.specs.Prelude.{None, Result, Ok, Err, length, take, slice_index, slice_index_or, ◌⊎◌}
use Rattle.sv_script.specs.declared.call.Call.{Call}
use Rattle.sv_script.specs.declared.line.Line.{Line}
use Rattle.sv_script.specs.declared.fault.ScriptFault.{ScriptFault}
use Rattle.sv_script.specs.declared.fault.ScriptFault.TheVariants as faults
use Rattle.sv_script.specs.Outcome.{◌>>=◌}
use Rattle.sv_script.specs.Cut.{lines_of, words_of}
use Rattle.sv_script.specs.Grammar.{call_in}
use Rattle.sv_script.specs.Script.{component_sum, asked_sum}

-- an empty line, and one that begins with #, is passed over
abbrev pub is_passed_over : List ℕ → Bool
is_passed_over line = length line == 0 || slice_index line 0 == 35

-- what a line says: no call where it is passed over, a call, or a fault of its words
unfoldable pub read_line : List ℕ → Result (Option Call) ScriptFault
read_line line = if is_passed_over line then Ok None else (call_in (words_of line) >>= λ call. Ok (Some call))

-- the call of a line with the line's number; a line that says no call has none
abbrev pub line_with : ℕ → Result (Option Call) ScriptFault → List Line
line_with number (Ok (Some call)) = record { number = number; call = call } ∷ []
line_with number (Ok None) = []
line_with number (Err fault) = []

-- the calls of lines, the first of which has that number
abbrev pub script_from : ℕ → List (List ℕ) → List Line
script_from number [] = []
script_from number (line ∷ lines) = line_with number (read_line line) ++ script_from (number + 1) lines

-- the calls of lines that are numbered from 1
unfoldable pub script_of : List (List ℕ) → List Line
script_of lines = script_from 1 lines

-- so many lines, path components and asked bytes are too many
abbrev pub limit_of : ℕ → ℕ → ℕ → Option ScriptFault
limit_of number components asked =
    if nat_lt 16384 number then Some faults.Lines else if nat_lt 65536 components then Some faults.Lines else if nat_lt 4194304 asked then
    Some faults.Volume
    else None

abbrev pub limit_fault : ℕ → List Line → Option ScriptFault
limit_fault number script = limit_of number (component_sum script) (asked_sum script)

-- the fault of a line that comes after these: first its words are tried, then the limits, with what it asks for itself
abbrev pub fault_with : List (List ℕ) → Result (Option Call) ScriptFault → Option ScriptFault
fault_with lines (Err fault) = Some fault
fault_with lines (Ok said) = limit_fault (length lines) (script_of lines)

abbrev pub fault_after : List (List ℕ) → List ℕ → Option ScriptFault
fault_after before line = fault_with (before ++ line ∷ []) (read_line line)

-- the fault of the line at that place, from 0
unfoldable pub fault_at : List (List ℕ) → ℕ → Option ScriptFault
fault_at lines place = fault_after (take place lines) (slice_index_or lines place [])

-- no line is at fault
abbrev pub IsSound : List (List ℕ) → Type 0
IsSound lines = (place : ℕ) → place < length lines → fault_at lines place ≡ None

-- the line at that place, from 0, is the first at fault
pub record FirstFault (lines : List (List ℕ)) (place : ℕ) (fault : ScriptFault) : Type 0 where
  pub within : place < length lines
  pub here : fault_at lines place ≡ Some fault
  pub before : (k : ℕ) → k < place → fault_at lines k ≡ None

-- a text is a script: no line is at fault, and these are its calls
pub record IsScriptOf (text : List ℕ) (script : List Line) : Type 0 where
  pub most : length text ≤ 16777216
  pub sound : IsSound (lines_of text)
  pub lines : script ≡ script_of (lines_of text)

-- a text of too many bytes is at fault at line 0
pub record IsLarge (text : List ℕ) (number : ℕ) (fault : ScriptFault) : Type 0 where
  pub large : 16777216 < length text
  pub place : number ≡ 0
  pub volume : fault ≡ faults.Volume

-- the line of that number, from 1, is the first at fault
pub record IsFaulty (text : List ℕ) (number : ℕ) (fault : ScriptFault) : Type 0 where
  pub most : length text ≤ 16777216
  pub some : 1 ≤ number
  pub first : FirstFault (lines_of text) (number - 1) fault

-- why a text is no script; want of memory is tied to nothing
abbrev pub IsRefused : List ℕ → ℕ → ScriptFault → Type 0
IsRefused text number fault = (fault ≡ faults.NoMemory) ⊎ (IsLarge text number fault ⊎ IsFaulty text number fault)

-- a text is a script in one way
abbrev pub IsReadOneWay : Type 0
IsReadOneWay = (text : List ℕ) (script other : List Line) → IsScriptOf text script → IsScriptOf text other → script ≡ other

-- memory aside, a text is refused at one line for one fault
abbrev pub IsRefusedOneWay : Type 0
IsRefusedOneWay = (text : List ℕ) (m n : ℕ) (f g : ScriptFault) → IsRefused text m f → IsRefused text n g → f ≢ faults.NoMemory
    → g ≢ faults.NoMemory → (m ≡ n) × (f ≡ g)

-- memory aside, no script is refused
abbrev pub IsReadOrRefused : Type 0
IsReadOrRefused = (text : List ℕ) (script : List Line) (n : ℕ) (f : ScriptFault) → IsScriptOf text script → IsRefused text n f
    → f ≢ faults.NoMemory → ⊥
