-- The lines of a script, and what they ask for in all.
use Rattle.std.specs.Prelude.{◌<◌, ◌≤◌, ◌+◌, ℕ, List, length, All, AllPairs, sum_by}
use Rattle.sv_dir.specs.Path.{name_count}
use Rattle.sv_script.specs.declared.call.Call.{Call}
use Rattle.sv_script.specs.declared.call.Call.TheVariants as calls
use Rattle.sv_script.specs.declared.line.Line.{Line}
use Rattle.sv_script.specs.Grammar.{IsCall}

-- how many names the paths of a call have; a path that is refused has none
abbrev pub components : Call → ℕ
components (calls.Open path mode) = name_count path
components (calls.Creat path mode) = name_count path
components (calls.Mkdir path mode) = name_count path
components (calls.Read fd count) = 0
components (calls.Write fd bytes) = 0
components (calls.Fill fd count byte) = 0
components (calls.Lseek fd offset whence) = 0
components (calls.Close fd) = 0
components (calls.Dup fd) = 0
components (calls.Link first second) = name_count first + name_count second
components (calls.Unlink path) = name_count path
components (calls.Rmdir path) = name_count path
components (calls.Chdir path) = name_count path
components (calls.Stat path) = name_count path
components (calls.Fstat fd) = 0
components calls.Sync = 0

-- how many bytes a call asks to read, write or fill
abbrev pub asked : Call → ℕ
asked (calls.Open path mode) = 0
asked (calls.Creat path mode) = 0
asked (calls.Mkdir path mode) = 0
asked (calls.Read fd count) = count
asked (calls.Write fd bytes) = length bytes
asked (calls.Fill fd count byte) = count
asked (calls.Lseek fd offset whence) = 0
asked (calls.Close fd) = 0
asked (calls.Dup fd) = 0
asked (calls.Link first second) = 0
asked (calls.Unlink path) = 0
asked (calls.Rmdir path) = 0
asked (calls.Chdir path) = 0
asked (calls.Stat path) = 0
asked (calls.Fstat fd) = 0
asked calls.Sync = 0

abbrev pub component_sum : List Line → ℕ
component_sum lines = sum_by (λ l. components l.call) lines

abbrev pub asked_sum : List Line → ℕ
asked_sum lines = sum_by (λ l. asked l.call) lines

-- a script: its words, its line numbers and its sums are in their limits, and the numbers ascend
pub record IsScript (lines : List Line) : Type 0 where
  pub each : All (λ l. IsCall l.call) lines
  pub first : All (λ l. 1 ≤ l.number) lines
  pub last : All (λ l. l.number ≤ 16384) lines
  pub ascend : AllPairs (λ a b. a.number < b.number) lines
  pub components : component_sum lines ≤ 65536
  pub asked : asked_sum lines ≤ 4194304
