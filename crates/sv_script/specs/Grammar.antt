-- What a line says: a call, by its first word and the words after it.
use Rattle.std.specs.Prelude.{◌≡◌, ◌≤◌, ◌≤ℤ◌, ℕ, ℤ, pos, neg_ℤ, List, [], ◌∷◌, Option, Some, None, Result, Ok, Err}
use Rattle.sv_script.specs.declared.call.Call.{Call}
use Rattle.sv_script.specs.declared.call.Call.TheVariants as calls
use Rattle.sv_script.specs.declared.fault.ScriptFault.{ScriptFault}
use Rattle.sv_script.specs.declared.fault.ScriptFault.TheVariants as faults
use Rattle.sv_script.specs.declared.verb.Verb.{Verb}
use Rattle.sv_script.specs.declared.verb.Verb.TheVariants as verbs
use Rattle.sv_script.specs.Outcome.{◌>>=◌, Fails}
use Rattle.sv_script.specs.Verb.{verb_of}
use Rattle.sv_script.specs.Cut.{IsPath, none, one, three, two}
use Rattle.sv_script.specs.Word.{hex_of, mode_of, number_of, octal_of, offset_of}

-- the one word, a path
abbrev pub path_in : List (List ℕ) → Result (List ℕ) ScriptFault
path_in words = one words

-- the one word, a descriptor
abbrev pub descriptor_in : List (List ℕ) → Result ℕ ScriptFault
descriptor_in words = one words >>= number_of 4294967295

-- a path and mode bits
abbrev pub path_and_bits_in : List (List ℕ) → Result (List ℕ × ℕ) ScriptFault
path_and_bits_in words = do
  ws ← two words
  bits ← octal_of ws.1
  Ok (ws.0, bits)

-- the further words of a line, in their order, and the call that they make with its first
abbrev pub call_by : Verb → List (List ℕ) → Result Call ScriptFault
call_by verbs.Open words = do
  ws ← two words
  mode ← mode_of ws.1
  Ok (calls.Open ws.0 mode)
call_by verbs.Creat words = path_and_bits_in words >>= λ ws. Ok (calls.Creat ws.0 ws.1)
call_by verbs.Mkdir words = path_and_bits_in words >>= λ ws. Ok (calls.Mkdir ws.0 ws.1)
call_by verbs.Read words = do
  ws ← two words
  fd ← number_of 4294967295 ws.0
  count ← number_of 4294967295 ws.1
  Ok (calls.Read fd count)
call_by verbs.Write words = do
  ws ← two words
  fd ← number_of 4294967295 ws.0
  bytes ← hex_of ws.1
  Ok (calls.Write fd bytes)
call_by verbs.Fill words = do
  ws ← three words
  fd ← number_of 4294967295 ws.0
  count ← number_of 4294967295 ws.1
  byte ← number_of 255 ws.2
  Ok (calls.Fill fd count byte)
call_by verbs.Lseek words = do
  ws ← three words
  fd ← number_of 4294967295 ws.0
  offset ← offset_of ws.1
  whence ← number_of 2 ws.2
  Ok (calls.Lseek fd offset whence)
call_by verbs.Close words = descriptor_in words >>= λ fd. Ok (calls.Close fd)
call_by verbs.Dup words = descriptor_in words >>= λ fd. Ok (calls.Dup fd)
call_by verbs.Link words = two words >>= λ ws. Ok (calls.Link ws.0 ws.1)
call_by verbs.Unlink words = path_in words >>= λ path. Ok (calls.Unlink path)
call_by verbs.Rmdir words = path_in words >>= λ path. Ok (calls.Rmdir path)
call_by verbs.Chdir words = path_in words >>= λ path. Ok (calls.Chdir path)
call_by verbs.Stat words = path_in words >>= λ path. Ok (calls.Stat path)
call_by verbs.Fstat words = descriptor_in words >>= λ fd. Ok (calls.Fstat fd)
call_by verbs.Sync words = none words >>= λ nothing. Ok calls.Sync

abbrev pub named : Option Verb → List (List ℕ) → Result Call ScriptFault
named None words = Err faults.Word
named (Some verb) words = call_by verb words

-- the words of a line: the first names the call
abbrev pub call_in : List (List ℕ) → Result Call ScriptFault
call_in [] = Err faults.Word
call_in (word ∷ words) = named (verb_of word) words

-- an offset is a number of a line, with or without a minus sign
abbrev pub IsOffset : ℤ → Type 0
IsOffset offset = (neg_ℤ (pos 4294967295) ≤ℤ offset) × (offset ≤ℤ pos 4294967295)

-- a word of a call is in its limits
abbrev pub IsCall : Call → Type 0
IsCall (calls.Open path mode) = IsPath path
IsCall (calls.Creat path mode) = IsPath path × (mode ≤ 4095)
IsCall (calls.Mkdir path mode) = IsPath path × (mode ≤ 4095)
IsCall (calls.Read fd count) = Unit {0}
IsCall (calls.Write fd bytes) = Unit {0}
IsCall (calls.Fill fd count byte) = Unit {0}
IsCall (calls.Lseek fd offset whence) = IsOffset offset × (whence ≤ 2)
IsCall (calls.Close fd) = Unit {0}
IsCall (calls.Dup fd) = Unit {0}
IsCall (calls.Link first second) = IsPath first × IsPath second
IsCall (calls.Unlink path) = IsPath path
IsCall (calls.Rmdir path) = IsPath path
IsCall (calls.Chdir path) = IsPath path
IsCall (calls.Stat path) = IsPath path
IsCall (calls.Fstat fd) = Unit {0}
IsCall calls.Sync = Unit {0}

-- what was answered is the call that the words make, in its limits
abbrev pub GivesCall : Result Call ScriptFault → Result Call ScriptFault → Type 0
GivesCall (Ok call) said = (said ≡ Ok call) × IsCall call
GivesCall (Err fault) said = Fails fault said
