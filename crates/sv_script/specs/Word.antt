-- What a single word of a line can be.
use Rattle.std.specs.Prelude.{◌==◌, nat_lt, if◌then◌else◌, ℕ, ℤ, pos, neg_ℤ, List, length, drop, slice_index, codes, nat_eq, Option, Some}
use Rattle.std.specs.Prelude.{None, Result, Ok, Err}
use Rattle.std.specs.List.{list_all}
use Rattle.std.specs.Cmp.Lexicographic.{pointwise}
use Rattle.sv_plain.specs.Digits as digits
use Rattle.sv_plain.specs.declared.fs.mode.Mode.{Mode}
use Rattle.sv_plain.specs.declared.fs.mode.Mode.TheVariants as modes
use Rattle.hex.specs.Hex.{decode_of}
use Rattle.hex.specs.declared.error.FromHexError.{FromHexError}
use Rattle.sv_script.specs.Outcome.{◌>>=◌}
use Rattle.sv_script.specs.declared.fault.ScriptFault.{ScriptFault}
use Rattle.sv_script.specs.declared.fault.ScriptFault.TheVariants as faults

-- a number that was read, or the refusal of the word
abbrev pub numbered : Option ℕ → Result ℕ ScriptFault
numbered (Some n) = Ok n
numbered None = Err faults.Number

-- a decimal number of at most so much, without leading zero
abbrev pub number_of : ℕ → List ℕ → Result ℕ ScriptFault
number_of most word = numbered (digits.number_of 10 most word)

-- one to four octal digits
abbrev pub octal_of : List ℕ → Result ℕ ScriptFault
octal_of word = if nat_lt 4 (length word) then Err faults.Number else numbered (digits.value_of 8 4095 word)

-- a number with a minus sign before it if wanted
abbrev pub offset_of : List ℕ → Result ℤ ScriptFault
offset_of word =
    if slice_index word 0 == 45 then (number_of 4294967295 (drop 1 word) >>= λ n. Ok (neg_ℤ (pos n))) else
    (number_of 4294967295 word >>= λ n. Ok (pos n))

-- an odd number of digits spells no bytes
abbrev pub hex_bytes : Result (List ℕ) FromHexError → Result (List ℕ) ScriptFault
hex_bytes (Ok bytes) = Ok bytes
hex_bytes (Err e) = Err faults.Hex

-- the bytes that an even number of lower case hexadecimal digits spell
abbrev pub hex_of : List ℕ → Result (List ℕ) ScriptFault
hex_of word = if list_all digits.is_lower_hex word then hex_bytes (decode_of word) else Err faults.Hex

abbrev pub mode_of : List ℕ → Result Mode ScriptFault
mode_of word =
    if pointwise nat_eq word (codes "r") then Ok modes.R else if pointwise nat_eq word (codes "w") then Ok modes.W
    else if pointwise nat_eq word (codes "rw") then Ok modes.RW else Err faults.Word
